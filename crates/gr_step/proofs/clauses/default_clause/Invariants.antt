use Rattle.std.proofs.Common.{◌≡◌, ◌+◌, drop}
use Rattle.gr_rules.specs.Selects.{default_from}
use Rattle.gr_goros.specs.Views.{communications_of}
use Rattle.gr_step.proofs.clauses.default_clause.Given as goal

abbrev pub invariant-loop-place : goal.invariant-loop-place
invariant-loop-place l = default_from (l.place + 1) (communications_of (drop l.place l.clauses)) ≡ default_from 1 (communications_of l.clauses)
