use Rattle.std.proofs.Common.{◌≡◌, drop}
use Rattle.gr_typing.specs.Endings.{all_end}
use Rattle.gr_types.specs.StatementViews.{clauses_of}
use Rattle.gr_types.proofs.endings.+ending.Given as goal

abbrev pub invariant-all_end-loop-clause : goal.invariant-all_end-loop-clause
invariant-all_end-loop-clause l = all_end (clauses_of (drop l.clause-index l.clauses)) ≡ all_end (clauses_of l.clauses)
