use Rattle.std.proofs.Common.{◌≡◌, drop}
use Rattle.gr_types.specs.StatementViews.{clauses_of}
use Rattle.gr_typing.specs.Statements.{defaults, at_most_one}
use Rattle.gr_types.proofs.Stepping.{counted}
use Rattle.gr_types.proofs.selects.has_at_most_one_default.Given as goal

abbrev pub invariant-loop-clause : goal.invariant-loop-clause
invariant-loop-clause l = at_most_one (counted l.has_default (defaults (clauses_of (drop l.clause-index l.clauses)))) ≡ at_most_one (defaults (clauses_of l.clauses))
