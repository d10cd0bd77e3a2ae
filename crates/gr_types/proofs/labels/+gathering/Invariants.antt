use Rattle.std.proofs.Common.{◌≡◌, drop}
use Rattle.gr_tree.specs.Statements.{statements_of}
use Rattle.gr_typing.specs.Labels.{uses_in, uses_among}
use Rattle.gr_types.specs.StatementViews.{clauses_of}
use Rattle.gr_types.specs.LabelTables.{names_of, with_names}
use Rattle.gr_types.proofs.labels.+gathering.Given as goal

abbrev pub invariant-gather-loop-statement : goal.invariant-gather-loop-statement
invariant-gather-loop-statement l = with_names (names_of l.used) (uses_in (statements_of (drop l.statement-index l.statements))) ≡ with_names (names_of l.fn.used) (uses_in (statements_of l.statements))

abbrev pub invariant-gather_clauses-loop-clause : goal.invariant-gather_clauses-loop-clause
invariant-gather_clauses-loop-clause l = with_names (names_of l.used) (uses_among (clauses_of (drop l.clause-index l.clauses))) ≡ with_names (names_of l.fn.used) (uses_among (clauses_of l.clauses))
