use Rattle.std.proofs.Common.{◌≡◌, drop}
use Rattle.gr_tree.specs.Statements.{optional, statements_of}
use Rattle.gr_typing.specs.Endings.{breaks_in, breaks_among}
use Rattle.gr_types.specs.StatementViews.{clauses_of}
use Rattle.gr_types.proofs.endings.+breaking.Given as goal

abbrev pub invariant-breaks_in-loop-statement : goal.invariant-breaks_in-loop-statement
invariant-breaks_in-loop-statement l = breaks_in (optional (λ x. x.now) l.label) l.near (statements_of (drop l.statement-index l.statements)) ≡ breaks_in (optional (λ x. x.now) l.label) l.near (statements_of l.statements)

abbrev pub invariant-breaks_among-loop-clause : goal.invariant-breaks_among-loop-clause
invariant-breaks_among-loop-clause l = breaks_among (optional (λ x. x.now) l.label) l.near (clauses_of (drop l.clause-index l.clauses)) ≡ breaks_among (optional (λ x. x.now) l.label) l.near (clauses_of l.clauses)
