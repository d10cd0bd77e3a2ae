use Rattle.std.proofs.Common.{◌≡◌, drop}
use Rattle.gr_tree.specs.Statements.{statements_of}
use Rattle.gr_types.specs.StatementViews.{clauses_of}
use Rattle.gr_exprs.specs.Tables.{scope_of}
use Rattle.gr_types.specs.ContextViews.{context_of}
use Rattle.gr_types.specs.FindingStatements.{body_in, clauses_in}
use Rattle.gr_types.specs.StatementParts.{stmts_before, cases_before}
use Rattle.gr_types.proofs.statements.+checking.Given as goal

abbrev pub invariant-body-loop-stmt : goal.invariant-body-loop-stmt
invariant-body-loop-stmt l =
    stmts_before l.steps.items (body_in (context_of l.context) (scope_of l.scope) (statements_of (drop l.stmt-index l.stmts))) ≡ body_in (context_of l.context) (scope_of l.initial.scope) (statements_of l.stmts)

abbrev pub invariant-cases-loop-clause : goal.invariant-cases-loop-clause
invariant-cases-loop-clause l =
    cases_before l.cases.items (clauses_in (context_of l.context) (scope_of l.scope) (clauses_of (drop l.clause-index l.clauses))) ≡ clauses_in (context_of l.context) (scope_of l.initial.scope) (clauses_of l.clauses)
