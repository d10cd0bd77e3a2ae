use Rattle.std.proofs.Common.{refl, ap, sym, ◌∙◌}
use Rattle.std.specs.Prelude.{Some}
use Rattle.std.proofs.lemmas.Result.{err_from_is_err_and}
use Rattle.gr_tree.specs.Statements.{for_of, if_of, optional, statement_of, statements_of}
use Rattle.gr_types.specs.StatementViews.{clauses_of}
use Rattle.gr_exprs.specs.Tables.{scope_of}
use Rattle.gr_types.specs.ContextViews.{context_of}
use Rattle.gr_program.specs.Views.{stmts_of, case_on}
use Rattle.gr_types.specs.FindingStatements.{statement_in, body_in, clauses_in}
use Rattle.gr_exprs.specs.Finding.{◌>>=◌}
use Rattle.gr_types.specs.StatementParts.{made_of, block_in, tested_of, tested_in, if_in, else_in, else_if_in, for_in, select_in}
use Rattle.gr_types.proofs.Stepping.{no_steps, step_on, none_on, stopped, all_steps, no_cases, case_on_next, case_stopped, all_cases, default_as, case_as, default_done, block_as, if_as, else_as, else_if_as, for_as, select_as, denied, denied_first, denied_then, select_refused}
use Rattle.gr_types.proofs.statements.+checking.Goals as goal

pub body-loop-stmt-init : goal.body-loop-stmt-init
body-loop-stmt-init t c =
    no_steps c.in_ok-steps.steps.items (body_in (context_of c.args.context.now) (scope_of c.args.scope.now) (statements_of c.args.stmts.now)) c.in_ok-steps.ensures.items

pub body-returns-in_err-step : goal.body-returns-in_err-step
body-returns-in_err-step t c =
    let p = err_from_is_err_and c.from_residual-in_err-step.result c.from_residual-in_err-step.ensures.1 in
    let whole = body_in (context_of c.args.context.now) (scope_of c.args.scope.now) (statements_of c.args.stmts.now) in
    rw (p.1, p.2) (stopped (context_of c.args.context.now) c.args.stmts.now c.loop-stmt.stmt-index c.stmt-item.result c.loop-stmt.steps.items (scope_of c.loop-stmt.scope) whole c.loop-stmt-test.true c.stmt-item.is c.loop-stmt.invariant c.in_err-step.field-0.0 c.in_err-step.ensures)

pub body-loop-stmt-preserved : goal.body-loop-stmt-preserved
body-loop-stmt-preserved t c =
    let whole = body_in (context_of c.args.context.now) (scope_of c.args.scope.now) (statements_of c.args.stmts.now) in
    let u = scope_of c.statement.new.scope in
    step_on (context_of c.args.context.now) c.args.stmts.now c.loop-stmt.stmt-index c.stmt-item.result c.loop-stmt.steps.items (scope_of c.loop-stmt.scope) whole c.loop-stmt-test.true c.stmt-item.is c.loop-stmt.invariant c.in-Some.step c.push.new.self.items u (c.in_ok-step.ensures ∙ ap (λ o. Some (made_of o, u)) c.in-Some.is) c.in_ok-push.ensures.items

pub body-loop-stmt-preserved-in_default : goal.body-loop-stmt-preserved-in_default
body-loop-stmt-preserved-in_default t c =
    let whole = body_in (context_of c.args.context.now) (scope_of c.args.scope.now) (statements_of c.args.stmts.now) in
    let u = scope_of c.statement.new.scope in
    none_on (context_of c.args.context.now) c.args.stmts.now c.loop-stmt.stmt-index c.stmt-item.result c.loop-stmt.steps.items (scope_of c.loop-stmt.scope) whole c.loop-stmt-test.true c.stmt-item.is c.loop-stmt.invariant u (c.in_ok-step.ensures ∙ ap (λ o. Some (made_of o, u)) c.in_default.is)

pub body-returns : goal.body-returns
body-returns t c =
    let whole = body_in (context_of c.args.context.now) (scope_of c.args.scope.now) (statements_of c.args.stmts.now) in
    all_steps (context_of c.args.context.now) c.args.stmts.now c.loop-stmt.stmt-index c.loop-stmt.steps.items (scope_of c.loop-stmt.scope) whole c.loop-stmt-test.false c.loop-stmt.invariant

pub cases-loop-clause-init : goal.cases-loop-clause-init
cases-loop-clause-init t c =
    no_cases c.in_ok-cases.cases.items (clauses_in (context_of c.args.context.now) (scope_of c.args.scope.now) (clauses_of c.args.clauses.now)) c.in_ok-cases.ensures.items

pub cases-returns-in_err-case : goal.cases-returns-in_err-case
cases-returns-in_err-case t c =
    let p = err_from_is_err_and c.from_residual-in_err-case.result c.from_residual-in_err-case.ensures.1 in
    let whole = clauses_in (context_of c.args.context.now) (scope_of c.args.scope.now) (clauses_of c.args.clauses.now) in
    rw (p.1, p.2) (case_stopped (context_of c.args.context.now) c.args.clauses.now c.loop-clause.clause-index c.clause-item.result c.loop-clause.cases.items (scope_of c.loop-clause.scope) whole c.loop-clause-test.true c.clause-item.is c.loop-clause.invariant c.in_err-case.field-0.0 c.in_err-case.ensures)

pub cases-loop-clause-preserved : goal.cases-loop-clause-preserved
cases-loop-clause-preserved t c =
    let whole = clauses_in (context_of c.args.context.now) (scope_of c.args.scope.now) (clauses_of c.args.clauses.now) in
    case_on_next (context_of c.args.context.now) c.args.clauses.now c.loop-clause.clause-index c.clause-item.result c.loop-clause.cases.items (scope_of c.loop-clause.scope) whole c.loop-clause-test.true c.clause-item.is c.loop-clause.invariant c.in_ok-case.case c.push.new.self.items (scope_of c.case.new.scope) c.in_ok-case.ensures c.in_ok-push.ensures.items

pub cases-returns : goal.cases-returns
cases-returns t c =
    let whole = clauses_in (context_of c.args.context.now) (scope_of c.args.scope.now) (clauses_of c.args.clauses.now) in
    all_cases (context_of c.args.context.now) c.args.clauses.now c.loop-clause.clause-index c.loop-clause.cases.items (scope_of c.loop-clause.scope) whole c.loop-clause-test.false c.loop-clause.invariant

pub case-returns-in-Default : goal.case-returns-in-Default
case-returns-in-Default t c =
    rw (default_as (context_of c.args.context.now) (scope_of c.args.scope.now) c.args.clause.now c.in-Default.body c.deref.result.now c.in-Default.is c.deref.ensures.value) c.default_case.ensures

pub case-returns-in-Case : goal.case-returns-in-Case
case-returns-in-Case t c =
    rw (case_as (context_of c.args.context.now) (scope_of c.args.scope.now) c.args.clause.now c.in-Case.communication c.in-Case.body c.deref-in-Case.result.now c.in-Case.is c.deref-in-Case.ensures.value) c.awaited_case.ensures

pub default_case-returns : goal.default_case-returns
default_case-returns t c =
    default_done (context_of c.args.context.now) (scope_of c.args.scope.now) (scope_of c.enter.new.self) (scope_of c.body.new.scope) (scope_of c.leave.new.self) (statements_of c.args.stmts.now) (stmts_of c.in_ok-steps.steps.items) (case_on c.default_case.result) c.in_ok-enter.ensures c.in_ok-steps.ensures c.default_case.ensures c.leave.ensures

pub statement-returns-in_err-block-in-Block : goal.statement-returns-in_err-block-in-Block
statement-returns-in_err-block-in-Block t c =
    let r = c.from_residual-in_err-block-in-Block in
    let p = err_from_is_err_and r.result r.ensures.1 in
    let o = statement_in (context_of c.args.context.now) (scope_of c.args.scope.now) (optional (λ x. x.now) c.args.label) (statement_of c.args.stmt.now) in
    let same = block_as (context_of c.args.context.now) (scope_of c.args.scope.now) (optional (λ x. x.now) c.args.label) c.args.stmt.now c.in-Block.field-0 c.in-Block.body c.deref.result.now c.in-Block.is c.deref.ensures.value in
    rw (p.1, p.2) (denied c.in_err-block-in-Block.field-0.0 o (block_in (context_of c.args.context.now) (scope_of c.args.scope.now) (statements_of c.deref.result.now)) same c.in_err-block-in-Block.ensures)

pub statement-returns-in_ok-block-in-Block : goal.statement-returns-in_ok-block-in-Block
statement-returns-in_ok-block-in-Block t c =
    block_as (context_of c.args.context.now) (scope_of c.args.scope.now) (optional (λ x. x.now) c.args.label) c.args.stmt.now c.in-Block.field-0 c.in-Block.body c.deref.result.now c.in-Block.is c.deref.ensures.value
    ∙ c.in_ok-block-in-Block.ensures

pub statement-returns-in_err-only_if-in-If : goal.statement-returns-in_err-only_if-in-If
statement-returns-in_err-only_if-in-If t c =
    let r = c.from_residual-in_err-only_if-in-If in
    let p = err_from_is_err_and r.result r.ensures.1 in
    let o = statement_in (context_of c.args.context.now) (scope_of c.args.scope.now) (optional (λ x. x.now) c.args.label) (statement_of c.args.stmt.now) in
    let same = if_as (context_of c.args.context.now) (scope_of c.args.scope.now) (optional (λ x. x.now) c.args.label) c.args.stmt.now c.in-If.place c.in-If.head c.in-If.body c.deref-in-If.result.now c.in-If.is c.deref-in-If.ensures.value in
    rw (p.1, p.2) (denied c.in_err-only_if-in-If.field-0.0 o (if_in (context_of c.args.context.now) (scope_of c.args.scope.now) c.in-If.place (if_of c.in-If.head) (statements_of c.deref-in-If.result.now)) same c.in_err-only_if-in-If.ensures)

pub statement-returns-in_ok-only_if-in-If : goal.statement-returns-in_ok-only_if-in-If
statement-returns-in_ok-only_if-in-If t c =
    if_as (context_of c.args.context.now) (scope_of c.args.scope.now) (optional (λ x. x.now) c.args.label) c.args.stmt.now c.in-If.place c.in-If.head c.in-If.body c.deref-in-If.result.now c.in-If.is c.deref-in-If.ensures.value
    ∙ c.in_ok-only_if-in-If.ensures

pub statement-returns-in_err-for_step-in-For : goal.statement-returns-in_err-for_step-in-For
statement-returns-in_err-for_step-in-For t c =
    let r = c.from_residual-in_err-for_step-in-For in
    let p = err_from_is_err_and r.result r.ensures.1 in
    let o = statement_in (context_of c.args.context.now) (scope_of c.args.scope.now) (optional (λ x. x.now) c.args.label) (statement_of c.args.stmt.now) in
    let same = for_as (context_of c.args.context.now) (scope_of c.args.scope.now) (optional (λ x. x.now) c.args.label) c.args.stmt.now c.in-For.place c.in-For.head c.in-For.body c.deref-in-For.result.now c.in-For.is c.deref-in-For.ensures.value in
    rw (p.1, p.2) (denied c.in_err-for_step-in-For.field-0.0 o (for_in (context_of c.args.context.now) (scope_of c.args.scope.now) (optional (λ x. x.now) c.args.label) c.in-For.place (for_of c.in-For.head) (statements_of c.deref-in-For.result.now)) same c.in_err-for_step-in-For.ensures)

pub statement-returns-in_ok-for_step-in-For : goal.statement-returns-in_ok-for_step-in-For
statement-returns-in_ok-for_step-in-For t c =
    for_as (context_of c.args.context.now) (scope_of c.args.scope.now) (optional (λ x. x.now) c.args.label) c.args.stmt.now c.in-For.place c.in-For.head c.in-For.body c.deref-in-For.result.now c.in-For.is c.deref-in-For.ensures.value
    ∙ c.in_ok-for_step-in-For.ensures

pub statement-returns-in_err-select-in-Select : goal.statement-returns-in_err-select-in-Select
statement-returns-in_err-select-in-Select t c =
    let r = c.from_residual-in_err-select-in-Select in
    let p = err_from_is_err_and r.result r.ensures.1 in
    let o = statement_in (context_of c.args.context.now) (scope_of c.args.scope.now) (optional (λ x. x.now) c.args.label) (statement_of c.args.stmt.now) in
    let same = select_as (context_of c.args.context.now) (scope_of c.args.scope.now) (optional (λ x. x.now) c.args.label) c.args.stmt.now c.in-Select.place c.in-Select.clauses c.deref-in-Select.result.now c.in-Select.is c.deref-in-Select.ensures.value in
    rw (p.1, p.2) (denied c.in_err-select-in-Select.field-0.0 o (select_in (context_of c.args.context.now) (scope_of c.args.scope.now) (optional (λ x. x.now) c.args.label) c.in-Select.place (clauses_of c.deref-in-Select.result.now)) same c.in_err-select-in-Select.ensures)

pub statement-returns-in_ok-select-in-Select : goal.statement-returns-in_ok-select-in-Select
statement-returns-in_ok-select-in-Select t c =
    select_as (context_of c.args.context.now) (scope_of c.args.scope.now) (optional (λ x. x.now) c.args.label) c.args.stmt.now c.in-Select.place c.in-Select.clauses c.deref-in-Select.result.now c.in-Select.is c.deref-in-Select.ensures.value
    ∙ c.in_ok-select-in-Select.ensures

pub statement-returns-in_err-if_else-in-IfElse : goal.statement-returns-in_err-if_else-in-IfElse
statement-returns-in_err-if_else-in-IfElse t c =
    let r = c.from_residual-in_err-if_else-in-IfElse in
    let p = err_from_is_err_and r.result r.ensures.1 in
    let o = statement_in (context_of c.args.context.now) (scope_of c.args.scope.now) (optional (λ x. x.now) c.args.label) (statement_of c.args.stmt.now) in
    let same = else_as (context_of c.args.context.now) (scope_of c.args.scope.now) (optional (λ x. x.now) c.args.label) c.args.stmt.now c.in-IfElse.place c.in-IfElse.head c.in-IfElse.body c.in-IfElse.otherwise c.deref-in-IfElse.result.now c.deref-in-IfElse-2.result.now c.in-IfElse.is c.deref-in-IfElse.ensures.value c.deref-in-IfElse-2.ensures.value in
    let first = tested_in (context_of c.args.context.now) (scope_of c.args.scope.now) (if_of c.in-IfElse.head) (statements_of c.deref-in-IfElse.result.now) in
    rw (p.1, p.2) (denied_then c.in_err-if_else-in-IfElse.field-0.0 o first (λ t. else_in (context_of c.args.context.now) c.in-IfElse.place (statements_of c.deref-in-IfElse-2.result.now) t.0 t.1) (tested_of c.in_ok-tested-in-IfElse.tested, scope_of c.tested.new.scope) same c.in_ok-tested-in-IfElse.ensures c.in_err-if_else-in-IfElse.ensures)

pub statement-returns-in_ok-if_else-in-IfElse : goal.statement-returns-in_ok-if_else-in-IfElse
statement-returns-in_ok-if_else-in-IfElse t c =
    else_as (context_of c.args.context.now) (scope_of c.args.scope.now) (optional (λ x. x.now) c.args.label) c.args.stmt.now c.in-IfElse.place c.in-IfElse.head c.in-IfElse.body c.in-IfElse.otherwise c.deref-in-IfElse.result.now c.deref-in-IfElse-2.result.now c.in-IfElse.is c.deref-in-IfElse.ensures.value c.deref-in-IfElse-2.ensures.value
    ∙ ap (λ q. q >>= (λ t. else_in (context_of c.args.context.now) c.in-IfElse.place (statements_of c.deref-in-IfElse-2.result.now) t.0 t.1)) c.in_ok-tested-in-IfElse.ensures ∙ c.in_ok-if_else-in-IfElse.ensures

pub statement-returns-in_err-if_else_if-in-IfElseIf : goal.statement-returns-in_err-if_else_if-in-IfElseIf
statement-returns-in_err-if_else_if-in-IfElseIf t c =
    let r = c.from_residual-in_err-if_else_if-in-IfElseIf in
    let p = err_from_is_err_and r.result r.ensures.1 in
    let o = statement_in (context_of c.args.context.now) (scope_of c.args.scope.now) (optional (λ x. x.now) c.args.label) (statement_of c.args.stmt.now) in
    let same = else_if_as (context_of c.args.context.now) (scope_of c.args.scope.now) (optional (λ x. x.now) c.args.label) c.args.stmt.now c.in-IfElseIf.place c.in-IfElseIf.head c.in-IfElseIf.body c.in-IfElseIf.otherwise c.deref-in-IfElseIf.result.now c.deref-in-IfElseIf-2.result.now c.in-IfElseIf.is c.deref-in-IfElseIf.ensures.value c.deref-in-IfElseIf-2.ensures in
    let first = tested_in (context_of c.args.context.now) (scope_of c.args.scope.now) (if_of c.in-IfElseIf.head) (statements_of c.deref-in-IfElseIf.result.now) in
    rw (p.1, p.2) (denied_then c.in_err-if_else_if-in-IfElseIf.field-0.0 o first (λ t. else_if_in (context_of c.args.context.now) c.in-IfElseIf.place (statement_of c.deref-in-IfElseIf-2.result.now) t.0 t.1) (tested_of c.in_ok-tested-in-IfElseIf.tested, scope_of c.tested-in-IfElseIf.new.scope) same c.in_ok-tested-in-IfElseIf.ensures c.in_err-if_else_if-in-IfElseIf.ensures)

pub statement-returns-in_ok-if_else_if-in-IfElseIf : goal.statement-returns-in_ok-if_else_if-in-IfElseIf
statement-returns-in_ok-if_else_if-in-IfElseIf t c =
    else_if_as (context_of c.args.context.now) (scope_of c.args.scope.now) (optional (λ x. x.now) c.args.label) c.args.stmt.now c.in-IfElseIf.place c.in-IfElseIf.head c.in-IfElseIf.body c.in-IfElseIf.otherwise c.deref-in-IfElseIf.result.now c.deref-in-IfElseIf-2.result.now c.in-IfElseIf.is c.deref-in-IfElseIf.ensures.value c.deref-in-IfElseIf-2.ensures
    ∙ ap (λ q. q >>= (λ t. else_if_in (context_of c.args.context.now) c.in-IfElseIf.place (statement_of c.deref-in-IfElseIf-2.result.now) t.0 t.1)) c.in_ok-tested-in-IfElseIf.ensures ∙ c.in_ok-if_else_if-in-IfElseIf.ensures

pub statement-returns-in_err-tested-in-IfElse : goal.statement-returns-in_err-tested-in-IfElse
statement-returns-in_err-tested-in-IfElse t c =
    let r = c.from_residual-in_err-tested-in-IfElse in
    let p = err_from_is_err_and r.result r.ensures.1 in
    let o = statement_in (context_of c.args.context.now) (scope_of c.args.scope.now) (optional (λ x. x.now) c.args.label) (statement_of c.args.stmt.now) in
    let same = else_as (context_of c.args.context.now) (scope_of c.args.scope.now) (optional (λ x. x.now) c.args.label) c.args.stmt.now c.in-IfElse.place c.in-IfElse.head c.in-IfElse.body c.in-IfElse.otherwise c.deref-in-IfElse.result.now c.in-IfElse.otherwise.items c.in-IfElse.is c.deref-in-IfElse.ensures.value refl in
    let first = tested_in (context_of c.args.context.now) (scope_of c.args.scope.now) (if_of c.in-IfElse.head) (statements_of c.deref-in-IfElse.result.now) in
    rw (p.1, p.2) (denied_first c.in_err-tested-in-IfElse.field-0.0 o first (λ t. else_in (context_of c.args.context.now) c.in-IfElse.place (statements_of c.in-IfElse.otherwise.items) t.0 t.1) same c.in_err-tested-in-IfElse.ensures)

pub statement-returns-in_err-tested-in-IfElseIf : goal.statement-returns-in_err-tested-in-IfElseIf
statement-returns-in_err-tested-in-IfElseIf t c =
    let r = c.from_residual-in_err-tested-in-IfElseIf in
    let p = err_from_is_err_and r.result r.ensures.1 in
    let o = statement_in (context_of c.args.context.now) (scope_of c.args.scope.now) (optional (λ x. x.now) c.args.label) (statement_of c.args.stmt.now) in
    let same = else_if_as (context_of c.args.context.now) (scope_of c.args.scope.now) (optional (λ x. x.now) c.args.label) c.args.stmt.now c.in-IfElseIf.place c.in-IfElseIf.head c.in-IfElseIf.body c.in-IfElseIf.otherwise c.deref-in-IfElseIf.result.now c.in-IfElseIf.otherwise.value c.in-IfElseIf.is c.deref-in-IfElseIf.ensures.value refl in
    let first = tested_in (context_of c.args.context.now) (scope_of c.args.scope.now) (if_of c.in-IfElseIf.head) (statements_of c.deref-in-IfElseIf.result.now) in
    rw (p.1, p.2) (denied_first c.in_err-tested-in-IfElseIf.field-0.0 o first (λ t. else_if_in (context_of c.args.context.now) c.in-IfElseIf.place (statement_of c.in-IfElseIf.otherwise.value) t.0 t.1) same c.in_err-tested-in-IfElseIf.ensures)

pub select-returns-in-Err : goal.select-returns-in-Err
select-returns-in-Err t c =
    select_refused (context_of c.args.context.now) (context_of c.within-inner.result) (scope_of c.args.scope.now) (optional (λ x. x.now) c.args.label) c.args.place (clauses_of c.args.clauses.now) c.in-Err.error c.first_error.result (sym c.has_at_most_one_default.ensures ∙ c.if-not-has_at_most_one_default.false) c.within-inner.ensures c.first_error.ensures c.in-Err.ensures
