use Rattle.std.proofs.Common.{ap, ◌∙◌}
use Rattle.std.proofs.lemmas.Result.{err_from_is_err_and}
use Rattle.gr_tree.specs.Exprs.{trees_of}
use Rattle.gr_exprs.specs.Tables.{scope_of}
use Rattle.gr_exprs.specs.FunctionTables.{functions_of}
use Rattle.gr_exprs.specs.Calling.{values_in}
use Rattle.gr_exprs.proofs.Arguments.{call_rejected, call_agrees, value_on, all_values}
use Rattle.gr_exprs.proofs.expressions.+finding.Goals as goal

pub find-returns-in_err-values-in-Call : goal.find-returns-in_err-values-in-Call
find-returns-in_err-values-in-Call t c =
    let p = err_from_is_err_and c.from_residual-in_err-values-in-Call.result c.from_residual-in_err-values-in-Call.ensures.1 in
    rw (p.1, p.2) (call_rejected (functions_of c.args.functions.now) (scope_of c.args.scope.now) c.args.expr.now c.in-Call.name c.in-Call.arguments c.deref-in-Call-2.result.now c.in_ok-callee-in-Call.callee c.deref-in-Call-3.result.now c.in_err-values-in-Call.field-0.0 c.in-Call.is (c.deref-in-Call-2.ensures.value ∙ ap (λ v. v.items) c.deref-in-Call.ensures) c.deref-in-Call-3.ensures.value c.in_ok-callee-in-Call.ensures.value c.in_err-values-in-Call.ensures)

pub find-returns-in_ok-values-in-Call : goal.find-returns-in_ok-values-in-Call
find-returns-in_ok-values-in-Call t c =
    call_agrees (functions_of c.args.functions.now) (scope_of c.args.scope.now) c.args.expr.now c.in-Call.name c.in-Call.arguments c.deref-in-Call-2.result.now c.in_ok-callee-in-Call.callee c.deref-in-Call-3.result.now c.in_ok-values-in-Call.values.items c.call.result c.in-Call.is (c.deref-in-Call-2.ensures.value ∙ ap (λ v. v.items) c.deref-in-Call.ensures) c.deref-in-Call-3.ensures.value c.in_ok-callee-in-Call.ensures.value c.in_ok-values-in-Call.ensures c.call.ensures

pub find_all-loop-expr-preserved : goal.find_all-loop-expr-preserved
find_all-loop-expr-preserved t c =
    let fs = functions_of c.args.functions.now in
    let s = scope_of c.args.scope.now in
    value_on fs s c.args.exprs.now c.loop-expr.expr-index c.loop-expr.values.items (values_in fs s (trees_of c.args.exprs.now)) c.loop-expr.invariant c.expr-item.result c.in_ok-value.value c.push_back.new.self.items c.loop-expr-test.true c.expr-item.is c.in_ok-value.ensures c.in_ok-push_back.ensures.items

pub find_all-returns : goal.find_all-returns
find_all-returns t c =
    let fs = functions_of c.args.functions.now in
    let s = scope_of c.args.scope.now in
    all_values fs s c.args.exprs.now c.loop-expr.expr-index c.loop-expr.values.items (values_in fs s (trees_of c.args.exprs.now)) c.loop-expr.invariant c.loop-expr-test.false
