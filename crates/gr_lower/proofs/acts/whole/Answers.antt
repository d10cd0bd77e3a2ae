use Rattle.std.proofs.Common.{ap, ◌∙◌, sym, arith, vec_len}
use Rattle.gr_program.specs.Views.{expr_of, exprs_of}
use Rattle.gr_program.proofs.Rows.{call_is}
use Rattle.gr_rules.specs.Operands as operand
use Rattle.gr_code.specs.CodeViews.{operands_of, instructions_of}
use Rattle.gr_lower.specs.Sizes.{whole_size}
use Rattle.gr_lower.proofs.Emits.{on_ok}
use Rattle.gr_lower.proofs.ActEmits.{whole_call_emits}
use Rattle.gr_lower.proofs.acts.whole.Goals as goal

pub returns-in_ok-arguments-in-Call-clause-code : goal.returns-in_ok-arguments-in-Call-clause-code
returns-in_ok-arguments-in-Call-clause-code c =
    let f = c.in-Call.function in
    let es = operand.operands_of (exprs_of c.deref.result.now) in
    let e = ap (λ x. operand.operand_of (expr_of x)) c.in-Call.is ∙ ap operand.operand_of (call_is f c.in-Call.arguments)
    ∙ ap (λ l. operand.Call f (operand.operands_of (exprs_of l))) (sym c.deref.ensures.value) in
    let a = c.in_ok-arguments-in-Call in
    let g = c.in_ok-function-in-Call in
    on_ok c.put.result c.put.ensures.code
    (whole_call_emits f g.function (operand.operand_of (expr_of c.args.value.now)) es (operands_of a.arguments.items)
    c.args.first (vec_len c.args.out.now) c.args.on
    (instructions_of c.args.out.now.items) (instructions_of c.lower_exprs.new.out.items) _ e a.ensures.value a.ensures.code g.ensures)

pub returns-in_ok-arguments-in-Call-clause-grown : goal.returns-in_ok-arguments-in-Call-clause-grown
returns-in_ok-arguments-in-Call-clause-grown c =
    let f = c.in-Call.function in
    let e = ap (λ x. whole_size (operand.operand_of (expr_of x))) c.in-Call.is ∙ ap (λ x. whole_size (operand.operand_of x)) (call_is f c.in-Call.arguments)
    ∙ ap (λ l. whole_size (operand.Call f (operand.operands_of (exprs_of l)))) (sym c.deref.ensures.value) in
    on_ok c.put.result c.put.ensures.grown (λ h. omega (arith, h, e, c.in_ok-arguments-in-Call.ensures.grown))
