use Rattle.std.proofs.Common.{◌≡◌, ◌+◌, ◌-◌, ◌<◌, ◌++◌, length, drop, ap, ◌∙◌, sym, arith, vec_len}
use Rattle.gr_program.specs.Programs.{more}
use Rattle.gr_program.specs.Views.{expr_of, exprs_of}
use Rattle.gr_program.proofs.Rows.{call_is}
use Rattle.gr_rules.specs.Operands as operand
use Rattle.gr_code.specs.CodeViews.{operand_of, operands_of, instructions_of}
use Rattle.gr_code.specs.Passing.{parts, parts_in}
use Rattle.gr_lower.specs.PartCode.{left, left_in, code}
use Rattle.gr_lower.proofs.Emits.{binary_emits, call_emits, on_ok, if_ok, drop_exprs, drop_none, code_on, left_on, joined, joined_end}
use Rattle.gr_lower.proofs.expressions.+lowering.Goals as goal

pub lower_expr-returns-in_ok-arguments-in-Call-clause-code : goal.lower_expr-returns-in_ok-arguments-in-Call-clause-code
lower_expr-returns-in_ok-arguments-in-Call-clause-code t c =
    let f = c.in-Call.function in
    let es = operand.operands_of (exprs_of c.deref-in-Call.result.now) in
    let e = ap (λ x. operand.operand_of (expr_of x)) c.in-Call.is ∙ ap operand.operand_of (call_is f c.in-Call.arguments)
    ∙ ap (λ l. operand.Call f (operand.operands_of (exprs_of l))) (sym c.deref-in-Call.ensures.value) in
    let g = c.in_ok-function-in-Call in
    on_ok c.part-in-Call.result c.part-in-Call.ensures.code
    (call_emits f g.function (operand.operand_of (expr_of c.args.expr.now)) es
    (operands_of c.in_ok-arguments-in-Call.arguments.items) c.args.first
    (vec_len c.args.out.now) _ _
    (instructions_of c.args.out.now.items)
    (instructions_of c.lower_exprs.new.out.items) _ e c.in_ok-arguments-in-Call.ensures.value c.in_ok-arguments-in-Call.ensures.code
    (omega (arith, c.len-begins.ensures, c.in_ok-arguments-in-Call.ensures.grown)) (omega (arith, c.in_ok-arguments-in-Call.ensures.grown))
    g.ensures)

pub lower_expr-returns-in_ok-arguments-in-Call-clause-grown : goal.lower_expr-returns-in_ok-arguments-in-Call-clause-grown
lower_expr-returns-in_ok-arguments-in-Call-clause-grown t c =
    let f = c.in-Call.function in
    let e = ap (λ x. parts (operand.operand_of (expr_of x))) c.in-Call.is ∙ ap (λ x. parts (operand.operand_of x)) (call_is f c.in-Call.arguments)
    ∙ ap (λ l. parts (operand.Call f (operand.operands_of (exprs_of l)))) (sym c.deref-in-Call.ensures.value) in
    on_ok c.part-in-Call.result c.part-in-Call.ensures.grown (λ h. omega (arith, h, e, c.in_ok-arguments-in-Call.ensures.grown))

pub lower_expr-returns-in_ok-arguments-in-Call-clause-value : goal.lower_expr-returns-in_ok-arguments-in-Call-clause-value
lower_expr-returns-in_ok-arguments-in-Call-clause-value t c =
    let f = c.in-Call.function in
    let es = operand.operands_of (exprs_of c.deref-in-Call.result.now) in
    let d = c.args.first in
    let e = ap (λ x. left (operand.operand_of (expr_of x)) d) c.in-Call.is ∙ ap (λ x. left (operand.operand_of x) d) (call_is f c.in-Call.arguments)
    ∙ ap (λ l. left (operand.Call f (operand.operands_of (exprs_of l))) d) (sym c.deref-in-Call.ensures.value) in
    let n : d + (vec_len c.lower_exprs.new.out - c.len-begins.result)
    ≡ d + parts_in es = omega (arith, c.len-begins.ensures, c.in_ok-arguments-in-Call.ensures.grown) in
    if_ok c.part-in-Call.result c.part-in-Call.ensures.value (λ x h. h ∙ ap operand.Variable n ∙ sym e)

pub lower_expr-returns-in-Ok-clause-code : goal.lower_expr-returns-in-Ok-clause-code
lower_expr-returns-in-Ok-clause-code t c =
    let k = c.in-Binary in
    let a = operand.operand_of (expr_of c.deref-in-Binary.result.now) in
    let b = operand.operand_of (expr_of c.deref-in-Ok.result.now) in
    let e = ap (λ x. operand.operand_of (expr_of x)) k.is
    ∙ ap (λ x. operand.Binary k.op (operand.operand_of (expr_of x)) (operand.operand_of (expr_of k.right.value))) (sym c.deref-in-Binary.ensures)
    ∙ ap (λ x. operand.Binary k.op a (operand.operand_of (expr_of x))) (sym c.deref-in-Ok.ensures) in
    on_ok c.lower_right.result c.lower_right.ensures.code
    (binary_emits k.op (operand.operand_of (expr_of c.args.expr.now)) a b c.args.first (vec_len c.args.out.now) c.in-Ok.next _
    (operand_of c.in_ok-left-in-Binary.left)
    (instructions_of c.args.out.now.items) (instructions_of c.lower_expr-in-Binary.new.out.items) _ e c.in_ok-left-in-Binary.ensures.value
    (omega (
      arith,
      c.in-Ok.ensures,
      c.len-begins.ensures,
      c.in_ok-left-in-Binary.ensures.grown,
    )) c.in_ok-left-in-Binary.ensures.grown c.in_ok-left-in-Binary.ensures.code)

pub lower_exprs-loop-expr-preserved : goal.lower_exprs-loop-expr-preserved
lower_exprs-loop-expr-preserved t c =
    let i = c.loop-expr.expr-index in
    let es = c.args.exprs.now in
    let x = c.expr-item.result in
    let e = operand.operand_of (expr_of x) in
    let rest = exprs_of (drop (i + 1) es) in
    let lt : i < length es = omega arith in
    let m : operand.operands_of (exprs_of (drop i es))
    ≡ operand.also e (operand.operands_of rest) = ap operand.operands_of (drop_exprs es i x lt
    ∙ ap (λ y. more (expr_of y) rest) (sym c.expr-item.is)) in
    let p : parts_in (operand.operands_of (exprs_of (drop i es))) ≡ parts e + parts_in (operand.operands_of rest) = ap parts_in m in
    let g = c.in_ok-operand.ensures.grown in
    let b = c.len-begins.result in
    let d = c.args.first + (vec_len c.loop-expr.out - b) in
    let n : c.in_ok-next.next ≡ d = omega (arith, c.in_ok-next.ensures, c.len.ensures) in
    let d' = c.args.first + (vec_len c.lower_expr.new.out - b) in
    let ed : d' ≡ d + parts e = omega (arith, g, c.loop-expr.invariant.from) in
    let code : instructions_of c.lower_expr.new.out.items ≡ instructions_of c.loop-expr.out.items ++ code e d (vec_len c.loop-expr.out) =
    c.in_ok-operand.ensures.code ∙ ap (λ k. instructions_of c.loop-expr.out.items ++ code e k (vec_len c.loop-expr.out)) n in
    let value : operand_of c.in_ok-operand.operand ≡ left e d = c.in_ok-operand.ensures.value ∙ ap (left e) n in
    record {
      from = omega (arith, g, c.loop-expr.invariant.from);
      begun = c.loop-expr.invariant.begun;
      code = code_on (exprs_of (drop i es)) rest e d d' (vec_len c.loop-expr.out) _ _ _ _ m ed g code c.loop-expr.invariant.code;
      grown = omega (arith, g, p, c.loop-expr.invariant.grown);
      value = left_on (exprs_of (drop i es)) rest e d d' (vec_len c.loop-expr.out)
          (vec_len c.lower_expr.new.out) _ _ c.in_ok-operand.operand _ m ed c.in_ok-push.ensures.items value c.loop-expr.invariant.value;
    }

pub lower_exprs-returns-clause-value : goal.lower_exprs-returns-clause-value
lower_exprs-returns-clause-value t c =
    let z = drop_none c.args.exprs.now c.loop-expr.expr-index (omega arith) in
    let d = c.args.first + (vec_len c.loop-expr.out - c.len-begins.result) in
    sym (joined_end (operands_of c.loop-expr.operands.items))
    ∙ ap (λ t. joined (operands_of c.loop-expr.operands.items) (left_in (operand.operands_of t) d)) (sym z) ∙ c.loop-expr.invariant.value
