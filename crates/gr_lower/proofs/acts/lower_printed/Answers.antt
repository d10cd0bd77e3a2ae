use Rattle.std.proofs.Common.{◌≡◌, ◌+◌, ◌-◌, ◌<◌, ◌++◌, ◌∷◌, length, drop, ap, ◌∙◌, sym, arith, vec_len}
use Rattle.gr_program.specs.Views.{expr_of, printed_of, prints_of}
use Rattle.gr_rules.specs.Operands as rules
use Rattle.gr_rules.specs.Points.{printed_operands}
use Rattle.gr_code.specs.CodeViews.{operand_of, operands_of, instructions_of}
use Rattle.gr_code.specs.Passing.{parts, parts_in}
use Rattle.gr_lower.specs.PartCode.{left, left_in, code}
use Rattle.gr_lower.proofs.Emits.{joined, joined_end}
use Rattle.gr_lower.proofs.ActEmits.{drop_prints, drop_no_prints, operand_code_on, operand_left_on}
use Rattle.gr_lower.proofs.acts.lower_printed.Goals as goal

pub loop-printed-preserved : goal.loop-printed-preserved
loop-printed-preserved c =
    let i = c.loop-printed.printed-index in
    let vs = c.args.values.now in
    let v = c.printed-item.result in
    let e = rules.operand_of (expr_of c.in-Value.value) in
    let rest = prints_of (drop (i + 1) vs) in
    let lt : i < length vs = omega arith in
    let m : printed_operands (prints_of (drop i vs)) ≡ rules.also e (printed_operands rest) =
    ap printed_operands (drop_prints vs i v lt ∙ ap (λ y. printed_of y ∷ rest) (sym c.printed-item.is))
    ∙ ap (λ y. printed_operands (printed_of y ∷ rest)) c.in-Value.is in
    let p : parts_in (printed_operands (prints_of (drop i vs))) ≡ parts e + parts_in (printed_operands rest) = ap parts_in m in
    let g = c.in_ok-operand.ensures.grown in
    let b = c.len-begins.result in
    let d = c.args.first + (vec_len c.loop-printed.out - b) in
    let d' = c.args.first + (vec_len c.lower_expr.new.out - b) in
    let n : c.in_ok-next.next ≡ d = omega (arith, c.in_ok-next.ensures, c.len.ensures) in
    let ed : d' ≡ d + parts e = omega (arith, g, c.loop-printed.invariant.from) in
    let code : instructions_of c.lower_expr.new.out.items ≡ instructions_of c.loop-printed.out.items ++ code e d (vec_len c.loop-printed.out) =
    c.in_ok-operand.ensures.code ∙ ap (λ k. instructions_of c.loop-printed.out.items ++ code e k (vec_len c.loop-printed.out)) n in
    let value : operand_of c.in_ok-operand.operand ≡ left e d = c.in_ok-operand.ensures.value ∙ ap (left e) n in
    record {
      from = omega (arith, g, c.loop-printed.invariant.from);
      begun = c.loop-printed.invariant.begun;
      code = operand_code_on (printed_operands (prints_of (drop i vs))) (printed_operands rest) e d d'
          (vec_len c.loop-printed.out) _ _ _ _ m ed g code c.loop-printed.invariant.code;
      grown = omega (arith, g, p, c.loop-printed.invariant.grown);
      value = operand_left_on (printed_operands (prints_of (drop i vs))) (printed_operands rest) e d d' (vec_len c.loop-printed.out)
          (vec_len c.lower_expr.new.out) _ _ c.in_ok-operand.operand _ m ed c.in_ok-push.ensures.items value c.loop-printed.invariant.value;
    }

pub returns-clause-value : goal.returns-clause-value
returns-clause-value c =
    let z = drop_no_prints c.args.values.now c.loop-printed.printed-index (omega arith) in
    let d = c.args.first + (vec_len c.loop-printed.out - c.len-begins.result) in
    sym (joined_end (operands_of c.loop-printed.operands.items))
    ∙ ap (λ t. joined (operands_of c.loop-printed.operands.items) (left_in (printed_operands t) d)) (sym z) ∙ c.loop-printed.invariant.value
