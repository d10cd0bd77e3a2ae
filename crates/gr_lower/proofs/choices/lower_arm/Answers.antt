use Rattle.std.proofs.Common.{◌≡◌, ◌+◌, ◌-◌, ◌++◌, ap, ◌∙◌, sym, arith, vec_len}
use Rattle.gr_program.specs.TypeViews.{literal_of}
use Rattle.gr_program.specs.Views.{expr_of, stmts_of, case_on}
use Rattle.gr_program.proofs.Rows.{default_is, send_is, receive_is}
use Rattle.gr_rules.specs.Operands as rules
use Rattle.gr_rules.specs.Points.{case_operands}
use Rattle.gr_code.specs.CodeViews.{operand_of, instructions_of}
use Rattle.gr_code.specs.Passing.{parts, parts_in}
use Rattle.gr_lower.specs.PartCode.{code_in}
use Rattle.gr_lower.specs.StatementCode.{into, arms}
use Rattle.gr_lower.specs.Asked.{clause_sizes}
use Rattle.gr_lower.proofs.ArmEmits.{code_before, default_arm_is, send_arm_is, receive_arm_is}
use Rattle.gr_lower.proofs.choices.lower_arm.Goals as goal

pub returns-in-Default-clause-code : goal.returns-in-Default-clause-code
returns-in-Default-clause-code c others =
    let k = c.in-Default in
    let o = vec_len c.args.out.now in
    let out = instructions_of c.args.out.now.items in
    let n : c.args.next + (o - o) ≡ c.args.next = omega arith in
    ap (λ m. out ++ code_in (case_operands others) m o) n
    ∙ ap (λ x. out ++ code_in (case_operands x) c.args.next o) (sym (ap (λ y. case_on y others) k.is ∙ default_is k.field-0 others))

pub returns-in-Default-clause-grown : goal.returns-in-Default-clause-grown
returns-in-Default-clause-grown c others =
    let k = c.in-Default in
    ap (λ x. vec_len c.args.out.now + parts_in (case_operands x)) (sym (ap (λ y. case_on y others) k.is ∙ default_is k.field-0 others))

pub returns-in-Default-clause-value : goal.returns-in-Default-clause-value
returns-in-Default-clause-value c others n begins on en et =
    let k = c.in-Default in
    let a = c.args in
    let o = vec_len a.out.now in
    let e = ap (λ y. case_on y others) k.is ∙ default_is k.field-0 others in
    let t : a.next + (o - o) ≡ a.next = omega arith in
    ap (λ y. arms y a.next a.first begins on) e
    ∙ default_arm_is (stmts_of k.field-0.items) others a.next a.first begins on c.in_ok-to.to n _ (c.in_ok-to.ensures ∙ et) (sym (ap clause_sizes e) ∙ en) t

pub returns-in-Ok-lower_expr-clause-code : goal.returns-in-Ok-lower_expr-clause-code
returns-in-Ok-lower_expr-clause-code c others =
    let k = c.in-Send in
    let a = c.args in
    let f = rules.operand_of (expr_of k.channel) in
    let g = rules.operand_of (expr_of k.value) in
    let es = case_operands others in
    let o = vec_len a.out.now in
    let o1 = vec_len c.lower_expr.new.out in
    let o2 = vec_len c.lower_expr-in-Send.new.out in
    let pre = instructions_of a.out.now.items in
    let out1 = instructions_of c.lower_expr.new.out.items in
    let out2 = instructions_of c.lower_expr-in-Send.new.out.items in
    let u = c.in-Ok.next in
    let g1 = c.in_ok-channel-in-Send.ensures.grown in
    let g2 = c.in-Ok-lower_expr.ensures.grown in
    let eu : u ≡ a.next + parts f = omega (arith, c.in-Ok.ensures, c.len-start.ensures, c.len.ensures, g1) in
    let et : a.next + (o2 - o) ≡ u + parts g = omega (arith, eu, g1, g2) in
    code_before g es u o1 (a.next + (o2 - o)) o2 out1 out2 c.in-Ok-lower_expr.ensures.code et g2
    ∙ code_before f (rules.also g es) a.next o u o1 pre out1 c.in_ok-channel-in-Send.ensures.code eu g1
    ∙ ap (λ x. pre ++ code_in (case_operands x) a.next o) (sym (ap (λ y. case_on y others) k.is ∙ send_is k.channel k.value k.body others))

pub returns-in-Ok-lower_expr-clause-grown : goal.returns-in-Ok-lower_expr-clause-grown
returns-in-Ok-lower_expr-clause-grown c others =
    let k = c.in-Send in
    let e = ap (λ x. parts_in (case_operands x)) (ap (λ y. case_on y others) k.is ∙ send_is k.channel k.value k.body others) in
    omega (arith, e, c.in_ok-channel-in-Send.ensures.grown, c.in-Ok-lower_expr.ensures.grown)

pub returns-in-Ok-lower_expr-clause-value : goal.returns-in-Ok-lower_expr-clause-value
returns-in-Ok-lower_expr-clause-value c others n begins on en ez =
    let k = c.in-Send in
    let a = c.args in
    let f = rules.operand_of (expr_of k.channel) in
    let g = rules.operand_of (expr_of k.value) in
    let o = vec_len a.out.now in
    let o2 = vec_len c.lower_expr-in-Send.new.out in
    let u = c.in-Ok.next in
    let g1 = c.in_ok-channel-in-Send.ensures.grown in
    let g2 = c.in-Ok-lower_expr.ensures.grown in
    let eu : u ≡ a.next + parts f = omega (arith, c.in-Ok.ensures, c.len-start.ensures, c.len.ensures, g1) in
    let et : a.next + (o2 - o) ≡ a.next + parts f + parts g = omega (arith, g1, g2) in
    let e = ap (λ y. case_on y others) k.is ∙ send_is k.channel k.value k.body others in
    ap (λ y. arms y a.next a.first begins on) e
    ∙ send_arm_is (expr_of k.channel) (expr_of k.value) (stmts_of k.body.items) others a.next a.first begins on
    (operand_of c.in_ok-channel-in-Send.channel) (operand_of c.in-Ok-lower_expr.value)
    c.in_ok-to.to n u (a.next + (o2 - o)) c.in_ok-channel-in-Send.ensures.value c.in-Ok-lower_expr.ensures.value eu (c.in_ok-to.ensures ∙ ez)
    (sym (ap clause_sizes e) ∙ en) et

pub returns-in_ok-channel-in-Receive-clause-code : goal.returns-in_ok-channel-in-Receive-clause-code
returns-in_ok-channel-in-Receive-clause-code c others =
    let k = c.in-Receive in
    let a = c.args in
    let f = rules.operand_of (expr_of k.channel) in
    let o = vec_len a.out.now in
    let o1 = vec_len c.lower_expr-in-Receive.new.out in
    let pre = instructions_of a.out.now.items in
    let g1 = c.in_ok-channel-in-Receive.ensures.grown in
    let et : a.next + (o1 - o) ≡ a.next + parts f = omega (arith, g1) in
    code_before f (case_operands others) a.next o (a.next + (o1 - o)) o1 pre
    (instructions_of c.lower_expr-in-Receive.new.out.items) c.in_ok-channel-in-Receive.ensures.code et g1
    ∙ ap (λ x. pre ++ code_in (case_operands x) a.next o) (sym (ap (λ y. case_on y others) k.is ∙ receive_is k.targets k.channel k.zero k.body others))

pub returns-in_ok-channel-in-Receive-clause-grown : goal.returns-in_ok-channel-in-Receive-clause-grown
returns-in_ok-channel-in-Receive-clause-grown c others =
    let k = c.in-Receive in
    let e = ap (λ x. parts_in (case_operands x)) (ap (λ y. case_on y others) k.is ∙ receive_is k.targets k.channel k.zero k.body others) in
    omega (arith, e, c.in_ok-channel-in-Receive.ensures.grown)

pub returns-in_ok-channel-in-Receive-clause-value : goal.returns-in_ok-channel-in-Receive-clause-value
returns-in_ok-channel-in-Receive-clause-value c others n begins on en ez =
    let k = c.in-Receive in
    let a = c.args in
    let f = rules.operand_of (expr_of k.channel) in
    let o = vec_len a.out.now in
    let o1 = vec_len c.lower_expr-in-Receive.new.out in
    let et : a.next + (o1 - o) ≡ a.next + parts f = omega (arith, c.in_ok-channel-in-Receive.ensures.grown) in
    let e = ap (λ y. case_on y others) k.is ∙ receive_is k.targets k.channel k.zero k.body others in
    let i = c.in_ok-into-in-Receive.ensures ∙ ap (λ l. into l a.first) c.deref.ensures.value in
    ap (λ y. arms y a.next a.first begins on) e
    ∙ receive_arm_is k.targets.items (expr_of k.channel) (literal_of k.zero) (stmts_of k.body.items) others a.next a.first begins on
    (operand_of c.in_ok-channel-in-Receive.channel) c.in_ok-into-in-Receive.into
    c.in_ok-to.to n (a.next + (o1 - o)) c.in_ok-channel-in-Receive.ensures.value i (c.in_ok-to.ensures ∙ ez) (sym (ap clause_sizes e) ∙ en) et
