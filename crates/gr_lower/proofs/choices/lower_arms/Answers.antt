use Rattle.std.proofs.Common.{◌≡◌, ◌+◌, ◌-◌, ◌<◌, ◌++◌, ◌∷◌, length, drop, ap, ◌∙◌, sym, arith, vec_len}
use Rattle.gr_program.specs.Views.{case_on, cases_of}
use Rattle.gr_rules.specs.Points.{case_operands}
use Rattle.gr_code.specs.CodeViews.{arm_of, arms_of, instructions_of}
use Rattle.gr_code.specs.Passing.{parts_in}
use Rattle.gr_lower.specs.PartCode.{code_in}
use Rattle.gr_lower.specs.StatementCode.{arms}
use Rattle.gr_lower.specs.Asked.{clause_sizes}
use Rattle.gr_lower.proofs.Emits.{alone}
use Rattle.gr_lower.proofs.StatementEmits.{drop_cases, drop_no_cases}
use Rattle.gr_lower.proofs.ArmEmits.{arms_push, one_clause}
use Rattle.gr_lower.proofs.choices.lower_arms.Goals as goal

pub loop-case-preserved : goal.loop-case-preserved
loop-case-preserved c =
    let i = c.loop-case.case-index in
    let a = c.args in
    let cs = a.cases.now in
    let x = c.case-item.result in
    let rest = cases_of (drop (i + 1) cs) in
    let lt : i < length cs = omega arith in
    let m : cases_of (drop i cs) ≡ case_on x rest = drop_cases cs i x lt ∙ ap (λ y. case_on y rest) (sym c.case-item.is) in
    let b = c.len-start.result in
    let o = vec_len c.loop-case.out in
    let o' = vec_len c.lower_arm.new.out in
    let t = c.in_ok-next.next in
    let many = c.ask-many.result in
    let place = c.loop-case.place in
    let arm = c.in_ok-arm.arm in
    let found = c.loop-case.found.items in
    let more = c.in_ok-arm.ensures.more in
    let n : t ≡ a.first + (o - b) = omega (arith, c.in_ok-next.ensures, c.len.ensures) in
    let s : a.first + (o' - b) ≡ t + (o' - o) = omega (arith, n, more, c.loop-case.invariant.from) in
    let old = instructions_of c.loop-case.out.items in
    let new = instructions_of c.lower_arm.new.out.items in
    let after = c.in_ok-after.after in
    let one = one_clause x in
    record {
      from = omega (arith, more, c.loop-case.invariant.from);
      begun = c.loop-case.invariant.begun;
      code = ap (λ k. new ++ code_in (case_operands rest) k o') s ∙ c.in_ok-arm.ensures.code rest
          ∙ ap (λ y. old ++ code_in (case_operands y) t o) (sym m) ∙ ap (λ k. old ++ code_in (case_operands (cases_of (drop i cs))) k o) n
          ∙ c.loop-case.invariant.code;
      grown = c.in_ok-arm.ensures.grown rest ∙ ap (λ y. o + parts_in (case_operands y)) (sym m) ∙ c.loop-case.invariant.grown;
      value = λ more q.
          let before = c.loop-case.invariant.value more q in
          let s1 = c.ask-many.ensures one.0 (clause_sizes rest ++ more) (before.0 ∙ ap (λ l. clause_sizes l ++ more) m ∙ ap (λ l. l ++ more) (one.1 rest)) in
          let to = c.entry-to.ensures in
          let value = c.in_ok-arm.ensures.value rest many place a.on (one.1 rest ∙ ap (λ k. k ∷ clause_sizes rest) (sym s1.0)) to in (
            s1.1,
            ap (λ l. arms_of l ++ arms rest (a.first + (o' - b)) a.first after a.on) c.in_ok-push.ensures.items
                ∙ arms_push found arm (arms rest (a.first + (o' - b)) a.first after a.on)
                ∙ ap (λ l. arms_of found ++ l)
                (ap (λ k. arm_of arm ∷ arms rest k a.first after a.on) s ∙ ap (λ k. arm_of arm ∷ arms rest (t + (o' - o)) a.first k a.on) c.in_ok-after.ensures
                ∙ sym value ∙ ap (λ y. arms y t a.first place a.on) (sym m) ∙ ap (λ k. arms (cases_of (drop i cs)) k a.first place a.on) n)
                ∙ before.1,
          );
    }

pub returns-clause-value : goal.returns-clause-value
returns-clause-value c more q =
    let a = c.args in
    let z = drop_no_cases a.cases.now c.loop-case.case-index (omega arith) in
    let found = arms_of c.loop-case.found.items in
    let d = a.first + (vec_len c.loop-case.out - c.len-start.result) in
    let before = c.loop-case.invariant.value more q in (
      before.0 ∙ ap (λ l. clause_sizes l ++ more) z,
      sym (alone found) ∙ ap (λ y. found ++ arms y d a.first c.loop-case.place a.on) (sym z) ∙ before.1,
    )
