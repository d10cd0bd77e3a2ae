use Rattle.std.proofs.Common.{◌≡◌, ℕ, suc, ◌-◌, ◌≤◌, None, Some, sym, ◌∙◌, arith}
use Rattle.gr_step.specs.Objects.{contents_in}
use Rattle.gr_step.proofs.PossibleLemmas.{arm_here}
use Rattle.gr_step.proofs.objects.Objects.number_can_proceed.Goals as goal

one_more : (n place : ℕ) → 1 ≤ n → place ≡ n - 1 → n ≡ suc place
one_more n place some is = omega (arith, some, is)

pub returns-in-Some-arm_with : goal.returns-in-Some-arm_with
returns-in-Some-arm_with c =
    c.arm_can_proceed.ensures
    ∙ arm_here (contents_in c.args.self.now) c.args.cells.now c.args.arms.now c.args.number c.in-Some.place (Some c.in-Some-arm_with.arm.now)
    (one_more c.args.number c.in-Some.place c.in-Some.ensures.0 c.in-Some.ensures.1) (sym c.in-Some-arm_with.ensures)

pub returns-in-None : goal.returns-in-None
returns-in-None c =
    arm_here (contents_in c.args.self.now) c.args.cells.now c.args.arms.now c.args.number c.in-Some.place None
    (one_more c.args.number c.in-Some.place c.in-Some.ensures.0 c.in-Some.ensures.1) (sym c.in-None.ensures)
