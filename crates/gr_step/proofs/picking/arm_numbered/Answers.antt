use Rattle.std.proofs.Common.{ap, ◌∙◌}
use Rattle.std.specs.Prelude.{option_map}
use Rattle.gr_code.specs.CodeViews.{arm_of}
use Rattle.gr_step.proofs.PickLemmas.{arm_counted}
use Rattle.gr_step.proofs.picking.arm_numbered.Goals as goal

pub returns : goal.returns
returns c =
    ap (option_map arm_of) c.arm_with.ensures ∙ arm_counted c.args.arms.now c.args.number c.in-Some.place c.in-Some.ensures.0 c.in-Some.ensures.1
