use Rattle.std.proofs.Common.{◌≡◌, length}
use Rattle.std.specs.List.{list_any}
use Rattle.gr_code.specs.CodeViews.{arms_of}
use Rattle.gr_step.specs.Objects.{contents_in}
use Rattle.gr_step.specs.Possible.{arm_goes}
use Rattle.gr_step.proofs.objects.Objects.any_arm_can_proceed.Given as goal

abbrev pub invariant-loop-left : goal.invariant-loop-left
invariant-loop-left l =
    list_any (arm_goes (contents_in l.self) l.cells) (arms_of l.left) ≡ list_any (arm_goes (contents_in l.self) l.cells) (arms_of l.fn.arms)

abbrev pub decreases-loop-left : goal.decreases-loop-left
decreases-loop-left l = length l.left
