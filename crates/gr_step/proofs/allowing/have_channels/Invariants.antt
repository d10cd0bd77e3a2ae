use Rattle.std.proofs.Common.{◌≡◌, length}
use Rattle.std.specs.List.{list_all}
use Rattle.gr_code.specs.CodeViews.{arms_of}
use Rattle.gr_step.specs.Possible.{arm_given}
use Rattle.gr_step.proofs.allowing.have_channels.Given as goal

abbrev pub invariant-loop-left : goal.invariant-loop-left
invariant-loop-left l = list_all (arm_given l.cells) (arms_of l.left) ≡ list_all (arm_given l.cells) (arms_of l.fn.arms)

abbrev pub decreases-loop-left : goal.decreases-loop-left
decreases-loop-left l = length l.left
