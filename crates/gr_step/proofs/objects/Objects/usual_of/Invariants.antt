use Rattle.std.proofs.Common.{◌≡◌, ◌+◌, length}
use Rattle.gr_code.specs.CodeViews.{arms_of}
use Rattle.gr_step.specs.Objects.{contents_in}
use Rattle.gr_step.specs.Possible.{first_going}
use Rattle.gr_step.proofs.objects.Objects.usual_of.Given as goal

-- no clause so far can proceed, and those that are left come after the number
abbrev pub invariant-loop-left : goal.invariant-loop-left
invariant-loop-left l = record {
  first : first_going (contents_in l.self) l.cells (l.number + 1) (arms_of l.left) ≡ first_going (contents_in l.self) l.cells 1 (arms_of l.fn.arms);
  count : l.number + length l.left ≡ length l.fn.arms;
}

abbrev pub decreases-loop-left : goal.decreases-loop-left
decreases-loop-left l = length l.left
