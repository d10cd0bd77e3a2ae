use Rattle.std.proofs.Common.{◌≤◌, length, drop}
use Rattle.gr_touches.specs.Marks.{hits, Marks}
use Rattle.gr_touches.proofs.marks.mark_later.Given as goal

abbrev pub invariant-loop-left : goal.invariant-loop-left
invariant-loop-left l = record {
  within : l.left ≤ length l.touches;
  marks : Marks l.origin (hits l.wanted (drop l.left l.touches)) l.initial.marks l.marks;
}

abbrev pub decreases-loop-left : goal.decreases-loop-left
decreases-loop-left l = l.left
