use Rattle.std.proofs.Common.{take}
use Rattle.gr_touches.specs.Marks.{Marks}
use Rattle.gr_touches.specs.Walks.{AreWalked, hits_any}
use Rattle.gr_touches.proofs.lanes.Lanes.mark_all.Given as goal

abbrev pub invariant-loop-i : goal.invariant-loop-i
invariant-loop-i l = record {
  marks : Marks l.origin (hits_any l.self l.wanted (take l.i l.objects)) l.initial.marks l.marks;
  walked : AreWalked l.self l.origin l.wanted l.walked l.marks;
}
