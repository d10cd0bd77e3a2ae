use Rattle.std.proofs.Common.{◌≡◌, ◌≤◌, ◌++◌, List, length, take}
use Rattle.gr_base.specs.declared.objects.Object.{Object}
use Rattle.gr_touches.specs.declared.touch.Touch.{Touch}
use Rattle.gr_touches.specs.Touches.{touches_for}
use Rattle.gr_touches.specs.Lists.{list_of}
use Rattle.gr_touches.specs.Room.{KeepsRoom}
use Rattle.gr_touches.proofs.lanes.Lanes.forget_all.Given as goal

abbrev pub invariant-loop-left : goal.invariant-loop-left
invariant-loop-left l = record {
  within : l.left ≤ length l.objects;
  keeps : (before : Object → List Touch) (t : Touch) → ((q : Object) → list_of l.initial.self q ≡ before q ++ touches_for q t l.objects)
      → (q : Object) → list_of l.self q ≡ before q ++ touches_for q t (take l.left l.objects);
  room : KeepsRoom l.initial.self l.self;
}

abbrev pub decreases-loop-left : goal.decreases-loop-left
decreases-loop-left l = l.left
