use Rattle.std.proofs.Common.{◌≤◌, length, take}
use Rattle.gr_touches.specs.Room.{KeepsRoom}
use Rattle.gr_depend.specs.Logs.{AreListsOf}
use Rattle.gr_depend.proofs.middle.forget_from.Given as goal

-- the lists are those of the steps that are left
abbrev pub invariant-loop-left : goal.invariant-loop-left
invariant-loop-left l = record {
  from : l.at ≤ l.left;
  within : l.left ≤ length l.steps;
  lists : AreListsOf (take l.left l.steps) l.lanes;
  room : KeepsRoom l.initial.lanes l.lanes;
}

abbrev pub decreases-loop-left : goal.decreases-loop-left
decreases-loop-left l = l.left
