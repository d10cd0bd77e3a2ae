use Rattle.std.proofs.Common.{take}
use Rattle.gr_touches.specs.Room.{KeepsRoom}
use Rattle.gr_depend.specs.Logs.{AreListsOf}
use Rattle.gr_depend.proofs.middle.note_from.Given as goal

-- the lists are those of the steps up to this place
abbrev pub invariant-loop-place : goal.invariant-loop-place
invariant-loop-place l = record {
  lists : AreListsOf (take l.place l.steps) l.lanes;
  room : KeepsRoom l.initial.lanes l.lanes;
}
