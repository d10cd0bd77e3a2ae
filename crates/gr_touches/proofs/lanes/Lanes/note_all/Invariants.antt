use Rattle.std.proofs.Common.{take}
use Rattle.gr_touches.specs.Lists.{AddsFor}
use Rattle.gr_touches.specs.Room.{KeepsRoom}
use Rattle.gr_touches.proofs.lanes.Lanes.note_all.Given as goal

abbrev pub invariant-loop-i : goal.invariant-loop-i
invariant-loop-i l = record {
  lists : AddsFor (take l.i l.objects) l.touch l.initial.self l.self;
  room : KeepsRoom l.initial.self l.self;
}
