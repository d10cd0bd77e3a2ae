use Rattle.std.proofs.Common.{◌≡◌, ◌≤◌, length, drop}
use Rattle.gr_tables.specs.NamedChannels.{contents_of, rooms_of, HasRooms, KeepsRooms}
use Rattle.gr_tables.proofs.channels.Channels.make_room.Given as goal

abbrev pub invariant-loop-place : goal.invariant-loop-place
invariant-loop-place l = record {
  within : l.place ≤ length l.undos;
  contents : contents_of l.self ≡ contents_of l.fn.self;
  grows : KeepsRooms l.fn.self l.self;
  made : HasRooms (drop l.place l.undos) (rooms_of l.self);
}

abbrev pub decreases-loop-place : goal.decreases-loop-place
decreases-loop-place l = l.place
