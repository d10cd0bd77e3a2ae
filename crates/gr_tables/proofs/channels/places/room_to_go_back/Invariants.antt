use Rattle.std.proofs.Common.{◌≡◌, ◌<◌, ◌≤◌, ◌^◌, length, drop}
use Rattle.gr_tables.specs.NamedChannels.{frees, needs}
use Rattle.gr_tables.specs.Places.{room_of}
use Rattle.gr_tables.proofs.channels.places.room_to_go_back.Given as goal

abbrev pub invariant-loop-place : goal.invariant-loop-place
invariant-loop-place l = record {
  within : l.place ≤ length l.undos;
  small : length l.undos < 2 ^ 64;
  not_before : l.from ≤ l.place;
  needed : room_of l.needed ≡ needs (drop l.place l.undos) l.name;
  freed : room_of l.freed ≡ frees (drop l.place l.undos) l.name;
}

abbrev pub decreases-loop-place : goal.decreases-loop-place
decreases-loop-place l = l.place
