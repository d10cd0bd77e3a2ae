use Rattle.std.proofs.Common.{◌≡◌, ◌≤◌, ◌+◌, drop, length, vec_len, vec_capacity}
use Rattle.gr_tables.specs.NamedChannels.{contents_of, withdrawn, Follows, MoreAtGates}
use Rattle.gr_tables.proofs.channels.Channels.withdraw_after.Given as goal

abbrev pub invariant-loop-name : goal.invariant-loop-name
invariant-loop-name l = record {
  told : withdrawn l.go (drop l.name-index l.names) (contents_of l.self) ≡ withdrawn l.go l.names (contents_of l.fn.self);
  follows : Follows l.fn.done.items l.undos.items l.fn.self l.self;
  gates : MoreAtGates l.names l.fn.done.items l.undos.items;
  few : vec_len l.undos ≤ vec_len l.fn.done + l.name-index;
  room : vec_len l.fn.done + length l.names ≤ vec_capacity l.undos;
}
