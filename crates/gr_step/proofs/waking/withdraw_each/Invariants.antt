use Rattle.std.proofs.Common.{◌≡◌, drop}
use Rattle.gr_tables.specs.NamedChannels.{contents_of, Follows, MoreAtGates}
use Rattle.gr_tables.specs.NamedGoroutines.{goroutines_of}
use Rattle.gr_step.specs.Wakes.{left_by_close, without_each}
use Rattle.gr_step.proofs.waking.withdraw_each.Given as goal

abbrev pub invariant-loop-go : goal.invariant-loop-go
invariant-loop-go l = record {
  told : without_each l.but (goroutines_of l.goroutines) (drop l.go-index l.names) (contents_of l.channels)
      ≡ without_each l.but (goroutines_of l.goroutines) l.names (contents_of l.fn.channels);
  gates : MoreAtGates (left_by_close l.but (goroutines_of l.goroutines) l.names) l.fn.done.items l.undos.items;
  follows : Follows l.fn.done.items l.undos.items l.fn.channels l.channels;
}
