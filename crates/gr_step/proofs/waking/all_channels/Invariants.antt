use Rattle.std.proofs.Common.{◌≡◌, ◌++◌, ◌∷◌, [], drop}
use Rattle.gr_rules.specs.Actors as rules
use Rattle.gr_tables.specs.NamedGoroutines.{goroutines_of}
use Rattle.gr_step.specs.Wakes.{all_waits_known}
use Rattle.gr_step.proofs.waking.all_channels.Given as goal

abbrev pub invariant-loop-go : goal.invariant-loop-go
invariant-loop-go l =
    l.seen.items ++ rules.channels_but l.seen.items (all_waits_known (goroutines_of l.goroutines) (drop l.go-index l.names))
    ≡ l.channel ∷ rules.channels_but (l.channel ∷ []) (all_waits_known (goroutines_of l.goroutines) l.names)
