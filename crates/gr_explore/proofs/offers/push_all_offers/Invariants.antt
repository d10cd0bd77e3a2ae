use Rattle.std.proofs.Common.{◌≡◌, ◌++◌, drop}
use Rattle.gr_step.specs.Stores.{program_at, state_at}
use Rattle.gr_schedules.specs.Choices.{all_choices}
use Rattle.gr_explore.proofs.offers.push_all_offers.Given as goal

abbrev pub invariant-loop-go : goal.invariant-loop-go
invariant-loop-go l = l.events.items ++ all_choices (program_at l.store) (state_at l.store) (drop l.go-index l.names) ≡ l.fn.events.items ++ all_choices (program_at l.store) (state_at l.store) l.names
