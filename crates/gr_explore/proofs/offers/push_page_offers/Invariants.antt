use Rattle.std.proofs.Common.{◌≡◌, ◌++◌, drop}
use Rattle.gr_step.specs.Stores.{program_at, state_at}
use Rattle.gr_schedules.specs.Choices.{all_choices}
use Rattle.gr_explore.specs.Keeping.{names_of}
use Rattle.gr_explore.proofs.offers.push_page_offers.Given as goal

abbrev pub invariant-loop-page : goal.invariant-loop-page
invariant-loop-page l = l.events.items ++ all_choices (program_at l.store) (state_at l.store) (names_of (drop l.page-index l.pages)) ≡ l.fn.events.items ++ all_choices (program_at l.store) (state_at l.store) (names_of l.pages)
