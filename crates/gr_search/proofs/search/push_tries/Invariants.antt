use Rattle.std.proofs.Common.{◌≡◌}
use Rattle.gr_search.specs.Going.{tries}
use Rattle.gr_search.proofs.search.push_tries.Given as goal

abbrev pub invariant-loop-event : goal.invariant-loop-event
invariant-loop-event g l = tries l.event-iterator.rest.items l.tasks.items ≡ tries l.fn.events.items l.fn.tasks.items
