use Rattle.std.proofs.Common.{◌↔◌, drop}
use Rattle.gr_causal.specs.Orders.{Swaps}
use Rattle.gr_causal.specs.Mailboxes.{clash}
use Rattle.gr_causal.proofs.mailbox_trips.are_one_configuration.Given as goal

abbrev pub invariant-loop-event : goal.invariant-loop-event
invariant-loop-event l = Swaps clash l.first l.second ↔ Swaps clash (drop l.event-index l.first) l.left.items
