use Rattle.std.proofs.Common.{◌≡◌, ◌++◌, drop}
use Rattle.gr_causal.specs.Dependence.{kept, dependents, left_by, collect}
use Rattle.gr_causal.specs.Mailboxes.{clash}
use Rattle.gr_causal.proofs.mailboxes.parted.Given as goal

abbrev pub invariant-loop-event : goal.invariant-loop-event
invariant-loop-event l = record {
  stay : l.stay.items ++ left_by clash l.gone.items (drop l.event-index l.later) ≡ kept clash l.log l.place;
  gone : collect clash l.gone.items (drop l.event-index l.later) ≡ dependents clash l.log l.place;
}
