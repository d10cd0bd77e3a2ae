use Rattle.std.proofs.Common.{take}
use Rattle.gr_causal.specs.Mailboxes.{clash}
use Rattle.gr_causal.proofs.FrontLemmas.{Clears}
use Rattle.gr_causal.proofs.mailbox_trips.place_in_front.Given as goal

abbrev pub invariant-loop-place : goal.invariant-loop-place
invariant-loop-place l = Clears clash l.event (take l.place l.log)
