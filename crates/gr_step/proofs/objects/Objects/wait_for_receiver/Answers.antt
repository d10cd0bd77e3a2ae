use Rattle.std.proofs.Common.{Some, refl}
use Rattle.gr_rules.specs.Deeds.{Sending}
use Rattle.gr_rules.specs.Outcomes.{gives}
use Rattle.gr_rules.specs.Touches.{side}
use Rattle.gr_refine.specs.Contents.{state_of}
use Rattle.gr_tables.specs.NamedChannels.{contents_of}
use Rattle.gr_step.specs.Parks.{with_channels}
use Rattle.gr_step.proofs.WaitForLemmas.{parks_to_send}
use Rattle.gr_step.proofs.objects.Objects.wait_for_receiver.Goals as goal

pub returns-clause-ok : goal.returns-clause-ok
returns-clause-ok c = λ frame.
    let sides = side (state_of frame (with_channels (contents_of c.args.self.now.channels))) (Sending (Some c.args.channel) (gives c.args.value)) in
    rw c.waits_to_send.ensures (parks_to_send c.args.turn.now.event.now c.args.turn.now.number c.args.channel c.slot_to_send-slot.result c.park_to_send-spot.result sides c.args.self.now
    (record (c.args.self.now) { channels = c.queue_to_send.new.channels; goroutines = c.park_to_send-spot.new.self }) refl c.args.value
    (rw c.in_ok-name.ensures at c.park_to_send-spot.ensures) c.in_ok-queue_to_send.ensures.contents c.in_ok-queue_to_send.ensures.back (c.slot_to_send-slot.ensures frame))
