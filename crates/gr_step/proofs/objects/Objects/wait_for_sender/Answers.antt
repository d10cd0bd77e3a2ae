use Rattle.std.proofs.Common.{Some, refl}
use Rattle.gr_rules.specs.Deeds.{Receiving}
use Rattle.gr_rules.specs.Touches.{side}
use Rattle.gr_refine.specs.Contents.{state_of}
use Rattle.gr_tables.specs.NamedChannels.{contents_of}
use Rattle.gr_step.specs.Parks.{with_channels}
use Rattle.gr_step.proofs.WaitForLemmas.{parks_to_receive}
use Rattle.gr_step.proofs.objects.Objects.wait_for_sender.Goals as goal

pub returns-clause-ok : goal.returns-clause-ok
returns-clause-ok c = λ frame.
    let sides = side (state_of frame (with_channels (contents_of c.args.self.now.channels))) (Receiving (Some c.args.channel) c.args.zero) in
    rw c.waits_to_receive.ensures (parks_to_receive c.args.turn.now.event.now c.args.turn.now.number c.args.channel c.slot_to_receive-slot.result c.park_to_receive-spot.result sides c.args.self.now
    (record (c.args.self.now) { channels = c.queue_to_receive.new.channels; goroutines = c.park_to_receive-spot.new.self }) refl c.args.zero
    (rw c.in_ok-name.ensures at c.park_to_receive-spot.ensures) (c.in_ok-queue_to_receive.ensures.contents c.args.zero) c.in_ok-queue_to_receive.ensures.back (c.slot_to_receive-slot.ensures frame c.args.zero))
