use Rattle.std.proofs.Common.{Some, refl, sym, ap, ◌∙◌}
use Rattle.gr_channels.specs.declared.changes.ChanUndo.TheVariants.{ParkedSender, ParkedReceiver}
use Rattle.gr_record.specs.declared.record.Contact.{Contact}
use Rattle.gr_record.specs.declared.record.Operation.TheVariants.{SendsOn, ReceivesFrom}
use Rattle.gr_record.specs.Effects.{reached_by_passage, touched_to_send, touched_to_receive}
use Rattle.gr_touches.proofs.FormLemmas.{reached_in, read_used, written_used}
use Rattle.gr_touches.proofs.lanes.Lanes.note.Goals as goal

pub note_used-requires-clause-read : goal.note_used-requires-clause-read
note_used-requires-clause-read c =
    let contact : Contact = record { operation = SendsOn c.in-WaitsToSend.channel; touched = touched_to_send c.in-WaitsToSend.slot } in
    read_used c.args.step.now contact (Some ParkedSender) (reached_in c.args.step.now c.form.result.now _ c.form.ensures c.in-WaitsToSend.is)
    c.in-WaitsToSend.channel c.to_send.result refl c.to_send.ensures

pub note_used-requires-clause-written : goal.note_used-requires-clause-written
note_used-requires-clause-written c =
    let contact : Contact = record { operation = SendsOn c.in-WaitsToSend.channel; touched = touched_to_send c.in-WaitsToSend.slot } in
    written_used c.args.step.now contact (Some ParkedSender) (reached_in c.args.step.now c.form.result.now _ c.form.ensures c.in-WaitsToSend.is)
    c.in-WaitsToSend.channel c.to_send.result refl c.to_send.ensures

pub note_used-requires-in-WaitsToReceive-clause-read : goal.note_used-requires-in-WaitsToReceive-clause-read
note_used-requires-in-WaitsToReceive-clause-read c =
    let contact : Contact = record { operation = ReceivesFrom c.in-WaitsToReceive.channel; touched = touched_to_receive c.in-WaitsToReceive.slot } in
    read_used c.args.step.now contact (Some ParkedReceiver) (reached_in c.args.step.now c.form.result.now _ c.form.ensures c.in-WaitsToReceive.is)
    c.in-WaitsToReceive.channel c.to_receive.result refl c.to_receive.ensures

pub note_used-requires-in-WaitsToReceive-clause-written : goal.note_used-requires-in-WaitsToReceive-clause-written
note_used-requires-in-WaitsToReceive-clause-written c =
    let contact : Contact = record { operation = ReceivesFrom c.in-WaitsToReceive.channel; touched = touched_to_receive c.in-WaitsToReceive.slot } in
    written_used c.args.step.now contact (Some ParkedReceiver) (reached_in c.args.step.now c.form.result.now _ c.form.ensures c.in-WaitsToReceive.is)
    c.in-WaitsToReceive.channel c.to_receive.result refl c.to_receive.ensures

pub note_used-requires-in-Passes-clause-read : goal.note_used-requires-in-Passes-clause-read
note_used-requires-in-Passes-clause-read c =
    let kept = reached_in c.args.step.now c.form.result.now _ c.form.ensures c.in-Passes.is in
    read_used c.args.step.now c.deref.result.now.contact c.deref.result.now.undo (kept ∙ ap (λ v. Some (reached_by_passage v)) (sym c.deref.ensures))
    c.channel.result.now c.deref.result.now.contact.touched c.channel.ensures refl

pub note_used-requires-in-Passes-clause-written : goal.note_used-requires-in-Passes-clause-written
note_used-requires-in-Passes-clause-written c =
    let kept = reached_in c.args.step.now c.form.result.now _ c.form.ensures c.in-Passes.is in
    written_used c.args.step.now c.deref.result.now.contact c.deref.result.now.undo (kept ∙ ap (λ v. Some (reached_by_passage v)) (sym c.deref.ensures))
    c.channel.result.now c.deref.result.now.contact.touched c.channel.ensures refl
