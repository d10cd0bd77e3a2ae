use Rattle.std.proofs.Common.{◌∷◌, [], map, true, Some, None}
use Rattle.gr_base.specs.declared.objects.Object.TheVariants.{Go, Gate}
use Rattle.gr_rules.specs.Attempts.{sends_on}
use Rattle.gr_rules.specs.Actors.{channels_but}
use Rattle.gr_code.specs.CodeViews.{program_code_of}
use Rattle.gr_record.specs.Listings.{program_in}
use Rattle.gr_step.proofs.ExchangeLemmas.{as_before}
use Rattle.gr_step.proofs.HandLemmas.{its_receiver, can_hand_over, was_handed, hand_room}
use Rattle.gr_step.proofs.ResultLemmas.{if_ok, if_err}
use Rattle.gr_step.proofs.objects.Objects.hand.Goals as goal

pub prepare-requires-clause-waits : goal.prepare-requires-clause-waits
prepare-requires-clause-waits c =
    (its_receiver (program_in c.args.meeting.now.turn.now.listing.now) c.args.meeting.now.turn.now.event.now c.args.meeting.now.turn.now.number c.args.self.now c.requires.may.acting c.args.meeting.now.clause c.requires.may.clause
    c.args.meeting.now.channel.now c.args.value c.requires.sound c.at-found.result.now c.at-found.ensures c.requires.waits c.in-Some.receiver.now
    c.in-Some.ensures).waits

pub exchange-requires : goal.exchange-requires
exchange-requires c =
    let its = its_receiver (program_in c.args.meeting.now.turn.now.listing.now) c.args.meeting.now.turn.now.event.now c.args.meeting.now.turn.now.number c.args.self.now c.requires.may.acting c.args.meeting.now.clause c.requires.may.clause
    c.args.meeting.now.channel.now c.args.value c.requires.sound c.at-found.result.now c.at-found.ensures c.requires.waits c.in-Some.receiver.now
    c.in-Some.ensures in
    let ready = rw c.in_ok-copy.ensures at (c.in_ok-prepared.ensures its.m.waits [] (Gate c.in_ok-copy.field-0 ∷ []) its.waits_for (c.gate_written-touched.ensures c.in_ok-copy.field-0)) in
    rw c.of-crossing.ensures (can_hand_over (program_in c.args.meeting.now.turn.now.listing.now) c.args.meeting.now.turn.now.event.now c.args.meeting.now.turn.now.number c.args.self.now c.requires.may.acting c.args.meeting.now.clause c.requires.may.clause
    c.args.meeting.now.channel.now c.args.value c.requires.sound c.at-found.result.now c.at-found.ensures c.requires.waits c.in-Some.receiver.now
    c.in-Some.ensures c.in_ok-prepared.prepared ready (program_code_of c.args.meeting.now.turn.now.listing.now.code.value)
    c.requires.may.coded c.in-Ok-Handed.value c.in-Ok-Handed.undo c.offer.new.self
    (rw c.in-Ok-Handed.field-0-is at c.in-Ok-Handed.ensures.rule) (rw c.in-Ok-Handed.field-0-is at c.in-Ok-Handed.ensures.back))

pub returns-clause-ok : goal.returns-clause-ok
returns-clause-ok c =
    let its = its_receiver (program_in c.args.meeting.now.turn.now.listing.now) c.args.meeting.now.turn.now.event.now c.args.meeting.now.turn.now.number c.args.self.now c.requires.may.acting c.args.meeting.now.clause c.requires.may.clause
    c.args.meeting.now.channel.now c.args.value c.requires.sound c.at-found.result.now c.at-found.ensures c.requires.waits c.in-Some.receiver.now
    c.in-Some.ensures in
    let ready = rw c.in_ok-copy.ensures at (c.in_ok-prepared.ensures its.m.waits [] (Gate c.in_ok-copy.field-0 ∷ []) its.waits_for (c.gate_written-touched.ensures c.in_ok-copy.field-0)) in
    if_ok c.exchange.result (rw c.of-crossing.ensures at (c.exchange.ensures.ok (sends_on c.args.meeting.now.channel.now) []
    (Gate c.args.meeting.now.channel.now ∷ Go c.in-Some.receiver.now.go ∷ map Gate (channels_but (c.args.meeting.now.channel.now ∷ []) its.m.waits)) ready.partner.reached))
    (λ change done. was_handed (program_in c.args.meeting.now.turn.now.listing.now) c.args.meeting.now.turn.now.event.now c.args.meeting.now.turn.now.number c.args.self.now c.requires.may.acting c.args.meeting.now.clause c.requires.may.clause
    c.args.meeting.now.channel.now c.args.value c.requires.sound c.at-found.result.now c.at-found.ensures c.requires.waits c.in-Some.receiver.now
    c.in-Some.ensures c.in_ok-prepared.prepared ready (program_code_of c.args.meeting.now.turn.now.listing.now.code.value)
    c.requires.may.coded c.in-Ok-Handed.value c.in-Ok-Handed.undo c.offer.new.self
    (rw c.in-Ok-Handed.field-0-is at c.in-Ok-Handed.ensures.rule) (rw c.in-Ok-Handed.field-0-is at c.in-Ok-Handed.ensures.back) change c.exchange.new.self done)

pub returns-clause-room : goal.returns-clause-room
returns-clause-room c =
    let its = its_receiver (program_in c.args.meeting.now.turn.now.listing.now) c.args.meeting.now.turn.now.event.now c.args.meeting.now.turn.now.number c.args.self.now c.requires.may.acting c.args.meeting.now.clause c.requires.may.clause
    c.args.meeting.now.channel.now c.args.value c.requires.sound c.at-found.result.now c.at-found.ensures c.requires.waits c.in-Some.receiver.now
    c.in-Some.ensures in
    let ready = rw c.in_ok-copy.ensures at (c.in_ok-prepared.ensures its.m.waits [] (Gate c.in_ok-copy.field-0 ∷ []) its.waits_for (c.gate_written-touched.ensures c.in_ok-copy.field-0)) in
    if_ok c.exchange.result (rw c.of-crossing.ensures at (c.exchange.ensures.ok (sends_on c.args.meeting.now.channel.now) []
    (Gate c.args.meeting.now.channel.now ∷ Go c.in-Some.receiver.now.go ∷ map Gate (channels_but (c.args.meeting.now.channel.now ∷ []) its.m.waits)) ready.partner.reached))
    (λ change done. hand_room (program_in c.args.meeting.now.turn.now.listing.now) c.args.meeting.now.turn.now.event.now c.args.meeting.now.turn.now.number c.args.self.now c.requires.may.acting c.args.meeting.now.clause c.requires.may.clause
    c.args.meeting.now.channel.now c.args.value c.requires.sound c.at-found.result.now c.at-found.ensures c.requires.waits c.in-Some.receiver.now
    c.in-Some.ensures c.in_ok-prepared.prepared ready (program_code_of c.args.meeting.now.turn.now.listing.now.code.value)
    c.requires.may.coded c.in-Ok-Handed.value c.in-Ok-Handed.undo c.offer.new.self
    (rw c.in-Ok-Handed.field-0-is at c.in-Ok-Handed.ensures.rule) (rw c.in-Ok-Handed.field-0-is at c.in-Ok-Handed.ensures.back) change c.exchange.new.self done)

pub returns-clause-err : goal.returns-clause-err
returns-clause-err c =
    let its = its_receiver (program_in c.args.meeting.now.turn.now.listing.now) c.args.meeting.now.turn.now.event.now c.args.meeting.now.turn.now.number c.args.self.now c.requires.may.acting c.args.meeting.now.clause c.requires.may.clause
    c.args.meeting.now.channel.now c.args.value c.requires.sound c.at-found.result.now c.at-found.ensures c.requires.waits c.in-Some.receiver.now
    c.in-Some.ensures in
    let ready = rw c.in_ok-copy.ensures at (c.in_ok-prepared.ensures its.m.waits [] (Gate c.in_ok-copy.field-0 ∷ []) its.waits_for (c.gate_written-touched.ensures c.in_ok-copy.field-0)) in
    if_err c.exchange.result c.exchange.ensures.err_goroutines c.exchange.ensures.err_channels (λ gos took.
    as_before (program_in c.args.meeting.now.turn.now.listing.now) c.args.meeting.now.turn.now.event.now c.args.meeting.now.turn.now.number c.args.self.now c.requires.may.acting c.args.meeting.now.clause None c.args.meeting.now.channel.now
    c.in-Some.receiver.now.go c.in-Some.receiver.now.case (Some (c.args.value, true)) its (sends_on c.args.meeting.now.channel.now) []
    (Gate c.args.meeting.now.channel.now ∷ []) c.in_ok-prepared.prepared ready (program_code_of c.args.meeting.now.turn.now.listing.now.code.value)
    c.requires.may.coded c.offer.new.self c.in-Ok-Handed.undo
    (rw c.in-Ok-Handed.field-0-is at c.in-Ok-Handed.ensures.back) c.exchange.new.self gos took c.exchange.ensures.run)
