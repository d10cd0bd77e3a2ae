use Rattle.std.proofs.Common.{◌∷◌, [], ◌++◌, map, true, Some, None}
use Rattle.gr_base.specs.declared.objects.Object.TheVariants.{Go, Gate, Head, Tail}
use Rattle.gr_rules.specs.Attempts.{receives_from}
use Rattle.gr_rules.specs.Actors.{channels_but}
use Rattle.gr_rules.specs.Touches.{slot_numbered}
use Rattle.gr_code.specs.CodeViews.{program_code_of}
use Rattle.gr_record.specs.Listings.{program_in}
use Rattle.gr_step.proofs.ExchangeLemmas.{as_before, same_seen}
use Rattle.gr_step.proofs.MeetLemmas.{item, its_mover, can_meet_mover, mover_was_met, moving_room}
use Rattle.gr_step.proofs.ResultLemmas.{if_ok, if_err, on_err}
use Rattle.gr_step.proofs.objects.Objects.move_up.Goals as goal

pub prepare-requires-clause-waits : goal.prepare-requires-clause-waits
prepare-requires-clause-waits c =
    (its_mover (program_in c.args.meeting.now.turn.now.listing.now) c.args.meeting.now.turn.now.event.now c.args.meeting.now.turn.now.number c.args.self.now c.requires.may.acting c.args.meeting.now.clause c.requires.may.clause
    c.args.meeting.now.channel.now c.args.zero c.requires.sound c.at-found.result.now c.at-found.ensures c.in-Some.sender.now
    c.in-Some.ensures c.requires.filled).waits

pub exchange-requires : goal.exchange-requires
exchange-requires c =
    let its = its_mover (program_in c.args.meeting.now.turn.now.listing.now) c.args.meeting.now.turn.now.event.now c.args.meeting.now.turn.now.number c.args.self.now c.requires.may.acting c.args.meeting.now.clause c.requires.may.clause
    c.args.meeting.now.channel.now c.args.zero c.requires.sound c.at-found.result.now c.at-found.ensures c.in-Some.sender.now
    c.in-Some.ensures c.requires.filled in
    let ready = rw c.in_ok-copy.ensures at (c.in_ok-prepared.ensures its.m.waits [] (Gate c.in_ok-copy.field-0 ∷ Head c.in_ok-copy.field-0 ∷ Tail c.in_ok-copy.field-0 ∷ slot_numbered c.in_ok-copy.field-0 c.at-found.result.now.content.capacity c.at-found.result.now.content.head) its.waits_for (c.moved-touched.ensures c.in_ok-copy.field-0)) in
    rw c.of-crossing.ensures (can_meet_mover (program_in c.args.meeting.now.turn.now.listing.now) c.args.meeting.now.turn.now.event.now c.args.meeting.now.turn.now.number c.args.self.now c.requires.may.acting c.args.meeting.now.clause c.requires.may.clause
    c.args.meeting.now.channel.now c.args.zero c.requires.sound c.at-found.result.now c.at-found.ensures c.in-Some.sender.now
    c.in-Some.ensures c.requires.filled c.in_ok-prepared.prepared ready (program_code_of c.args.meeting.now.turn.now.listing.now.code.value)
    c.requires.may.coded c.in-Moved.value c.in-Moved.undo c.take.new.self
    (rw c.in-Moved.is at c.in_ok-value.ensures.rule) (rw c.in-Moved.is at c.in_ok-value.ensures.back))

pub returns-clause-ok : goal.returns-clause-ok
returns-clause-ok c =
    let its = its_mover (program_in c.args.meeting.now.turn.now.listing.now) c.args.meeting.now.turn.now.event.now c.args.meeting.now.turn.now.number c.args.self.now c.requires.may.acting c.args.meeting.now.clause c.requires.may.clause
    c.args.meeting.now.channel.now c.args.zero c.requires.sound c.at-found.result.now c.at-found.ensures c.in-Some.sender.now
    c.in-Some.ensures c.requires.filled in
    let ready = rw c.in_ok-copy.ensures at (c.in_ok-prepared.ensures its.m.waits [] (Gate c.in_ok-copy.field-0 ∷ Head c.in_ok-copy.field-0 ∷ Tail c.in_ok-copy.field-0 ∷ slot_numbered c.in_ok-copy.field-0 c.at-found.result.now.content.capacity c.at-found.result.now.content.head) its.waits_for (c.moved-touched.ensures c.in_ok-copy.field-0)) in
    if_ok c.exchange.result (rw c.of-crossing.ensures at (c.exchange.ensures.ok (receives_from c.args.meeting.now.channel.now) []
    ((Gate c.args.meeting.now.channel.now ∷ Head c.args.meeting.now.channel.now ∷ Tail c.args.meeting.now.channel.now
    ∷ slot_numbered c.args.meeting.now.channel.now c.at-found.result.now.content.capacity c.at-found.result.now.content.head) ++ Go c.in-Some.sender.now.go ∷ map Gate (channels_but (c.args.meeting.now.channel.now ∷ []) its.m.waits)) ready.partner.reached))
    (λ change done. mover_was_met (program_in c.args.meeting.now.turn.now.listing.now) c.args.meeting.now.turn.now.event.now c.args.meeting.now.turn.now.number c.args.self.now c.requires.may.acting c.args.meeting.now.clause c.requires.may.clause
    c.args.meeting.now.channel.now c.args.zero c.requires.sound c.at-found.result.now c.at-found.ensures c.in-Some.sender.now
    c.in-Some.ensures c.requires.filled c.in_ok-prepared.prepared ready (program_code_of c.args.meeting.now.turn.now.listing.now.code.value)
    c.requires.may.coded c.in-Moved.value c.in-Moved.undo c.take.new.self
    (rw c.in-Moved.is at c.in_ok-value.ensures.rule) (rw c.in-Moved.is at c.in_ok-value.ensures.back) change c.exchange.new.self done)

pub returns-clause-room : goal.returns-clause-room
returns-clause-room c =
    let its = its_mover (program_in c.args.meeting.now.turn.now.listing.now) c.args.meeting.now.turn.now.event.now c.args.meeting.now.turn.now.number c.args.self.now c.requires.may.acting c.args.meeting.now.clause c.requires.may.clause
    c.args.meeting.now.channel.now c.args.zero c.requires.sound c.at-found.result.now c.at-found.ensures c.in-Some.sender.now
    c.in-Some.ensures c.requires.filled in
    let ready = rw c.in_ok-copy.ensures at (c.in_ok-prepared.ensures its.m.waits [] (Gate c.in_ok-copy.field-0 ∷ Head c.in_ok-copy.field-0 ∷ Tail c.in_ok-copy.field-0 ∷ slot_numbered c.in_ok-copy.field-0 c.at-found.result.now.content.capacity c.at-found.result.now.content.head) its.waits_for (c.moved-touched.ensures c.in_ok-copy.field-0)) in
    if_ok c.exchange.result (rw c.of-crossing.ensures at (c.exchange.ensures.ok (receives_from c.args.meeting.now.channel.now) []
    ((Gate c.args.meeting.now.channel.now ∷ Head c.args.meeting.now.channel.now ∷ Tail c.args.meeting.now.channel.now
    ∷ slot_numbered c.args.meeting.now.channel.now c.at-found.result.now.content.capacity c.at-found.result.now.content.head) ++ Go c.in-Some.sender.now.go ∷ map Gate (channels_but (c.args.meeting.now.channel.now ∷ []) its.m.waits)) ready.partner.reached))
    (λ change done. moving_room (program_in c.args.meeting.now.turn.now.listing.now) c.args.meeting.now.turn.now.event.now c.args.meeting.now.turn.now.number c.args.self.now c.requires.may.acting c.args.meeting.now.clause c.requires.may.clause
    c.args.meeting.now.channel.now c.args.zero c.requires.sound c.at-found.result.now c.at-found.ensures c.in-Some.sender.now
    c.in-Some.ensures c.requires.filled c.in_ok-prepared.prepared ready (program_code_of c.args.meeting.now.turn.now.listing.now.code.value)
    c.requires.may.coded c.in-Moved.value c.in-Moved.undo c.take.new.self
    (rw c.in-Moved.is at c.in_ok-value.ensures.rule) (rw c.in-Moved.is at c.in_ok-value.ensures.back) change c.exchange.new.self done)

pub returns-clause-err : goal.returns-clause-err
returns-clause-err c =
    let its = its_mover (program_in c.args.meeting.now.turn.now.listing.now) c.args.meeting.now.turn.now.event.now c.args.meeting.now.turn.now.number c.args.self.now c.requires.may.acting c.args.meeting.now.clause c.requires.may.clause
    c.args.meeting.now.channel.now c.args.zero c.requires.sound c.at-found.result.now c.at-found.ensures c.in-Some.sender.now
    c.in-Some.ensures c.requires.filled in
    let ready = rw c.in_ok-copy.ensures at (c.in_ok-prepared.ensures its.m.waits [] (Gate c.in_ok-copy.field-0 ∷ Head c.in_ok-copy.field-0 ∷ Tail c.in_ok-copy.field-0 ∷ slot_numbered c.in_ok-copy.field-0 c.at-found.result.now.content.capacity c.at-found.result.now.content.head) its.waits_for (c.moved-touched.ensures c.in_ok-copy.field-0)) in
    if_err c.exchange.result c.exchange.ensures.err_goroutines c.exchange.ensures.err_channels (λ gos took.
    as_before (program_in c.args.meeting.now.turn.now.listing.now) c.args.meeting.now.turn.now.event.now c.args.meeting.now.turn.now.number c.args.self.now c.requires.may.acting c.args.meeting.now.clause
    (Some (
      (item (program_in c.args.meeting.now.turn.now.listing.now) c.args.meeting.now.turn.now.event.now c.args.meeting.now.turn.now.number c.args.self.now c.requires.may.acting c.args.meeting.now.clause c.requires.may.clause
          c.args.meeting.now.channel.now c.args.zero c.requires.sound c.at-found.result.now c.at-found.ensures c.in-Some.sender.now
          c.in-Some.ensures c.requires.filled).0,
      true,
    )) c.args.meeting.now.channel.now c.in-Some.sender.now.go c.in-Some.sender.now.case None its (receives_from c.args.meeting.now.channel.now) []
    (Gate c.args.meeting.now.channel.now ∷ Head c.args.meeting.now.channel.now ∷ Tail c.args.meeting.now.channel.now
    ∷ slot_numbered c.args.meeting.now.channel.now c.at-found.result.now.content.capacity c.at-found.result.now.content.head) c.in_ok-prepared.prepared ready (program_code_of c.args.meeting.now.turn.now.listing.now.code.value)
    c.requires.may.coded c.take.new.self c.in-Moved.undo
    (rw c.in-Moved.is at c.in_ok-value.ensures.back) c.exchange.new.self gos took c.exchange.ensures.run)

pub returns-in_err-value-clause-err : goal.returns-in_err-value-clause-err
returns-in_err-value-clause-err c =
    on_err c.from_residual-in_err-value.result (same_seen c.args.self.now c.take.new.self c.in_err-value.ensures.err)
