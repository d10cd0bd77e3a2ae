use Rattle.std.proofs.Common.{◌∷◌, [], refl}
use Rattle.gr_base.specs.declared.objects.Object.TheVariants.{Gate, Head}
use Rattle.gr_rules.specs.Attempts.{receives_from}
use Rattle.gr_rules.specs.Touches.{slot_numbered}
use Rattle.gr_code.specs.CodeViews.{program_code_of}
use Rattle.gr_record.specs.Listings.{program_in}
use Rattle.gr_step.proofs.TakeItemLemmas.{can_end, was_ended, end_room, nothing}
use Rattle.gr_step.proofs.ExchangeLemmas.{before_these}
use Rattle.gr_step.proofs.ResultLemmas.{if_ok, if_err}
use Rattle.gr_step.proofs.objects.Objects.receive_zero.Goals as goal

pub pass-requires : goal.pass-requires
pass-requires c =
    can_end (program_in c.args.meeting.now.turn.now.listing.now) c.args.meeting.now.turn.now.event.now c.args.meeting.now.turn.now.number c.args.self.now c.requires.may.acting c.args.meeting.now.clause c.requires.may.clause
    c.args.meeting.now.channel.now c.args.zero c.requires.sound c.at-found.result.now c.at-found.ensures (program_code_of c.args.meeting.now.turn.now.listing.now.code.value)
    c.requires.may.coded [] c.requires.at_end refl

pub returns-clause-ok : goal.returns-clause-ok
returns-clause-ok c =
    let told = rw c.in_ok-copy.ensures at (c.in_ok-passage.ensures.told (Gate c.in_ok-copy.field-0 ∷ Head c.in_ok-copy.field-0 ∷ slot_numbered c.in_ok-copy.field-0 c.at-found.result.now.content.capacity c.at-found.result.now.content.head) [] (c.end_read.ensures c.in_ok-copy.field-0)) in
    if_ok c.pass.result (rw c.kind_by-kind.ensures at (c.pass.ensures.ok (receives_from c.args.meeting.now.channel.now)
    (Gate c.args.meeting.now.channel.now ∷ Head c.args.meeting.now.channel.now
    ∷ slot_numbered c.args.meeting.now.channel.now c.at-found.result.now.content.capacity c.at-found.result.now.content.head) [] told))
    (λ change x. was_ended (program_in c.args.meeting.now.turn.now.listing.now) c.args.meeting.now.turn.now.event.now c.args.meeting.now.turn.now.number c.args.self.now c.requires.may.acting c.args.meeting.now.clause c.requires.may.clause
    c.args.meeting.now.channel.now c.args.zero c.requires.sound c.at-found.result.now c.at-found.ensures (program_code_of c.args.meeting.now.turn.now.listing.now.code.value)
    c.requires.may.coded [] c.requires.at_end refl change c.pass.new.self x)

pub returns-clause-room : goal.returns-clause-room
returns-clause-room c =
    let told = rw c.in_ok-copy.ensures at (c.in_ok-passage.ensures.told (Gate c.in_ok-copy.field-0 ∷ Head c.in_ok-copy.field-0 ∷ slot_numbered c.in_ok-copy.field-0 c.at-found.result.now.content.capacity c.at-found.result.now.content.head) [] (c.end_read.ensures c.in_ok-copy.field-0)) in
    if_ok c.pass.result (rw c.kind_by-kind.ensures at (c.pass.ensures.ok (receives_from c.args.meeting.now.channel.now)
    (Gate c.args.meeting.now.channel.now ∷ Head c.args.meeting.now.channel.now
    ∷ slot_numbered c.args.meeting.now.channel.now c.at-found.result.now.content.capacity c.at-found.result.now.content.head) [] told))
    (λ change x. end_room (program_in c.args.meeting.now.turn.now.listing.now) c.args.meeting.now.turn.now.event.now c.args.meeting.now.turn.now.number c.args.self.now c.requires.may.acting c.args.meeting.now.clause c.requires.may.clause
    c.args.meeting.now.channel.now c.args.zero c.requires.sound c.at-found.result.now c.at-found.ensures (program_code_of c.args.meeting.now.turn.now.listing.now.code.value)
    c.requires.may.coded [] c.requires.at_end refl change c.pass.new.self x)

pub returns-clause-err : goal.returns-clause-err
returns-clause-err c =
    if_err c.pass.result c.pass.ensures.err_goroutines c.pass.ensures.err_channels (λ gos took.
    before_these c.args.self.now c.args.self.now.channels []
    (nothing (program_in c.args.meeting.now.turn.now.listing.now) c.args.meeting.now.turn.now.event.now c.args.meeting.now.turn.now.number c.args.self.now c.requires.may.acting c.args.meeting.now.clause c.requires.may.clause
    c.args.meeting.now.channel.now c.args.zero c.requires.sound c.at-found.result.now c.at-found.ensures (program_code_of c.args.meeting.now.turn.now.listing.now.code.value)
    c.requires.may.coded [] c.requires.at_end refl)
    c.pass.new.self gos took c.pass.ensures.run)
