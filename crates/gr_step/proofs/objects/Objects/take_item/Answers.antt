use Rattle.std.proofs.Common.{◌∙◌, ◌∷◌, [], sym, ap, subst}
use Rattle.gr_base.specs.declared.objects.Object.TheVariants.{Gate, Head}
use Rattle.gr_rules.specs.Attempts.{receives_from}
use Rattle.gr_rules.specs.Touches.{slot_numbered}
use Rattle.gr_code.specs.CodeViews.{program_code_of}
use Rattle.gr_tables.specs.NamedChannels.{GoesBack}
use Rattle.gr_record.specs.Listings.{program_in}
use Rattle.gr_record.specs.Parts.{channel_in}
use Rattle.gr_step.proofs.TakeItemLemmas.{can_take, was_taken, take_room}
use Rattle.gr_step.proofs.ExchangeLemmas.{before_these, same_seen}
use Rattle.gr_step.proofs.ResultLemmas.{if_ok, if_err, on_err}
use Rattle.gr_step.proofs.objects.Objects.take_item.Goals as goal

pub pass-requires : goal.pass-requires
pass-requires c =
    let done = ap (λ k. (k, c.in-Item.undo) ∷ []) (c.in_ok-passage.ensures.channel ∙ c.in_ok-copy.ensures) in
    can_take (program_in c.args.meeting.now.turn.now.listing.now) c.args.meeting.now.turn.now.event.now c.args.meeting.now.turn.now.number c.args.self.now c.requires.may.acting c.args.meeting.now.clause c.requires.may.clause
    c.args.meeting.now.channel.now c.args.zero c.requires.sound c.at-found.result.now c.at-found.ensures (program_code_of c.args.meeting.now.turn.now.listing.now.code.value)
    c.requires.may.coded ((channel_in c.in_ok-passage.passage.value.contact.operation, c.in-Item.undo) ∷ []) c.requires.item c.in-Item.value
    c.in-Item.undo c.take.new.self (rw c.in-Item.is at c.in_ok-value.ensures.rule) (rw c.in-Item.is at c.in_ok-value.ensures.back) done

pub returns-clause-ok : goal.returns-clause-ok
returns-clause-ok c =
    let done = ap (λ k. (k, c.in-Item.undo) ∷ []) (c.in_ok-passage.ensures.channel ∙ c.in_ok-copy.ensures) in
    let told = rw c.in_ok-copy.ensures at (c.in_ok-passage.ensures.told (Gate c.in_ok-copy.field-0 ∷ []) (Head c.in_ok-copy.field-0 ∷ slot_numbered c.in_ok-copy.field-0 c.at-found.result.now.content.capacity c.at-found.result.now.content.head) (c.left.ensures c.in_ok-copy.field-0)) in
    if_ok c.pass.result (rw c.kind_by-kind.ensures at (c.pass.ensures.ok (receives_from c.args.meeting.now.channel.now) (Gate c.args.meeting.now.channel.now ∷ [])
    (Head c.args.meeting.now.channel.now ∷ slot_numbered c.args.meeting.now.channel.now c.at-found.result.now.content.capacity c.at-found.result.now.content.head) told))
    (λ change x. was_taken (program_in c.args.meeting.now.turn.now.listing.now) c.args.meeting.now.turn.now.event.now c.args.meeting.now.turn.now.number c.args.self.now c.requires.may.acting c.args.meeting.now.clause c.requires.may.clause
    c.args.meeting.now.channel.now c.args.zero c.requires.sound c.at-found.result.now c.at-found.ensures (program_code_of c.args.meeting.now.turn.now.listing.now.code.value)
    c.requires.may.coded ((channel_in c.in_ok-passage.passage.value.contact.operation, c.in-Item.undo) ∷ []) c.requires.item c.in-Item.value
    c.in-Item.undo c.take.new.self (rw c.in-Item.is at c.in_ok-value.ensures.rule) (rw c.in-Item.is at c.in_ok-value.ensures.back) done change c.pass.new.self x)

pub returns-clause-room : goal.returns-clause-room
returns-clause-room c =
    let done = ap (λ k. (k, c.in-Item.undo) ∷ []) (c.in_ok-passage.ensures.channel ∙ c.in_ok-copy.ensures) in
    let told = rw c.in_ok-copy.ensures at (c.in_ok-passage.ensures.told (Gate c.in_ok-copy.field-0 ∷ []) (Head c.in_ok-copy.field-0 ∷ slot_numbered c.in_ok-copy.field-0 c.at-found.result.now.content.capacity c.at-found.result.now.content.head) (c.left.ensures c.in_ok-copy.field-0)) in
    if_ok c.pass.result (rw c.kind_by-kind.ensures at (c.pass.ensures.ok (receives_from c.args.meeting.now.channel.now) (Gate c.args.meeting.now.channel.now ∷ [])
    (Head c.args.meeting.now.channel.now ∷ slot_numbered c.args.meeting.now.channel.now c.at-found.result.now.content.capacity c.at-found.result.now.content.head) told))
    (λ change x. take_room (program_in c.args.meeting.now.turn.now.listing.now) c.args.meeting.now.turn.now.event.now c.args.meeting.now.turn.now.number c.args.self.now c.requires.may.acting c.args.meeting.now.clause c.requires.may.clause
    c.args.meeting.now.channel.now c.args.zero c.requires.sound c.at-found.result.now c.at-found.ensures (program_code_of c.args.meeting.now.turn.now.listing.now.code.value)
    c.requires.may.coded ((channel_in c.in_ok-passage.passage.value.contact.operation, c.in-Item.undo) ∷ []) c.requires.item c.in-Item.value
    c.in-Item.undo c.take.new.self (rw c.in-Item.is at c.in_ok-value.ensures.rule) (rw c.in-Item.is at c.in_ok-value.ensures.back) done change c.pass.new.self x)

pub returns-clause-err : goal.returns-clause-err
returns-clause-err c =
    let done = ap (λ k. (k, c.in-Item.undo) ∷ []) (c.in_ok-passage.ensures.channel ∙ c.in_ok-copy.ensures) in
    if_err c.pass.result c.pass.ensures.err_goroutines c.pass.ensures.err_channels (λ gos took.
    before_these c.args.self.now c.take.new.self ((channel_in c.in_ok-passage.passage.value.contact.operation, c.in-Item.undo) ∷ [])
    (subst {_, _} (λ us. GoesBack us c.args.self.now.channels c.take.new.self) (sym done) (rw c.in-Item.is at c.in_ok-value.ensures.back))
    c.pass.new.self gos took c.pass.ensures.run)

pub returns-in_err-value-clause-err : goal.returns-in_err-value-clause-err
returns-in_err-value-clause-err c =
    on_err c.from_residual-in_err-value.result (same_seen c.args.self.now c.take.new.self c.in_err-value.ensures.err)
