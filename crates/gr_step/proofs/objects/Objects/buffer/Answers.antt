use Rattle.std.proofs.Common.{◌∙◌, ◌∷◌, [], sym, ap, subst}
use Rattle.gr_base.specs.declared.objects.Object.TheVariants.{Gate, Tail}
use Rattle.gr_channels.specs.Channels.{tail_of}
use Rattle.gr_rules.specs.Attempts.{sends_on}
use Rattle.gr_rules.specs.Touches.{slot_numbered}
use Rattle.gr_code.specs.CodeViews.{program_code_of}
use Rattle.gr_tables.specs.NamedChannels.{GoesBack}
use Rattle.gr_record.specs.Listings.{program_in}
use Rattle.gr_record.specs.Parts.{channel_in}
use Rattle.gr_step.proofs.BufferLemmas.{can_buffer, was_buffered, buffer_room}
use Rattle.gr_step.proofs.ExchangeLemmas.{before_these}
use Rattle.gr_step.proofs.ResultLemmas.{if_ok, if_err}
use Rattle.gr_step.proofs.objects.Objects.buffer.Goals as goal

pub pass-requires : goal.pass-requires
pass-requires c =
    let done = ap (λ k. (k, c.in-Buffered.undo) ∷ []) (c.in_ok-passage.ensures.channel ∙ c.in_ok-copy.ensures) in
    can_buffer (program_in c.args.meeting.now.turn.now.listing.now) c.args.meeting.now.turn.now.event.now c.args.meeting.now.turn.now.number c.args.self.now c.requires.may.acting c.args.meeting.now.clause c.requires.may.clause
    c.args.meeting.now.channel.now c.args.value c.requires.sound c.at-found.result.now c.at-found.ensures c.requires.space (program_code_of c.args.meeting.now.turn.now.listing.now.code.value)
    c.requires.may.coded c.in-Buffered.undo c.offer.new.self (rw c.in-Buffered.is at c.in_ok-undo.ensures.rule)
    (rw c.in-Buffered.is at c.in_ok-undo.ensures.back) ((channel_in c.in_ok-passage.passage.value.contact.operation, c.in-Buffered.undo) ∷ []) done

pub returns-clause-ok : goal.returns-clause-ok
returns-clause-ok c =
    let done = ap (λ k. (k, c.in-Buffered.undo) ∷ []) (c.in_ok-passage.ensures.channel ∙ c.in_ok-copy.ensures) in
    let told = rw c.in_ok-copy.ensures at (c.in_ok-passage.ensures.told (Gate c.in_ok-copy.field-0 ∷ []) (Tail c.in_ok-copy.field-0 ∷ slot_numbered c.in_ok-copy.field-0 c.at-found.result.now.content.capacity (tail_of c.at-found.result.now.content)) (c.entered.ensures c.in_ok-copy.field-0)) in
    if_ok c.pass.result (rw c.kind_by-kind.ensures at (c.pass.ensures.ok (sends_on c.args.meeting.now.channel.now) (Gate c.args.meeting.now.channel.now ∷ [])
    (Tail c.args.meeting.now.channel.now ∷ slot_numbered c.args.meeting.now.channel.now c.at-found.result.now.content.capacity (tail_of c.at-found.result.now.content)) told))
    (λ change x. was_buffered (program_in c.args.meeting.now.turn.now.listing.now) c.args.meeting.now.turn.now.event.now c.args.meeting.now.turn.now.number c.args.self.now c.requires.may.acting c.args.meeting.now.clause c.requires.may.clause
    c.args.meeting.now.channel.now c.args.value c.requires.sound c.at-found.result.now c.at-found.ensures c.requires.space (program_code_of c.args.meeting.now.turn.now.listing.now.code.value)
    c.requires.may.coded c.in-Buffered.undo c.offer.new.self (rw c.in-Buffered.is at c.in_ok-undo.ensures.rule)
    (rw c.in-Buffered.is at c.in_ok-undo.ensures.back) ((channel_in c.in_ok-passage.passage.value.contact.operation, c.in-Buffered.undo) ∷ []) done change c.pass.new.self x)

pub returns-clause-room : goal.returns-clause-room
returns-clause-room c =
    let done = ap (λ k. (k, c.in-Buffered.undo) ∷ []) (c.in_ok-passage.ensures.channel ∙ c.in_ok-copy.ensures) in
    let told = rw c.in_ok-copy.ensures at (c.in_ok-passage.ensures.told (Gate c.in_ok-copy.field-0 ∷ []) (Tail c.in_ok-copy.field-0 ∷ slot_numbered c.in_ok-copy.field-0 c.at-found.result.now.content.capacity (tail_of c.at-found.result.now.content)) (c.entered.ensures c.in_ok-copy.field-0)) in
    if_ok c.pass.result (rw c.kind_by-kind.ensures at (c.pass.ensures.ok (sends_on c.args.meeting.now.channel.now) (Gate c.args.meeting.now.channel.now ∷ [])
    (Tail c.args.meeting.now.channel.now ∷ slot_numbered c.args.meeting.now.channel.now c.at-found.result.now.content.capacity (tail_of c.at-found.result.now.content)) told))
    (λ change x. buffer_room (program_in c.args.meeting.now.turn.now.listing.now) c.args.meeting.now.turn.now.event.now c.args.meeting.now.turn.now.number c.args.self.now c.requires.may.acting c.args.meeting.now.clause c.requires.may.clause
    c.args.meeting.now.channel.now c.args.value c.requires.sound c.at-found.result.now c.at-found.ensures c.requires.space (program_code_of c.args.meeting.now.turn.now.listing.now.code.value)
    c.requires.may.coded c.in-Buffered.undo c.offer.new.self (rw c.in-Buffered.is at c.in_ok-undo.ensures.rule)
    (rw c.in-Buffered.is at c.in_ok-undo.ensures.back) ((channel_in c.in_ok-passage.passage.value.contact.operation, c.in-Buffered.undo) ∷ []) done change c.pass.new.self x)

pub returns-clause-err : goal.returns-clause-err
returns-clause-err c =
    let done = ap (λ k. (k, c.in-Buffered.undo) ∷ []) (c.in_ok-passage.ensures.channel ∙ c.in_ok-copy.ensures) in
    if_err c.pass.result c.pass.ensures.err_goroutines c.pass.ensures.err_channels (λ gos took.
    before_these c.args.self.now c.offer.new.self ((channel_in c.in_ok-passage.passage.value.contact.operation, c.in-Buffered.undo) ∷ [])
    (subst {_, _} (λ us. GoesBack us c.args.self.now.channels c.offer.new.self) (sym done) (rw c.in-Buffered.is at c.in_ok-undo.ensures.back))
    c.pass.new.self gos took c.pass.ensures.run)
