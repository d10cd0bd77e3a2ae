use Rattle.std.proofs.Common.{◌≡◌, ◌<◌, ◌∙◌, false, length, [], refl, sym, subst}
use Rattle.gr_channels.specs.Channels.{Content}
use Rattle.gr_tables.specs.NamedChannels.{At}
use Rattle.gr_record.specs.Listings.{program_in}
use Rattle.gr_step.proofs.OfferLemmas.{was_seen, none_in}
use Rattle.gr_step.proofs.SendLookLemmas.{counts_on, send_finds, closed_faults, cannot_send}
use Rattle.gr_step.proofs.objects.Objects.send.Goals as goal

pub at-found-requires : goal.at-found-requires
at-found-requires c = λ none.
    send_finds (program_in c.args.meeting.now.turn.now.listing.now) c.args.meeting.now.turn.now.event.now c.args.meeting.now.turn.now.number c.args.self.now c.requires.may.acting c.args.meeting.now.clause c.args.meeting.now.channel.now c.args.value
    c.requires.sound none

pub fault-requires : goal.fault-requires
fault-requires c = counts_on (program_in c.args.meeting.now.turn.now.listing.now) c.args.meeting.now.turn.now.event.now c.args.meeting.now.turn.now.number c.args.self.now c.requires.may.acting

pub returns-then-is_closed-clause-ok : goal.returns-then-is_closed-clause-ok
returns-then-is_closed-clause-ok c =
    closed_faults (program_in c.args.meeting.now.turn.now.listing.now) c.args.meeting.now.turn.now.event.now c.args.meeting.now.turn.now.number c.args.self.now c.requires.may.acting c.args.meeting.now.clause c.args.meeting.now.channel.now c.args.value
    c.at-found.result.now c.at-found.ensures (sym c.is_closed.ensures ∙ c.if-is_closed.true) c.in_ok-copy.field-0 c.in_ok-copy.ensures
    c.in_ok-reads.reads.items c.in_ok-reads.ensures c.in_ok-change.change _
    (c.in_ok-change.ensures.ok c.args.meeting.now.turn.now.event.now.go c.requires.may.acting.goroutine c.requires.may.acting.named c.requires.may.acting.there)

pub returns-then-is_closed-clause-room : goal.returns-then-is_closed-clause-room
returns-then-is_closed-clause-room c = c.in_ok-change.ensures.room c.args.meeting.now.turn.now.event.now.go

pub buffer-requires-clause-space : goal.buffer-requires-clause-space
buffer-requires-clause-space c =
    subst {_, _} (At (λ (x : Content). (x.closed ≡ false) × (x.receivers ≡ []) × (length x.items < x.capacity)))
    (sym (was_seen c.args.self.now.channels c.args.meeting.now.channel.now c.at-found.result.now c.at-found.ensures)) (
      sym c.is_closed.ensures ∙ c.if-is_closed.false,
      none_in c.at-found.result.now.content.receivers c.in_default.ensures,
      rw (c.len.ensures, c.capacity.ensures.value) at c.if-len-capacity.true,
    )

pub returns-clause-ok : goal.returns-clause-ok
returns-clause-ok c = (
  refl,
  cannot_send (program_in c.args.meeting.now.turn.now.listing.now) c.args.meeting.now.turn.now.event.now c.args.meeting.now.turn.now.number c.args.self.now c.requires.may.acting c.args.meeting.now.clause c.args.meeting.now.channel.now c.args.value
      c.at-found.result.now c.at-found.ensures (sym c.is_closed.ensures ∙ c.if-is_closed.false)
      (none_in c.at-found.result.now.content.receivers c.in_default.ensures) (rw (c.len.ensures, c.capacity.ensures.value) at c.if-len-capacity.false),
)
