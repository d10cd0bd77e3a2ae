use Rattle.std.proofs.Common.{◌≡◌, ◌∙◌, Bool, false, true, List, [], ◌∷◌, refl, sym, subst}
use Rattle.std.specs.Prelude.{IsTrue}
use Rattle.gr_channels.specs.Channels.{Content}
use Rattle.gr_channels.specs.Objects.{has_any}
use Rattle.gr_tables.specs.NamedChannels.{At}
use Rattle.gr_record.specs.Listings.{program_in}
use Rattle.gr_step.proofs.OfferLemmas.{was_seen, none_in}
use Rattle.gr_step.proofs.TakeItemLemmas.{receive_finds, cannot_receive}
use Rattle.gr_step.proofs.objects.Objects.receive.Goals as goal

-- there is an item where the buffer is not empty
some_item : {X : Type 0} (xs : List X) (b : Bool) → b ≡ false → (xs ≡ [] → IsTrue b) → has_any xs ≡ true
some_item [] b none h = absurd (let wrong : false ≡ true = sym none ∙ h refl in cc)
some_item (x ∷ xs) b none h = refl

-- there is no item where the buffer is empty
no_item : {X : Type 0} (xs : List X) (b : Bool) → b ≡ true → (IsTrue b → xs ≡ []) → xs ≡ []
no_item xs b is h = h is

pub at-found-requires : goal.at-found-requires
at-found-requires c = λ none.
    receive_finds (program_in c.args.meeting.now.turn.now.listing.now) c.args.meeting.now.turn.now.event.now c.args.meeting.now.turn.now.number c.args.self.now c.requires.may.acting c.args.meeting.now.clause c.args.meeting.now.channel.now c.args.zero
    c.requires.sound none

pub take_item-requires-clause-item : goal.take_item-requires-clause-item
take_item-requires-clause-item c =
    subst {_, _} (At (λ (x : Content). (has_any x.items ≡ true) × (x.senders ≡ [])))
    (sym (was_seen c.args.self.now.channels c.args.meeting.now.channel.now c.at-found.result.now c.at-found.ensures)) (
      some_item c.at-found.result.now.content.items c.is_empty-2.result c.if-not-is_empty.true c.is_empty-2.ensures.1,
      none_in c.at-found.result.now.content.senders c.in_default.ensures,
    )

pub receive_zero-requires-clause-at_end : goal.receive_zero-requires-clause-at_end
receive_zero-requires-clause-at_end c =
    subst {_, _} (At (λ (x : Content). (x.items ≡ []) × (x.senders ≡ []) × (x.closed ≡ true)))
    (sym (was_seen c.args.self.now.channels c.args.meeting.now.channel.now c.at-found.result.now c.at-found.ensures)) (
      no_item c.at-found.result.now.content.items c.is_empty-2.result c.if-not-is_empty.false c.is_empty-2.ensures.0,
      none_in c.at-found.result.now.content.senders c.in_default.ensures,
      sym c.is_closed.ensures ∙ c.if-is_closed.true,
    )

pub returns-clause-ok : goal.returns-clause-ok
returns-clause-ok c = (
  refl,
  cannot_receive (program_in c.args.meeting.now.turn.now.listing.now) c.args.meeting.now.turn.now.event.now c.args.meeting.now.turn.now.number c.args.self.now c.requires.may.acting c.args.meeting.now.clause c.args.meeting.now.channel.now c.args.zero
      c.at-found.result.now c.at-found.ensures
      (no_item c.at-found.result.now.content.items c.is_empty-2.result c.if-not-is_empty.false c.is_empty-2.ensures.0)
      (none_in c.at-found.result.now.content.senders c.in_default.ensures) (sym c.is_closed.ensures ∙ c.if-is_closed.false),
)
