-- What a channel answers, said of the channel of a name.
use Rattle.std.proofs.Common.{◌≡◌, [], ◌∷◌, sym, subst, Result, Ok, Err, IfOk, OnOk, OnErr}
use Rattle.gr_base.specs.declared.names.ChName.{ChName}
use Rattle.gr_base.specs.declared.values.Value.{Value}
use Rattle.gr_channels.specs.declared.changes.ChanUndo.{ChanUndo}
use Rattle.gr_channels.specs.declared.changes.Offered.{Offered}
use Rattle.gr_channels.specs.declared.changes.Offered.TheVariants as offered
use Rattle.gr_channels.specs.declared.changes.Taken.{Taken}
use Rattle.gr_channels.specs.declared.changes.Taken.TheVariants as taken
use Rattle.gr_channels.specs.Channels.{Content, Seen, Within}
use Rattle.gr_channels.specs.Changes.{Undoes, OfferRule, OfferUndone, TakeRule, TakeUndone}
use Rattle.gr_tables.specs.NamedChannels.{At, Becomes, ChangesAt, GoesBack, OfferAt, OfferGoesBack, TakeAt, TakeGoesBack}
use Rattle.gr_tables.specs.declared.channels.Channels.{Channels}
use Rattle.std.specs.BTreeMap.{BTreeMap}
use Rattle.gr_tables.proofs.SeenLemmas.{seen_in, contents_in, rooms_in, content_was, Sets, becomes, same_contents, same_seen, keeps_rooms, goes_back}

seen_is : (a b : Seen) → b.content ≡ a.content → b.room ≡ a.room → b ≡ a
seen_is a b p q = λ i. record { content = p i; room = q i }

-- what is true anyhow is true where there is an error
pub on_err : {T E : Type 0} (r : Result T E) (P : Type 0) → P → OnErr r P
on_err (Ok x) P h = tt
on_err (Err e) P h = h

module _ {name : ChName} {a b : Seen} {m n : BTreeMap ChName Seen} (s : Sets name a b m n) where
  pub same_at_err : {T E : Type 0} (r : Result T E) → OnErr r (b.content ≡ a.content) → OnErr r (contents_in n ≡ contents_in m)
  same_at_err (Ok x) h = tt
  same_at_err (Err e) h = same_contents s h

  pub seen_at_err : {T E : Type 0} (r : Result T E) → OnErr r (b ≡ a) → OnErr r (seen_in n ≡ seen_in m)
  seen_at_err (Ok x) h = tt
  seen_at_err (Err e) h = same_seen s h

  pub rooms_at_err : {T E : Type 0} (r : Result T E) → OnErr r (Within a.room b.room) → OnErr r ((q : ChName) → Within (rooms_in m q) (rooms_in n q))
  rooms_at_err (Ok x) h = tt
  rooms_at_err (Err e) h = keeps_rooms s h

  -- what is true of the channel before is true of the channel that is there
  pub there_at_err : {T E : Type 0} (r : Result T E) (P : Seen → Type 0) → OnErr r (P a) → OnErr r (At P (seen_in m name))
  there_at_err (Ok x) P h = tt
  there_at_err (Err e) P h = subst (At P) (sym s.was) h

  pub content_at_err : {T E : Type 0} (r : Result T E) (P : Content → Type 0) → OnErr r (P a.content) → OnErr r (At P (contents_in m name))
  content_at_err (Ok x) P h = tt
  content_at_err (Err e) P h = subst (At P) (sym (content_was s)) h

module _ {name : ChName} {a b : Seen} (old new : Channels) (s : Sets name a b old.map new.map) where
  pub offer_at : {E : Type 0} (v : Value) (r : Result Offered E) → IfOk r (λ x. OfferRule a.content v x b.content) → IfOk r (λ x. OfferAt name v x old new)
  offer_at v (Ok x) h = record { before = a.content; after = b.content; becomes = becomes old new s; rule = h }
  offer_at v (Err e) h = tt

  offer_goes_back : (v : Value) (x : Offered) → OfferRule a.content v x b.content → OfferUndone x a b → OfferGoesBack name x old new
  offer_goes_back v (offered.Closed w) h k = same_seen s (seen_is a b h.2 k)
  offer_goes_back v (offered.Handed w u) h k = goes_back old new s u k
  offer_goes_back v (offered.Buffered u) h k = goes_back old new s u k
  offer_goes_back v (offered.Full w) h k = same_seen s (seen_is a b h.4 k)

  pub offer_back : {E : Type 0} (v : Value) (r : Result Offered E) → IfOk r (λ x. OfferRule a.content v x b.content)
      → IfOk r (λ x. OfferUndone x a b) → IfOk r (λ x. OfferGoesBack name x old new)
  offer_back v (Ok x) h k = offer_goes_back v x h k
  offer_back v (Err e) h k = tt

  pub take_at : {E : Type 0} (r : Result Taken E) → IfOk r (λ x. TakeRule a.content x b.content) → IfOk r (λ x. TakeAt name x old new)
  take_at (Ok x) h = record { before = a.content; after = b.content; becomes = becomes old new s; rule = h }
  take_at (Err e) h = tt

  take_goes_back : (x : Taken) → TakeRule a.content x b.content → TakeUndone x a b → TakeGoesBack name x old new
  take_goes_back (taken.Item v u) h k = goes_back old new s u k
  take_goes_back (taken.Moved v u) h k = goes_back old new s u k
  take_goes_back (taken.Met v u) h k = goes_back old new s u k
  take_goes_back taken.Closed h k = same_seen s (seen_is a b h.3 k)
  take_goes_back taken.Empty h k = same_seen s (seen_is a b h.3 k)

  pub undo_all : {E : Type 0} (r : Result Taken E) → IfOk r (λ x. TakeRule a.content x b.content) → IfOk r (λ x. TakeUndone x a b)
      → IfOk r (λ x. TakeGoesBack name x old new)
  undo_all (Ok x) h k = take_goes_back x h k
  undo_all (Err e) h k = tt

  pub changes_at : {T E : Type 0} (f : Content → Content) (r : Result T E) → OnOk r (b.content ≡ f a.content) → OnOk r (ChangesAt name f old new)
  changes_at f (Ok x) h = (a.content, subst (λ y. Becomes name a.content y old new) h (becomes old new s))
  changes_at f (Err e) h = tt

  pub back_at_ok : {E : Type 0} (r : Result ChanUndo E) → IfOk r (λ u. Undoes u a b) → IfOk r (λ u. GoesBack ((name, u) ∷ []) old new)
  back_at_ok (Ok u) h = goes_back old new s u h
  back_at_ok (Err e) h = tt
