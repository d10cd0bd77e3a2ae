-- What taking one step back leaves of goroutines and channels as it is.
use Rattle.std.proofs.Common.{◌≡◌, ℕ, true, false, if◌then◌else◌, List, [], Option, Some, None, refl, sym, ap, subst, ◌∙◌, inl, inr}
use Rattle.std.proofs.lemmas.Bool.{cases_Bool}
use Rattle.gr_base.specs.declared.names.ChName.{ChName}
use Rattle.gr_base.specs.declared.objects.Object.TheVariants as objects
use Rattle.gr_channels.specs.declared.changes.ChanUndo.{ChanUndo}
use Rattle.gr_channels.specs.Channels.{Content}
use Rattle.gr_rules.specs.Operators.{same_channel}
use Rattle.gr_rules.specs.States.{same_go}
use Rattle.gr_code.specs.Goroutines.{CodeGoroutine}
use Rattle.gr_refine.specs.Contents.{Contents}
use Rattle.gr_refine.specs.NamedBack.{at_channel}
use Rattle.gr_refine.proofs.NameLemmas.{go_is, channel_is}
use Rattle.gr_tables.specs.NamedChannels.{chan_back}
use Rattle.gr_record.specs.Conflicts.{written_by, touched_by}
use Rattle.gr_record.specs.declared.record.Record.{Record}
use Rattle.gr_record.specs.Records.{goroutines_changed, channels_changed, begun_by, made_by, is_go, is_channel, go_back}
use Rattle.gr_record.specs.Within.{IsAmong, IsUnused, ChangesWithin}
use Rattle.gr_record.proofs.NamedLemmas.{go_kept, none_at, back_of_none, back_unchanged}

-- what taking a step back makes of a goroutine and of a channel
abbrev pub go_after : Record → List ℕ → Option CodeGoroutine → Option CodeGoroutine
go_after r q x = if is_go q (begun_by r.change) then None else go_back (goroutines_changed r.id.go r.change) q x

abbrev pub channel_after : Record → ChName → Option Content → Option Content
channel_after r c x = if is_channel c (made_by r.change) then None else chan_back (channels_changed r.change) c x

-- its changes of one channel
abbrev pub changes_of : Record → ChName → List ChanUndo
changes_of r c = at_channel c (channels_changed r.change)

-- no channel stays none
pub after_none : (r : Record) (c : ChName) → channel_after r c None ≡ None
after_none r c = elim (cases_Bool (is_channel c (made_by r.change))) [
  | inl is ↦ ap (λ b. if b then None else chan_back (channels_changed r.change) c None) is
  | inr is ↦ ap (λ b. if b then None else chan_back (channels_changed r.change) c None) is ∙ back_of_none (channels_changed r.change) c
]

module _ (r : Record) (t : Contents) (within : ChangesWithin r.id.go r.change t) where
  -- goroutines that it did not write stay
  pub go_stays : (q : List ℕ) (x : Option CodeGoroutine) → (IsAmong (objects.Go q) (written_by r) → ⊥) → go_after r q x ≡ x
  go_stays q x out = by (begun_by r.change) refl
    where
      kept : go_back (goroutines_changed r.id.go r.change) q x ≡ x
      kept = go_kept (goroutines_changed r.id.go r.change) (written_by r) q x within.goroutines out

      by : (o : Option (List ℕ)) → begun_by r.change ≡ o → (if is_go q o then None else go_back (goroutines_changed r.id.go r.change) q x) ≡ x
      by None e = kept
      by (Some n) e = elim (cases_Bool (same_go q n)) [
        | inl is ↦ absurd (out (subst {_, _} (λ m. IsAmong (objects.Go m) (written_by r)) (sym (go_is q n is)) (within.begun n e)))
        | inr other ↦ ap (λ b. if b then None else go_back (goroutines_changed r.id.go r.change) q x) other ∙ kept
      ]

  -- it made no channel whose gate it did not write
  pub not_made : (c : ChName) → (IsAmong (objects.Gate c) (written_by r) → ⊥) → is_channel c (made_by r.change) ≡ false
  not_made c out = by (made_by r.change) refl
    where
      by : (o : Option ChName) → made_by r.change ≡ o → is_channel c o ≡ false
      by None e = refl
      by (Some d) e = elim (cases_Bool (same_channel c d)) [
        | inl is ↦ absurd (out (subst {_, _} (λ k. IsAmong (objects.Gate k) (written_by r)) (sym (channel_is c d is)) (within.made d e).0))
        | inr other ↦ other
      ]

  -- the one that it made is as new
  pub made_is_new : (c : ChName) → is_channel c (made_by r.change) ≡ true → IsAmong (objects.Gate c) (written_by r) × IsUnused (t.channels c)
  made_is_new c is = by (made_by r.change) refl is
    where
      by : (o : Option ChName) → made_by r.change ≡ o → is_channel c o ≡ true → IsAmong (objects.Gate c) (written_by r) × IsUnused (t.channels c)
      by None e h = absurd (let no : false ≡ true = h in cc)
      by (Some d) e h = subst {_, _} (λ k. IsAmong (objects.Gate k) (written_by r) × IsUnused (t.channels k)) (sym (channel_is c d h)) (within.made d e)

  -- a channel whose gate it did not touch it did not change
  pub not_changed : (c : ChName) → (IsAmong (objects.Gate c) (touched_by r) → ⊥) → changes_of r c ≡ []
  not_changed c out = none_at (channels_changed r.change) (touched_by r) c within.gates out

  -- what is left of a channel that it did not make
  pub after_is : (c : ChName) (x : Option Content) → is_channel c (made_by r.change) ≡ false → channel_after r c x ≡ chan_back (channels_changed r.change) c x
  after_is c x other = ap (λ b. if b then None else chan_back (channels_changed r.change) c x) other

  pub channel_stays : (c : ChName) (x : Option Content) → is_channel c (made_by r.change) ≡ false → changes_of r c ≡ [] → channel_after r c x ≡ x
  channel_stays c x other none = after_is c x other ∙ back_unchanged (channels_changed r.change) c x none
