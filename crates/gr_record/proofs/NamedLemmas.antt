-- Changes under names: what they leave as it is, where they fit, and channel by channel.
use Rattle.std.proofs.Common.{◌≡◌, ℕ, true, if◌then◌else◌, List, [], ◌∷◌, Option, Some, None, refl, sym, ap, subst, ◌∙◌, inl, inr, option_map}
use Rattle.std.proofs.lemmas.Bool.{cases_Bool}
use Rattle.gr_base.specs.declared.names.ChName.{ChName}
use Rattle.gr_base.specs.declared.objects.Object.{Object}
use Rattle.gr_base.specs.declared.objects.Object.TheVariants.{Go, Gate}
use Rattle.gr_channels.specs.declared.changes.ChanUndo.{ChanUndo}
use Rattle.gr_channels.specs.Channels.{Content}
use Rattle.gr_channels.specs.Changes.{undone, Fits}
use Rattle.gr_rules.specs.Operators.{same_channel}
use Rattle.gr_rules.specs.States.{same_go}
use Rattle.gr_code.specs.Goroutines.{CodeGoroutine}
use Rattle.gr_refine.specs.NamedBack.{at_channel}
use Rattle.gr_refine.specs.TakingBack.{all_undone, AllFit}
use Rattle.gr_refine.proofs.NameLemmas.{go_is, channel_is, channel_self}
use Rattle.gr_tables.specs.GoUndo.{GoUndo}
use Rattle.gr_tables.specs.NamedChannels.{chan_back, FitsAt, ChansFit}
use Rattle.gr_record.specs.Records.{go_undone, go_back, GoFitsAt, GoesFit}
use Rattle.gr_record.specs.Within.{IsAmong, EachIsAmong}

-- a goroutine that was not written was not changed
pub go_kept : (es : List (List ℕ × GoUndo)) (os : List Object) (q : List ℕ) (x : Option CodeGoroutine) → EachIsAmong Go es os → (IsAmong (Go q) os → ⊥)
    → go_back es q x ≡ x
go_kept [] os q x among out = refl
go_kept (e ∷ es) os q x among out = elim (cases_Bool (same_go q e.0)) [
  | inl t ↦ absurd (out (subst {_, _} (λ n. IsAmong (Go n) os) (sym (go_is q e.0 t)) among.0))
  | inr f ↦ ap (λ b. if b then go_undone e.1 (go_back es q x) else go_back es q x) f ∙ go_kept es os q x among.1 out
]

-- changes of goroutines fit where these are the same
pub goes_fit_alike : (es : List (List ℕ × GoUndo)) (os : List Object) (f g : List ℕ → Option CodeGoroutine) → EachIsAmong Go es os
    → ((q : List ℕ) → IsAmong (Go q) os → g q ≡ f q) → GoesFit es f → GoesFit es g
goes_fit_alike [] os f g among same fits = tt
goes_fit_alike (e ∷ es) os f g among same fits = (
  subst {_, _} (λ o. GoFitsAt e.1 (go_back es e.0 o)) (sym (same e.0 among.0)) fits.0,
  goes_fit_alike es os f g among.1 same fits.1,
)

-- the changes of a channel whose gate was not touched
pub none_at : (us : List (ChName × ChanUndo)) (os : List Object) (c : ChName) → EachIsAmong Gate us os → (IsAmong (Gate c) os → ⊥) → at_channel c us ≡ []
none_at [] os c among out = refl
none_at (e ∷ es) os c among out = elim (cases_Bool (same_channel c e.0)) [
  | inl t ↦ absurd (out (subst {_, _} (λ d. IsAmong (Gate d) os) (sym (channel_is c e.0 t)) among.0))
  | inr f ↦ ap (λ b. if b then e.1 ∷ at_channel c es else at_channel c es) f ∙ none_at es os c among.1 out
]

-- a channel that is there, with its changes taken back
pub back_of_some : (us : List (ChName × ChanUndo)) (c : ChName) (x : Content) → chan_back us c (Some x) ≡ Some (all_undone (at_channel c us) x)
back_of_some [] c x = refl
back_of_some (e ∷ es) c x = elim (cases_Bool (same_channel c e.0)) [
  | inl t ↦ rw t (ap (option_map (undone e.1)) (back_of_some es c x))
  | inr f ↦ rw f (back_of_some es c x)
]

pub back_of_none : (us : List (ChName × ChanUndo)) (c : ChName) → chan_back us c None ≡ None
back_of_none [] c = refl
back_of_none (e ∷ es) c = elim (cases_Bool (same_channel c e.0)) [
  | inl t ↦ rw t (ap (option_map (undone e.1)) (back_of_none es c))
  | inr f ↦ rw f (back_of_none es c)
]

pub back_unchanged : (us : List (ChName × ChanUndo)) (c : ChName) (o : Option Content) → at_channel c us ≡ [] → chan_back us c o ≡ o
back_unchanged us c None none = back_of_none us c
back_unchanged us c (Some x) none = back_of_some us c x ∙ ap (λ vs. Some (all_undone vs x)) none

-- the changes of each channel fit
first_fits : (e : ChName × ChanUndo) (es : List (ChName × ChanUndo)) (f : ChName → Option Content) (c : ChName) (x : Content) → f c ≡ Some x
    → same_channel c e.0 ≡ true → FitsAt e.1 (chan_back es e.0 (f e.0)) → Fits e.1 (all_undone (at_channel c es) x)
first_fits e es f c x there t fits =
    let here : FitsAt e.1 (chan_back es c (f c)) = subst {_, _} (λ d. FitsAt e.1 (chan_back es d (f d))) (sym (channel_is c e.0 t)) fits in
    subst {_, _} (FitsAt e.1) (ap (chan_back es c) there ∙ back_of_some es c x) here

pub fits_at : (us : List (ChName × ChanUndo)) (f : ChName → Option Content) (c : ChName) (x : Content) → f c ≡ Some x → ChansFit us f → AllFit (at_channel c us) x
fits_at [] f c x there fits = tt
fits_at (e ∷ es) f c x there fits = elim (cases_Bool (same_channel c e.0)) [
  | inl t ↦ rw t (first_fits e es f c x there t fits.0, fits_at es f c x there fits.1)
  | inr n ↦ rw n (fits_at es f c x there fits.1)
]

-- a channel that is not there was not changed
none_fits : (e : ChName × ChanUndo) (es : List (ChName × ChanUndo)) (f : ChName → Option Content) (c : ChName) → f c ≡ None → same_channel c e.0 ≡ true
    → FitsAt e.1 (chan_back es e.0 (f e.0)) → ⊥
none_fits e es f c none t fits =
    let here : FitsAt e.1 (chan_back es c (f c)) = subst {_, _} (λ d. FitsAt e.1 (chan_back es d (f d))) (sym (channel_is c e.0 t)) fits in
    subst {_, _} (FitsAt e.1) (ap (chan_back es c) none ∙ back_of_none es c) here

pub none_changed : (us : List (ChName × ChanUndo)) (f : ChName → Option Content) (c : ChName) → f c ≡ None → ChansFit us f → at_channel c us ≡ []
none_changed [] f c none fits = refl
none_changed (e ∷ es) f c none fits = elim (cases_Bool (same_channel c e.0)) [
  | inl t ↦ absurd (none_fits e es f c none t fits.0)
  | inr n ↦ rw n (none_changed es f c none fits.1)
]

-- where the changes of each channel fit, all fit
module _ (f : ChName → Option Content) where
  abbrev FitEach : List (ChName × ChanUndo) → Type 0
  FitEach us = (c : ChName) → ((x : Content) → f c ≡ Some x → AllFit (at_channel c us) x) × (f c ≡ None → at_channel c us ≡ [])

  rest_fit : (e : ChName × ChanUndo) (es : List (ChName × ChanUndo)) → FitEach (e ∷ es) → FitEach es
  rest_fit e es h c = elim (cases_Bool (same_channel c e.0)) [
    | inl t ↦ (
      λ x is. let both : AllFit (e.1 ∷ at_channel c es) x = subst {_, _} (λ b. AllFit (if b then e.1 ∷ at_channel c es else at_channel c es) x) t ((h c).0 x is) in
          both.1,
      λ none. absurd (let some : e.1 ∷ at_channel c es ≡ [] = sym (ap (λ b. if b then e.1 ∷ at_channel c es else at_channel c es) t) ∙ (h c).1 none in cc),
    )
    | inr n ↦ (
      λ x is. subst {_, _} (λ b. AllFit (if b then e.1 ∷ at_channel c es else at_channel c es) x) n ((h c).0 x is),
      λ none. sym (ap (λ b. if b then e.1 ∷ at_channel c es else at_channel c es) n) ∙ (h c).1 none,
    )
  ]

  own_fits : (e : ChName × ChanUndo) (es : List (ChName × ChanUndo)) → FitEach (e ∷ es) → (o : Option Content) → f e.0 ≡ o → FitsAt e.1 (chan_back es e.0 o)
  own_fits e es h None is =
      absurd (let some : e.1 ∷ at_channel e.0 es ≡ [] =
      sym (ap (λ b. if b then e.1 ∷ at_channel e.0 es else at_channel e.0 es) (channel_self e.0)) ∙ (h e.0).1 is in cc)
  own_fits e es h (Some x) is =
      let both : AllFit (e.1 ∷ at_channel e.0 es) x =
      subst {_, _} (λ b. AllFit (if b then e.1 ∷ at_channel e.0 es else at_channel e.0 es) x) (channel_self e.0) ((h e.0).0 x is) in
      subst {_, _} (FitsAt e.1) (sym (back_of_some es e.0 x)) both.0

  pub fit_all : (us : List (ChName × ChanUndo)) → FitEach us → ChansFit us f
  fit_all [] h = tt
  fit_all (e ∷ es) h = (own_fits e es h (f e.0) refl, fit_all es (rest_fit e es h))
