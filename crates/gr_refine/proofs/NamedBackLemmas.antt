-- Changes of several channels are taken back wherever what they wrote stands.
use Rattle.std.proofs.Common.{◌≡◌, ◌⊎◌, true, if◌then◌else◌, List, [], ◌∷◌, Option, Some, None, option_map, refl, sym, ◌∙◌, ap, subst, inl, inr}
use Rattle.std.specs.List.{list_any}
use Rattle.std.proofs.lemmas.Bool.{cases_Bool, or_right}
use Rattle.gr_base.specs.declared.names.ChName.{ChName}
use Rattle.gr_base.specs.declared.objects.Object.{Object}
use Rattle.gr_channels.specs.declared.changes.ChanUndo.{ChanUndo}
use Rattle.gr_channels.specs.Channels.{Content}
use Rattle.gr_channels.specs.Changes.{undone}
use Rattle.gr_channels.specs.Objects.{Part, SameAt}
use Rattle.gr_rules.specs.Frames.{Frame}
use Rattle.gr_rules.specs.Operators.{same_channel}
use Rattle.gr_rules.specs.States.{same}
use Rattle.gr_code.specs.CodeFrames.{CodeFrame}
use Rattle.gr_refine.specs.Contents.{Contents}
use Rattle.gr_refine.specs.TakingBack.{part_of, all_undone, AllFit, any_written, AllTakenBack, ChannelBack, untouched, changed}
use Rattle.gr_refine.specs.NamedBack.{back_named, FitsThere, FitNamed, at_channel, StandsLater, NamedChangesFit, NamedChangesGoBack}
use Rattle.gr_refine.proofs.NameLemmas.{channel_is, channel_self}
use Rattle.gr_refine.proofs.BackLemmas.{part_look, part_looked, same_looks, changes_go_back_anywhere}

back_of_some : (us : List (ChName × ChanUndo)) (c : ChName) (x : Content) → back_named us c (Some x) ≡ Some (all_undone (at_channel c us) x)
back_of_some [] c x = refl
back_of_some (e ∷ es) c x = elim (cases_Bool (same_channel c e.0)) [
  | inl t ↦ rw t (ap (option_map (undone e.1)) (back_of_some es c x))
  | inr f ↦ rw f (back_of_some es c x)
]

back_of_none : (us : List (ChName × ChanUndo)) (c : ChName) → back_named us c None ≡ None
back_of_none [] c = refl
back_of_none (e ∷ es) c = elim (cases_Bool (same_channel c e.0)) [
  | inl t ↦ rw t (ap (option_map (undone e.1)) (back_of_none es c))
  | inr f ↦ rw f (back_of_none es c)
]

-- the first change, where it is one of the channel, fits what the others leave
first_fits : (e : ChName × ChanUndo) (es : List (ChName × ChanUndo)) (f : ChName → Option Content) (c : ChName) (b : Content) → f c ≡ Some b
    → same_channel c e.0 ≡ true → FitsThere e.1 (back_named es e.0 (f e.0)) → FitsThere e.1 (Some (all_undone (at_channel c es) b))
first_fits e es f c b there t fits =
    let here : FitsThere e.1 (back_named es c (f c)) = subst (λ d. FitsThere e.1 (back_named es d (f d))) (sym (channel_is c e.0 t)) fits in
    subst (FitsThere e.1) (ap (back_named es c) there ∙ back_of_some es c b) here

fits_at : (us : List (ChName × ChanUndo)) (f : ChName → Option Content) (c : ChName) (b : Content) → f c ≡ Some b → FitNamed us f → AllFit (at_channel c us) b
fits_at [] f c b there fits = tt
fits_at (e ∷ es) f c b there fits = elim (cases_Bool (same_channel c e.0)) [
  | inl t ↦ rw t (first_fits e es f c b there t (fits.0), fits_at es f c b there (fits.1))
  | inr n ↦ rw n (fits_at es f c b there (fits.1))
]

-- a channel that is not there was not changed
none_fits : (e : ChName × ChanUndo) (es : List (ChName × ChanUndo)) (f : ChName → Option Content) (c : ChName) → f c ≡ None → same_channel c e.0 ≡ true
    → FitsThere e.1 (back_named es e.0 (f e.0)) → ⊥
none_fits e es f c none t fits =
    let here : FitsThere e.1 (back_named es c (f c)) = subst (λ d. FitsThere e.1 (back_named es d (f d))) (sym (channel_is c e.0 t)) fits in
    subst (FitsThere e.1) (ap (back_named es c) none ∙ back_of_none es c) here

none_changed : (us : List (ChName × ChanUndo)) (f : ChName → Option Content) (c : ChName) → f c ≡ None → FitNamed us f → at_channel c us ≡ []
none_changed [] f c none fits = refl
none_changed (e ∷ es) f c none fits = elim (cases_Bool (same_channel c e.0)) [
  | inl t ↦ absurd (none_fits e es f c none t (fits.0))
  | inr n ↦ rw n (none_changed es f c none (fits.1))
]

back_of_others : (us : List (ChName × ChanUndo)) (c : ChName) (o : Option Content) → at_channel c us ≡ [] → back_named us c o ≡ o
back_of_others us c None none = back_of_none us c
back_of_others us c (Some x) none = back_of_some us c x ∙ ap (λ (l : List ChanUndo). Some (all_undone l x)) none

more_written : (e : ChName × ChanUndo) (es : List (ChName × ChanUndo)) (c : ChName) (b : Content) (p : Part)
    → any_written (at_channel c es) b p ≡ true → any_written (at_channel c (e ∷ es)) b p ≡ true
more_written e es c b p w = elim (cases_Bool (same_channel c e.0)) [
  | inl t ↦ rw t (or_right _ _ w)
  | inr n ↦ rw n w
]

-- an option, and what it is
abbrev IsIt : Option Content → Type 0
IsIt o = ((x : Content) × (o ≡ Some x)) ⊎ (o ≡ None)

which : (o : Option Content) → IsIt o
which None = inr refl
which (Some x) = inl (x, refl)

module _ (frame : CodeFrame → Frame) (os : List Object) (after later : Contents) where
  rest_stands : (e : ChName × ChanUndo) (es : List (ChName × ChanUndo)) → StandsLater frame os (e ∷ es) after later → StandsLater frame os es after later
  rest_stands e es s = record {
    fit = s.fit.1;
    valid_after = s.valid_after;
    valid_later = s.valid_later;
    there = s.there;
    names = λ c b p is w. s.names c b p is (more_written e es c b p w);
    stands = s.stands;
  }

  part_stands : (us : List (ChName × ChanUndo)) → StandsLater frame os us after later → (c : ChName) (b x : Content) (p : Part)
      → after.channels c ≡ Some b → later.channels c ≡ Some x → list_any (same (part_of c p)) os ≡ true → SameAt p x b
  part_stands us s c b x p is_after is_later e =
      same_looks c p x b (ap (part_look c p) (sym is_later) ∙ sym (part_looked frame later c p) ∙ s.stands (part_of c p) e
      ∙ part_looked frame after c p ∙ ap (part_look c p) is_after)

  all_back : (us : List (ChName × ChanUndo)) → StandsLater frame os us after later → (c : ChName) (b x : Content)
      → after.channels c ≡ Some b → later.channels c ≡ Some x → x.capacity ≡ b.capacity → AllTakenBack (at_channel c us) b x
  all_back us s c b x is_after is_later capacity =
      changes_go_back_anywhere (at_channel c us) b x (s.valid_after c b is_after) (fits_at us after.channels c b is_after s.fit)
      (s.valid_later c x is_later) capacity
      (λ p w. part_stands us s c b x p is_after is_later (s.names c b p is_after w))

  fit_later : (us : List (ChName × ChanUndo)) → StandsLater frame os us after later → FitNamed us later.channels
  fit_later [] s = tt
  fit_later (e ∷ es) s = (
    elim (which (after.channels e.0)) [
      | inl found ↦
          let b = found.0 in
          let now = s.there e.0 b (found.1) in
          let own : at_channel e.0 (e ∷ es) ≡ e.1 ∷ at_channel e.0 es = ap (λ k. if k then e.1 ∷ at_channel e.0 es else at_channel e.0 es)
          (channel_self e.0) in
          let all = subst (λ (l : List ChanUndo). AllTakenBack l b (now.0)) own (all_back (e ∷ es) s e.0 b (now.0) (found.1) (now.1) (now.2)) in
          subst (FitsThere e.1) (sym (ap (back_named es e.0) (now.1) ∙ back_of_some es e.0 (now.0))) (all.fits.0)
      | inr none ↦ absurd (none_fits e es after.channels e.0 none (channel_self e.0) (s.fit.0))
    ],
    fit_later es (rest_stands e es s),
  )

  channel_back : (us : List (ChName × ChanUndo)) (before back : Contents) → StandsLater frame os us after later
      → ((c : ChName) → before.channels c ≡ back_named us c (after.channels c)) → ((c : ChName) → back.channels c ≡ back_named us c (later.channels c))
      → (c : ChName) → ChannelBack os c (before.channels c) (after.channels c) (later.channels c) (back.channels c)
  channel_back us before back s was is c = elim (which (after.channels c)) [
    | inl found ↦
        let b = found.0 in
        let now = s.there c b (found.1) in
        let x = now.0 in
        changed (at_channel c us) b x (found.1) (now.1)
        (was c ∙ ap (back_named us c) (found.1) ∙ back_of_some us c b)
        (is c ∙ ap (back_named us c) (now.1) ∙ back_of_some us c x)
        (s.valid_after c b (found.1)) (fits_at us after.channels c b (found.1) s.fit) (s.valid_later c x (now.1)) (now.2)
        (λ p w. s.names c b p (found.1) w)
    | inr none ↦
        let no_change = none_changed us after.channels c none s.fit in
        untouched (was c ∙ back_of_others us c (after.channels c) no_change) (is c ∙ back_of_others us c (later.channels c) no_change)
  ]

pub named_changes_fit : NamedChangesFit
named_changes_fit frame os us after later s = fit_later frame os after later us s

pub named_changes_go_back : NamedChangesGoBack
named_changes_go_back frame os us before after later back s was is c = channel_back frame os after later us before back s was is c
