-- What is kept of a step for an object is its touch, and the touches of a log with one more step.
use Rattle.std.proofs.Common.{◌≡◌, ◌+◌, ℕ, suc, Bool, true, false, not, ◌||◌, if◌then◌else◌, List, [], ◌∷◌, ◌++◌, length, refl, sym, ap, subst, ◌∙◌, append_assoc, append-nil, inl, inr, arith}
use Rattle.std.specs.List.{list_all}
use Rattle.std.proofs.lemmas.Bool.{cases_Bool, and_parts, and_from}
use Rattle.std.proofs.lemmas.List.Folds.{list_any-append}
use Rattle.gr_base.specs.declared.objects.Object.{Object}
use Rattle.gr_causal.specs.Sequences.{In, Distinct}
use Rattle.gr_rules.specs.States.{same}
use Rattle.gr_laws.proofs.CellLemmas.{same_is}
use Rattle.gr_record.specs.declared.record.Record.{Record}
use Rattle.gr_record.specs.Conflicts.{written_by, read_by, touched_by}
use Rattle.gr_touches.specs.declared.touch.Touch.{Touch}
use Rattle.gr_touches.specs.Touches.{is_among, touch_at, touches_in, none_twice, touches_for, kept_for}
use Rattle.gr_touches.proofs.SameLemmas.{same_sym}

-- the touches of a log with a step at its end
pub touches_last : (o : Object) (place : ℕ) (rs : List Record) (r : Record) → touches_in o place (rs ++ r ∷ []) ≡ touches_in o place rs ++ touch_at o (place + length rs) r
touches_last o place [] r = append-nil (touch_at o place r) ∙ ap (λ n. touch_at o n r) (let e : place ≡ place + 0 = omega arith in e)
touches_last o place (x ∷ rs) r =
    let e : suc place + length rs ≡ place + suc (length rs) = omega arith in
    ap (λ l. touch_at o place x ++ l) (touches_last o (suc place) rs r ∙ ap (λ n. touches_in o (suc place) rs ++ touch_at o n r) e)
    ∙ sym (append_assoc (touch_at o place x) (touches_in o (suc place) rs) (touch_at o (place + suc (length rs)) r))

among_in : (o : Object) (os : List Object) → is_among o os ≡ true → In o os
among_in o [] h = absurd (let no : false ≡ true = h in cc)
among_in o (p ∷ os) h = elim (cases_Bool (same o p)) [ inl t ↦ inl (same_is o p t) | inr f ↦ inr (among_in o os (rw f at h)) ]

pub distinct_once : (os : List Object) → Distinct os → none_twice os ≡ true
distinct_once [] h = refl
distinct_once (o ∷ os) h = elim (cases_Bool (is_among o os)) [
  | inl t ↦ absurd (h.0 (among_in o os t))
  | inr f ↦ rw f (distinct_once os h.1)
]

none_for : (q : Object) (t : Touch) (os : List Object) → is_among q os ≡ false → touches_for q t os ≡ []
none_for q t [] h = refl
none_for q t (o ∷ os) h = elim (cases_Bool (same q o)) [
  | inl e ↦ absurd (let no : true ≡ false = rw e at h in cc)
  | inr f ↦ let g : same o q ≡ false = same_sym o q ∙ f in rw g (none_for q t os (rw f at h))
]

once_for : (q : Object) (t : Touch) (os : List Object) → none_twice os ≡ true → touches_for q t os ≡ (if is_among q os then t ∷ [] else [])
once_for q t [] h = refl
once_for q t (o ∷ os) h =
    let parts = and_parts (not (is_among o os)) (none_twice os) h in
    elim (cases_Bool (same q o)) [
      | inl e ↦ let g : same o q ≡ true = same_sym o q ∙ e in
          let no : is_among q os ≡ false = subst (λ x. is_among x os ≡ false) (sym (same_is q o e)) (not_true (is_among o os) parts.0) in
          rw (g, e) (ap (λ l. t ∷ l) (none_for q t os no))
      | inr f ↦ let g : same o q ≡ false = same_sym o q ∙ f in rw (g, f) (once_for q t os parts.1)
    ]
  where
    not_true : (b : Bool) → not b ≡ true → b ≡ false
    not_true true h = absurd (let no : false ≡ true = h in cc)
    not_true false h = refl

-- no object of the first list is in the second
once_left : (ps qs : List Object) → none_twice (ps ++ qs) ≡ true → none_twice ps ≡ true
once_left [] qs h = refl
once_left (p ∷ ps) qs h =
    let parts = and_parts (not (is_among p (ps ++ qs))) (none_twice (ps ++ qs)) h in
    and_from (not (is_among p ps)) (none_twice ps) (not_left (is_among p ps) (is_among p qs) (sym (ap not (list_any-append (same p) ps qs)) ∙ parts.0)) (once_left ps qs parts.1)
  where
    not_left : (x y : Bool) → not (x || y) ≡ true → not x ≡ true
    not_left true y h = h
    not_left false y h = refl

once_right : (ps qs : List Object) → none_twice (ps ++ qs) ≡ true → none_twice qs ≡ true
once_right [] qs h = h
once_right (p ∷ ps) qs h = once_right ps qs (and_parts (not (is_among p (ps ++ qs))) (none_twice (ps ++ qs)) h).1

once_apart : (q : Object) (ps qs : List Object) → none_twice (ps ++ qs) ≡ true → is_among q ps ≡ true → is_among q qs ≡ false
once_apart q [] qs h e = absurd (let no : false ≡ true = e in cc)
once_apart q (p ∷ ps) qs h e =
    let parts = and_parts (not (is_among p (ps ++ qs))) (none_twice (ps ++ qs)) h in
    elim (cases_Bool (same q p)) [
      | inl t ↦ subst (λ x. is_among x qs ≡ false) (sym (same_is q p t)) (not_right (is_among p ps) (is_among p qs) (sym (ap not (list_any-append (same p) ps qs)) ∙ parts.0))
      | inr f ↦ once_apart q ps qs parts.1 (rw f at e)
    ]
  where
    not_right : (x y : Bool) → not (x || y) ≡ true → y ≡ false
    not_right true y h = absurd (let no : false ≡ true = h in cc)
    not_right false true h = absurd (let no : false ≡ true = h in cc)
    not_right false false h = refl

abbrev a_touch : ℕ → Bool → Touch
a_touch place w = record { place = place; writes = w }

abbrev touch_if : Bool → Touch → List Touch
touch_if b t = if b then t ∷ [] else []

-- what is kept of a step that touched no object twice is its touch
pub kept_is_touch : (q : Object) (place : ℕ) (r : Record) → none_twice (touched_by r) ≡ true → kept_for q place r ≡ touch_at q place r
kept_is_touch q place r h =
    let left = once_for q (a_touch place false) (read_by r) (once_left (read_by r) (written_by r) h) in
    let right = once_for q (a_touch place true) (written_by r) (once_right (read_by r) (written_by r) h) in
    (λ i. left i ++ right i)
    ∙ by (is_among q (read_by r)) (is_among q (written_by r)) (once_apart q (read_by r) (written_by r) h)
    ∙ ap (λ b. touch_if b (a_touch place (is_among q (written_by r)))) (sym (list_any-append (same q) (read_by r) (written_by r)))
  where
    by : (a b : Bool) → (a ≡ true → b ≡ false) → touch_if a (a_touch place false) ++ touch_if b (a_touch place true) ≡ touch_if (a || b) (a_touch place b)
    by true true h = absurd (let no : true ≡ false = h refl in cc)
    by true false h = refl
    by false true h = refl
    by false false h = refl

-- what the lists are with a step at the end, and without it
pub all_once_last : (rs : List Record) (r : Record) → list_all (λ x. none_twice (touched_by x)) rs ≡ true → none_twice (touched_by r) ≡ true
    → list_all (λ x. none_twice (touched_by x)) (rs ++ r ∷ []) ≡ true
all_once_last [] r all one = rw one refl
all_once_last (x ∷ rs) r all one =
    let parts = and_parts (none_twice (touched_by x)) (list_all (λ y. none_twice (touched_by y)) rs) all in
    and_from (none_twice (touched_by x)) _ parts.0 (all_once_last rs r parts.1 one)

pub all_once_split : (rs : List Record) (r : Record) → list_all (λ x. none_twice (touched_by x)) (rs ++ r ∷ []) ≡ true
    → (list_all (λ x. none_twice (touched_by x)) rs ≡ true) × (none_twice (touched_by r) ≡ true)
all_once_split [] r all = (refl, (and_parts (none_twice (touched_by r)) true all).0)
all_once_split (x ∷ rs) r all =
    let parts = and_parts (none_twice (touched_by x)) (list_all (λ y. none_twice (touched_by y)) (rs ++ r ∷ [])) all in
    let rest = all_once_split rs r parts.1 in
    (and_from (none_twice (touched_by x)) (list_all (λ y. none_twice (touched_by y)) rs) parts.0 rest.0, rest.1)

module _ (rs : List Record) (r : Record) (once : none_twice (touched_by r) ≡ true) (q : Object) where
  pub with_step : (l m : List Touch) (place : ℕ) → l ≡ touches_in q 0 rs → place ≡ length rs → m ≡ l ++ kept_for q place r → m ≡ touches_in q 0 (rs ++ r ∷ [])
  with_step l m place was at is =
      is ∙ (λ i. was i ++ kept_for q (at i) r) ∙ ap (λ k. touches_in q 0 rs ++ k) (kept_is_touch q (length rs) r once)
      ∙ ap (λ n. touches_in q 0 rs ++ touch_at q n r) (let e : length rs ≡ 0 + length rs = omega arith in e)
      ∙ sym (touches_last q 0 rs r)

  pub without_step : (l : List Touch) → l ≡ touches_in q 0 (rs ++ r ∷ []) → l ≡ touches_in q 0 rs ++ kept_for q (0 + length rs) r
  without_step l is = is ∙ touches_last q 0 rs r ∙ ap (λ k. touches_in q 0 rs ++ k) (sym (kept_is_touch q (0 + length rs) r once))
