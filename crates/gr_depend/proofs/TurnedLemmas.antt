-- Steps that an order turns round have touches of one object that it turns round.
use Rattle.std.proofs.Common.{◌≡◌, ◌<◌, ◌≤◌, ◌+◌, ◌||◌, ℕ, zero, suc, true, false, List, [], ◌∷◌, ◌++◌, ◌⊎◌, length, map, slice_get, Some, None, refl, sym, ap, subst, ◌∙◌, inl, inr, arith}
use Rattle.std.specs.Map.{lookup}
use Rattle.std.proofs.lemmas.Bool.{cases_Bool}
use Rattle.std.proofs.lemmas.List.Folds.{list_any-append}
use Rattle.indexmap.specs.IndexMap.{keys}
use Rattle.gr_base.specs.declared.objects.Object.{Object}
use Rattle.gr_base.specs.declared.objects.Object.TheVariants as objects
use Rattle.gr_causal.specs.Machine.{meets}
use Rattle.gr_causal.specs.Sequences.{In, Before}
use Rattle.gr_causal.proofs.ListLemmas.{or_true, or_left, or_right, some_is, none_not, In-append_right}
use Rattle.gr_rules.specs.States.{same}
use Rattle.gr_laws.proofs.CellLemmas.{same_is, same_self}
use Rattle.gr_record.specs.declared.record.Record.{Record}
use Rattle.gr_record.specs.Conflicts.{written_by, read_by, touched_by, conflict_of}
use Rattle.gr_touches.specs.declared.lanes.Lanes.{Lanes}
use Rattle.gr_touches.specs.declared.touch.Touch.{Touch}
use Rattle.gr_touches.specs.Lists.{list_of, list_numbered}
use Rattle.gr_touches.specs.Touches.{is_among, touch_at, touches_in}
use Rattle.gr_depend.specs.Turned.{place_at, AreTurned, TouchesTurnedFrom}
use Rattle.gr_touches.proofs.LaneLemmas.{list_by_number, run_at, within_keys}

-- an object that the two steps touched, and that one of them wrote
pub record IsShared (x y : Record) (o : Object) : Type 0 where
  pub first : is_among o (touched_by x) ≡ true
  pub second : is_among o (touched_by y) ≡ true
  pub writes : (is_among o (written_by x) || is_among o (written_by y)) ≡ true

met : (os ps : List Object) → meets same os ps ≡ true → (o : Object) × (is_among o os ≡ true) × (is_among o ps ≡ true)
met [] ps h = absurd (let e : false ≡ true = h in cc)
met (o ∷ os) ps h = elim (cases_Bool (is_among o ps)) [
  | inl t ↦ (o, or_left (same o o) (is_among o os) (same_self o), t)
  | inr f ↦ let w = met os ps (rw f at h) in (w.0, or_right (same w.0 o) (is_among w.0 os) w.1, w.2)
]

written_touched : (o : Object) (r : Record) → is_among o (written_by r) ≡ true → is_among o (touched_by r) ≡ true
written_touched o r h = list_any-append (same o) (read_by r) (written_by r) ∙ or_right (is_among o (read_by r)) (is_among o (written_by r)) h

shared : (x y : Record) → conflict_of x y ≡ true → (o : Object) × IsShared x y o
shared x y h = elim (or_true (meets same (written_by x) (touched_by y)) (meets same (written_by y) (touched_by x)) h) [
  | inl t ↦ let w = met (written_by x) (touched_by y) t in
      (w.0, record { first = written_touched w.0 x w.1; second = w.2; writes = or_left (is_among w.0 (written_by x)) (is_among w.0 (written_by y)) w.1 })
  | inr t ↦ let w = met (written_by y) (touched_by x) t in
      (w.0, record { first = w.2; second = written_touched w.0 y w.1; writes = or_right (is_among w.0 (written_by x)) (is_among w.0 (written_by y)) w.1 })
]

-- the touch of an object by the step at a place
abbrev touch_of : Object → ℕ → Record → Touch
touch_of o place r = record { place = place; writes = is_among o (written_by r) }

touch_there : (o : Object) (place s i : ℕ) (rs : List Record) (x : Record) → slice_get rs i ≡ Some x → is_among o (touched_by x) ≡ true → place ≡ s + i
    → In (touch_of o place x) (touches_in o s rs)
touch_there o place s i [] x h t at = absurd (none_not _ h)
touch_there o place s zero (r ∷ rs) x h t at =
    subst (λ z. In (touch_of o place x) (touches_in o s (z ∷ rs))) (sym (some_is _ _ h))
    (let e : place ≡ s = omega (arith, at) in rw t (inl (ap (λ n. touch_of o n x) e)))
touch_there o place s (suc i) (r ∷ rs) x h t at =
    In-append_right (touch_of o place x) (touch_at o s r) (touches_in o (suc s) rs) (touch_there o place (suc s) i rs x h t (omega (arith, at)))

Before-append_right : {A : Type 0} (a b : A) (xs ys : List A) → Before ys a b → Before (xs ++ ys) a b
Before-append_right a b [] ys h = h
Before-append_right a b (x ∷ xs) ys h = inr (Before-append_right a b xs ys h)

touches_there : (o : Object) (p q s i j : ℕ) (rs : List Record) (x y : Record) → slice_get rs i ≡ Some x → slice_get rs j ≡ Some y
    → is_among o (touched_by x) ≡ true → is_among o (touched_by y) ≡ true → p ≡ s + i → q ≡ s + j → i < j
    → Before (touches_in o s rs) (touch_of o p x) (touch_of o q y)
touches_there o p q s i j [] x y h k t u at_p at_q l = absurd (none_not _ h)
touches_there o p q s i zero (r ∷ rs) x y h k t u at_p at_q l = absurd (omega (arith, l))
touches_there o p q s zero (suc j) (r ∷ rs) x y h k t u at_p at_q l =
    subst (λ z. Before (touches_in o s (z ∷ rs)) (touch_of o p x) (touch_of o q y)) (sym (some_is _ _ h))
    (let e : p ≡ s = omega (arith, at_p) in
    rw t (inl (ap (λ n. touch_of o n x) e, touch_there o q (suc s) j rs y k u (omega (arith, at_q)))))
touches_there o p q s (suc i) (suc j) (r ∷ rs) x y h k t u at_p at_q l =
    Before-append_right (touch_of o p x) (touch_of o q y) (touch_at o s r) (touches_in o (suc s) rs)
    (touches_there o p q (suc s) i j rs x y h k t u (omega (arith, at_p)) (omega (arith, at_q)) (omega (arith, l)))

key_there : {X : Type 0} (es : List (Object × X)) (k : Object) → (lookup (same k) es ≡ None) ⊎ ((i : ℕ) × (slice_get (map (λ e. e.0) es) i ≡ Some k))
key_there [] k = inl refl
key_there (e ∷ es) k = elim (cases_Bool (same k e.0)) [
  | inl t ↦ inr (0, ap Some (sym (same_is k e.0 t)))
  | inr f ↦ elim (key_there es k) [ inl none ↦ inl (rw f none) | inr w ↦ inr (suc w.0, w.1) ]
]

-- a list that has a touch has a number
number_of : (l : Lanes) (o : Object) (t : Touch) → In t (list_of l o) → (n : ℕ) × (n < length (keys l.map) + 1) × (list_numbered l n ≡ list_of l o)
number_of l o t h = elim (cases_Bool (same objects.Run o)) [
  | inl run ↦ let last = run_at l (length l.map.entries) refl in (length l.map.entries, last.0, rw run last.1)
  | inr other ↦ elim (key_there l.map.entries o) [
    | inl none ↦ absurd (rw (other, none) at h)
    | inr w ↦ let below = within_keys (keys l.map) w.0 o w.1 in (w.0, omega (arith, below), list_by_number l o other w.0 w.1)
  ]
]

pub steps_turned : (l : Lanes) (rs : List Record) (to : List ℕ) (first number : ℕ) → ((o : Object) → list_of l o ≡ touches_in o 0 rs)
    → length (keys l.map) + 1 ≤ number → ((n : ℕ) → n < number → TouchesTurnedFrom first to (list_numbered l n))
    → (p q : ℕ) → AreTurned rs to p q → first ≤ place_at to q
steps_turned l rs to first number are all turned p q t =
    let o = shared t.first t.second t.conflicts in
    let both = touches_there o.0 p q 0 p q rs t.first t.second t.first_at t.second_at o.1.first o.1.second (omega arith) (omega arith) t.in_log in
    let there = subst (In (touch_of o.0 p t.first)) (sym (are o.0)) (touch_there o.0 p 0 p rs t.first t.first_at o.1.first (omega arith)) in
    let n = number_of l o.0 (touch_of o.0 p t.first) there in
    let less = n.1 in
    turned n.0 (omega (arith, less, all)) (touch_of o.0 p t.first) (touch_of o.0 q t.second)
    (subst (λ ts. Before ts (touch_of o.0 p t.first) (touch_of o.0 q t.second)) (sym (n.2 ∙ are o.0)) both) o.1.writes t.turned
