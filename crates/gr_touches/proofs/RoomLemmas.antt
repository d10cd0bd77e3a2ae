-- Room is kept by what changes the lists, and it is there for what was said to fit.
use Rattle.std.proofs.Common.{◌≡◌, ◌<◌, ◌≤◌, ◌+◌, ◌-◌, ℕ, suc, Bool, true, false, if◌then◌else◌, List, [], ◌∷◌, ◌++◌, length, filter, slice_get, Result, Ok, Err, Some, None, cond, get_or, take, drop, vec_capacity, refl, sym, ap, subst, ◌∙◌, append_assoc, arith, inl, inr}
use Rattle.std.proofs.lemmas.Bool.{cases_Bool}
use Rattle.std.proofs.lemmas.List.{take_more, length-append, take-append-drop}
use Rattle.std.specs.Prelude.{OnOk, OnErr}
use Rattle.std.specs.Map.{lookup}
use Rattle.std.specs.Option.{unwrap_or}
use Rattle.indexmap.specs.IndexMap.{get, keys, values, with_value_at, IsUnique}
use Rattle.gr_base.specs.declared.objects.Object.{Object}
use Rattle.gr_base.specs.declared.objects.Object.TheVariants as objects
use Rattle.gr_rules.specs.States.{same}
use Rattle.gr_laws.proofs.CellLemmas.{same_is, same_self}
use Rattle.gr_record.specs.declared.record.Record.{Record}
use Rattle.gr_record.specs.Conflicts.{read_by, written_by, touched_by}
use Rattle.gr_touches.specs.declared.touch.Touch.{Touch}
use Rattle.gr_touches.specs.declared.lanes.Lanes.{Lanes}
use Rattle.gr_touches.specs.Touches.{touch_at, touches_in, none_twice, touches_for, kept_for}
use Rattle.gr_touches.specs.Lists.{LaneSeen, nothing, list_of, AddsFor, TakesFor}
use Rattle.gr_touches.specs.Room.{size_of, capacity_of, Fits, FitsFor, KeepsRoom}
use Rattle.gr_touches.proofs.LaneLemmas.{Table, parts, had, wrote}
use Rattle.gr_touches.proofs.NoteLemmas.{touches_both}
use Rattle.gr_touches.proofs.TouchLemmas.{with_step}

pub keeps_room : (old new : Lanes) → ((q : Object) → capacity_of old q ≤ capacity_of new q) → vec_capacity old.stops ≤ vec_capacity new.stops → KeepsRoom old new
keeps_room old new each stops lists fits = record {
  each = λ q. let a = fits.each q in let b = each q in omega (arith, a, b);
  stops = let a = fits.stops in omega (arith, a, stops);
}

-- a lane that is written by number grows, and no other changes
pub grown : {S : Type 0} (run : ℕ) (m : Table S) (unique : IsUnique same m) (o : Object) (other : same objects.Run o ≡ false) (i : ℕ)
    (at : slice_get (keys m) i ≡ Some o) (v w : LaneSeen) (value : Some v ≡ slice_get (values m) i)
    → size_of v ≤ size_of w → (q : Object) → parts size_of run m q ≤ parts size_of run (with_value_at m i w) q
grown run m unique o other i at v w value more q =
    let added : size_of w ≡ size_of v + (size_of w - size_of v) = omega (arith, more) in
    subst (λ n. parts size_of run m q ≤ n)
    (sym (wrote size_of run m unique o other i at v w value (λ n. n + (size_of w - size_of v)) added q))
    (by (same o q) (parts size_of run m q) (size_of w - size_of v))
  where
    by : (b : Bool) (n d : ℕ) → n ≤ (if b then n + d else n)
    by true n d = omega arith
    by false n d = omega arith

-- a lane has room for a touch that fits
pub has_room : (l : Lanes) (o : Object) (other : same objects.Run o ≡ false) (i : ℕ) (at : slice_get (keys l.map) i ≡ Some o) (v : LaneSeen)
    (value : Some v ≡ slice_get (values l.map) i) (t : Touch) → FitsFor (o ∷ []) t l → 0 < v.1
has_room l o other i at v value t fits =
    let is = had size_of 0 l.map l.unique o other i at v v value in
    let list : list_of l o ≡ v.0 = rw other (ap (λ k. k.0) is) in
    let size : capacity_of l o ≡ size_of v = rw other (ap size_of is) in
    let one : touches_for o t (o ∷ []) ≡ t ∷ [] = rw (same_self o) refl in
    let all : length (v.0 ++ t ∷ []) ≤ size_of v =
    subst (λ n. length (v.0 ++ t ∷ []) ≤ n) size (subst (λ (ts : List Touch). length ts ≤ capacity_of l o) (λ j. list j ++ one j) (fits.each o)) in
    omega (arith, all, length-append v.0 (t ∷ []))

-- an object without a lane has no room
pub no_room : (l : Lanes) (o : Object) → same objects.Run o ≡ false → get same l.map o ≡ None → (t : Touch) → FitsFor (o ∷ []) t l → ⊥
no_room l o other absent t fits =
    let list : list_of l o ≡ [] = rw other (ap (λ x. (unwrap_or x nothing).0) absent) in
    let size : capacity_of l o ≡ 0 = rw other (ap (λ x. size_of (unwrap_or x nothing)) absent) in
    let one : touches_for o t (o ∷ []) ≡ t ∷ [] = rw (same_self o) refl in
    let all : length (t ∷ []) ≤ 0 =
    subst (λ n. length (t ∷ []) ≤ n) size (subst (λ (ts : List Touch). length ts ≤ capacity_of l o) (λ j. list j ++ one j) (fits.each o)) in
    omega (arith, all)

-- an object without a lane has no touch that could be taken
pub none_taken : (l : Lanes) (o : Object) → same objects.Run o ≡ false → get same l.map o ≡ None → TakesFor (o ∷ []) l l
none_taken l o other absent before t had q =
    let list : list_of l o ≡ [] = rw other (ap (λ x. (unwrap_or x nothing).0) absent) in
    let one : touches_for o t (o ∷ []) ≡ t ∷ [] = rw (same_self o) refl in
    let all : [] ≡ before o ++ t ∷ [] = sym list ∙ had o ∙ ap (λ l. before o ++ l) one in
    let count : 0 ≡ length (before o ++ t ∷ []) = ap length all in
    absurd (omega (arith, count, length-append (before o) (t ∷ [])))

-- a lane for an object that had none leaves the room of all others
module _ (a b : Lanes) (k : Object) (w : LaneSeen) (absent : get same a.map k ≡ None) (run : b.run ≡ a.run) (stops : b.stops ≡ a.stops) where
  abbrev size_at : Lanes → Object → ℕ
  size_at l q = size_of (unwrap_or (get same l.map q) nothing)

  none_less : ((q : Object) → size_at a q ≤ size_at b q) → KeepsRoom a b
  none_less more = keeps_room a b each (let e = ap vec_capacity stops in omega (arith, e))
    where
      each : (q : Object) → capacity_of a q ≤ capacity_of b q
      each q = elim (cases_Bool (same objects.Run q)) [
        | inl t ↦ rw t (let e = ap vec_capacity run in omega (arith, e))
        | inr f ↦ rw f (more q)
      ]

  pub room_after_insert : {A E : Type 0} (r : Result A E) → OnOk r ((q : Object) → get same b.map q ≡ cond (same k q) (Some w) (get same a.map q))
      → OnErr r (b.map.entries ≡ a.map.entries) → KeepsRoom a b
  room_after_insert (Ok x) all same_entries = none_less more
    where
      more : (q : Object) → size_at a q ≤ size_at b q
      more q = elim (cases_Bool (same k q)) [
        | inl t ↦
            let none : size_at a q ≡ 0 = ap (λ o. size_of (unwrap_or o nothing)) (sym (ap (get same a.map) (same_is k q t)) ∙ absent) in
            omega (arith, none)
        | inr f ↦
            let e : size_at b q ≡ size_at a q = ap (λ o. size_of (unwrap_or o nothing)) (all q ∙ ap (λ c. cond c (Some w) (get same a.map q)) f) in
            omega (arith, e)
      ]
  room_after_insert (Err e) all same_entries = none_less (λ q.
      let e : size_at b q ≡ size_at a q = ap (λ es. size_of (unwrap_or (lookup (same q) es) nothing)) same_entries in
      omega (arith, e))

pub run_has_room : (l : Lanes) (t : Touch) → FitsFor (objects.Run ∷ []) t l → length l.run.items + 1 ≤ vec_capacity l.run
run_has_room l t fits =
    let all : length (l.run.items ++ t ∷ []) ≤ vec_capacity l.run = fits.each objects.Run in
    omega (arith, all, length-append l.run.items (t ∷ []))

shorter : {A : Type 0} (xs ys zs : List A) (n : ℕ) → xs ++ ys ≡ zs → length zs ≤ n → length xs ≤ n
shorter xs ys zs n is within = let same : length (xs ++ ys) ≡ length zs = ap length is in omega (arith, same, within, length-append xs ys)

filter_both : {A : Type 0} (p : A → Bool) (xs ys : List A) → filter p xs ++ filter p ys ≡ filter p (xs ++ ys)
filter_both p [] ys = refl
filter_both p (x ∷ xs) ys = elim (cases_Bool (p x)) [
  | inl t ↦ rw t (ap (λ l. x ∷ l) (filter_both p xs ys))
  | inr f ↦ rw f (filter_both p xs ys)
]

-- beginnings of lists that fit, fit
pub fits_less : (l : Lanes) (less more : Object → List Touch) → ((q : Object) → (rest : List Touch) × (less q ++ rest ≡ more q)) → Fits l more → Fits l less
fits_less l less more cut fits = record {
  each = λ q. shorter (less q) (cut q).0 (more q) (capacity_of l q) (cut q).1 (fits.each q);
  stops =
      let run = cut objects.Run in
      shorter (filter (λ t. t.writes) (less objects.Run)) (filter (λ t. t.writes) run.0) (filter (λ t. t.writes) (more objects.Run)) (vec_capacity l.stops)
      (filter_both (λ t. t.writes) (less objects.Run) run.0 ∙ ap (filter (λ t. t.writes)) run.1) fits.stops;
}

-- while touches are added for objects, the next one fits
pub fits_next : (a b : Lanes) (t : Touch) (os : List Object) (i : ℕ) (o : Object) → i < length os → o ≡ get_or os i o
    → AddsFor (take i os) t a b → KeepsRoom a b → FitsFor os t a → FitsFor (o ∷ []) t b
fits_next a b t os i o below is done room fits =
    room (λ q. list_of b q ++ touches_for q t (o ∷ []))
    (fits_less a (λ q. list_of b q ++ touches_for q t (o ∷ [])) (λ q. list_of a q ++ touches_for q t os) (λ q. (touches_for q t (drop (i + 1) os), all q)) fits)
  where
    next : (q : Object) → touches_for q t (take i os) ++ touches_for q t (o ∷ []) ≡ touches_for q t (take (i + 1) os)
    next q = sym (touches_both q t (take i os) (o ∷ [])) ∙ ap (touches_for q t) (ap (λ x. take i os ++ x ∷ []) is ∙ sym (take_more os i o below))

    all : (q : Object) → (list_of b q ++ touches_for q t (o ∷ [])) ++ touches_for q t (drop (i + 1) os) ≡ list_of a q ++ touches_for q t os
    all q =
        ap (λ l. (l ++ touches_for q t (o ∷ [])) ++ touches_for q t (drop (i + 1) os)) (done q)
        ∙ ap (λ l. l ++ touches_for q t (drop (i + 1) os)) (append_assoc (list_of a q) _ _ ∙ ap (λ l. list_of a q ++ l) (next q))
        ∙ append_assoc (list_of a q) _ _
        ∙ ap (λ l. list_of a q ++ l) (sym (touches_both q t (take (i + 1) os) (drop (i + 1) os)) ∙ ap (touches_for q t) (take-append-drop (i + 1) os))

-- with what a step read added, what it wrote fits
pub fits_written : (a b : Lanes) (place : ℕ) (r : Record) (reads writes : List Object) → read_by r ≡ reads → written_by r ≡ writes
    → AddsFor reads (record { place = place; writes = false }) a b → KeepsRoom a b → Fits a (λ q. list_of a q ++ kept_for q place r)
    → FitsFor writes (record { place = place; writes = true }) b
fits_written a b place r reads writes read wrote done room fits =
    room (λ q. list_of b q ++ touches_for q (record { place = place; writes = true }) writes) (subst (Fits a) (λ i q. all q i) fits)
  where
    all : (q : Object) → list_of a q ++ kept_for q place r ≡ list_of b q ++ touches_for q (record { place = place; writes = true }) writes
    all q =
        ap (λ l. list_of a q ++ (touches_for q (record { place = place; writes = false }) l ++ touches_for q (record { place = place; writes = true }) (written_by r))) read
        ∙ ap (λ l. list_of a q ++ (touches_for q (record { place = place; writes = false }) reads ++ touches_for q (record { place = place; writes = true }) l)) wrote
        ∙ sym (append_assoc (list_of a q) _ _)
        ∙ ap (λ l. l ++ touches_for q (record { place = place; writes = true }) writes) (sym (done q))

touches_on : (o : Object) (place : ℕ) (xs ys : List Record) → touches_in o place (xs ++ ys) ≡ touches_in o place xs ++ touches_in o (place + length xs) ys
touches_on o place [] ys = ap (λ n. touches_in o n ys) (let e : place ≡ place + 0 = omega arith in e)
touches_on o place (x ∷ xs) ys =
    let e : suc place + length xs ≡ place + suc (length xs) = omega arith in
    ap (λ l. touch_at o place x ++ l) (touches_on o (suc place) xs ys ∙ ap (λ n. touches_in o (suc place) xs ++ touches_in o n ys) e)
    ∙ sym (append_assoc (touch_at o place x) (touches_in o (suc place) xs) (touches_in o (place + suc (length xs)) ys))

-- the touches of the first of the steps that can be taken fit
pub fits_step : (l : Lanes) (rs : List Record) (r : Record) (rest : List Record) (place : ℕ) → none_twice (touched_by r) ≡ true
    → ((o : Object) → list_of l o ≡ touches_in o 0 rs) → place ≡ length rs → Fits l (λ o. touches_in o 0 (rs ++ r ∷ rest))
    → Fits l (λ q. list_of l q ++ kept_for q place r)
fits_step l rs r rest place once are at fits =
    fits_less l (λ q. list_of l q ++ kept_for q place r) (λ q. touches_in q 0 (rs ++ r ∷ rest)) (λ q. (touches_in q (0 + length (rs ++ r ∷ [])) rest, all q)) fits
  where
    all : (q : Object) → (list_of l q ++ kept_for q place r) ++ touches_in q (0 + length (rs ++ r ∷ [])) rest ≡ touches_in q 0 (rs ++ r ∷ rest)
    all q =
        ap (λ k. k ++ touches_in q (0 + length (rs ++ r ∷ [])) rest) (with_step rs r once q (list_of l q) (list_of l q ++ kept_for q place r) place (are q) at refl)
        ∙ sym (touches_on q 0 (rs ++ r ∷ []) rest) ∙ ap (touches_in q 0) (append_assoc rs (r ∷ []) rest)
