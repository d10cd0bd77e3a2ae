-- Touches of steps that a goroutine took by itself, one behind the other.
use Rattle.std.proofs.Common.{◌≡◌, ◌+◌, ◌<◌, ℕ, zero, suc, Bool, true, false, cond, if◌then◌else◌, ◌≤◌, List, [], ◌∷◌, ◌++◌, length, filter, slice_get, Some, None, vec_capacity, refl, sym, ap, ◌∙◌, subst, append_assoc, append-nil, length-append, inl, inr, arith}
use Rattle.std.specs.Option.{unwrap_or}
use Rattle.std.proofs.lemmas.Bool.{cases_Bool}
use Rattle.indexmap.specs.IndexMap.{get, keys, values}
use Rattle.gr_base.specs.declared.objects.Object.{Object}
use Rattle.gr_base.specs.declared.objects.Object.TheVariants.{Run, Go}
use Rattle.gr_rules.specs.States.{same}
use Rattle.gr_laws.proofs.CellLemmas.{same_is, same_self}
use Rattle.gr_touches.specs.declared.touch.Touch.{Touch}
use Rattle.gr_touches.specs.declared.lanes.Lanes.{Lanes}
use Rattle.gr_touches.specs.Lists.{LaneSeen, nothing, list_of}
use Rattle.gr_touches.specs.Room.{size_of, capacity_of, Fits}
use Rattle.gr_touches.specs.Touches.{stretch, own_touches}
use Rattle.gr_touches.proofs.LaneLemmas.{parts, had}

-- one touch more
stretch_last : (w : Bool) (place count : ℕ) → stretch w place (suc count) ≡ stretch w place count ++ record { place = place + count; writes = w } ∷ []
stretch_last w place zero = let e : place ≡ place + 0 = omega arith in ap (λ n. record { place = n; writes = w } ∷ []) e
stretch_last w place (suc count) =
    let e : suc place + count ≡ place + suc count = omega arith in
    ap (λ l. record { place = place; writes = w } ∷ l)
    (stretch_last w (suc place) count ∙ ap (λ n. stretch w (suc place) count ++ record { place = n; writes = w } ∷ []) e)

pub one_further : (ts us vs : List Touch) (w : Bool) (place count : ℕ) → ts ≡ us ++ stretch w place count
    → vs ≡ ts ++ record { place = place + count; writes = w } ∷ [] → vs ≡ us ++ stretch w place (count + 1)
one_further ts us vs w place count was added =
    let e : suc count ≡ count + 1 = omega arith in
    added ∙ ap (λ l. l ++ record { place = place + count; writes = w } ∷ []) was
    ∙ append_assoc us (stretch w place count) (record { place = place + count; writes = w } ∷ [])
    ∙ ap (λ l. us ++ l) (sym (stretch_last w place count)) ∙ ap (λ n. us ++ stretch w place n) e

-- none of them wrote
none_wrote : (place count : ℕ) → filter (λ (t : Touch). t.writes) (stretch false place count) ≡ []
none_wrote place zero = refl
none_wrote place (suc count) = none_wrote (suc place) count

pub as_written : (ts : List Touch) (place count : ℕ) → filter (λ (t : Touch). t.writes) (ts ++ stretch false place count) ≡ filter (λ (t : Touch). t.writes) ts
as_written [] place count = none_wrote place count
as_written (t ∷ ts) place count = by t.writes (as_written ts place count)
  where
    by : (b : Bool) → filter (λ (t : Touch). t.writes) (ts ++ stretch false place count) ≡ filter (λ (t : Touch). t.writes) ts
        → cond b (t ∷ filter (λ (t : Touch). t.writes) (ts ++ stretch false place count)) (filter (λ (t : Touch). t.writes) (ts ++ stretch false place count))
        ≡ cond b (t ∷ filter (λ (t : Touch). t.writes) ts) (filter (λ (t : Touch). t.writes) ts)
    by true rest = ap (λ l. t ∷ l) rest
    by false rest = rest

-- the touches of the goroutine were added to these lists, and then those of Run
pub own_added : (go : List ℕ) (place count : ℕ) (before : Object → List Touch) (b : Lanes) (run : List Touch)
    → ((q : Object) → list_of b q ≡ (if same (Go go) q then before q ++ stretch true place count else before q))
    → run ≡ before Run ++ stretch false place count
    → (q : Object) → parts (λ k. k.0) run b.map q ≡ before q ++ own_touches go place count q
own_added go place count before b run wrote read q = elim (cases_Bool (same Run q)) [
  | inl e ↦ rw e (read ∙ ap (λ o. before o ++ stretch false place count) (same_is Run q e))
  | inr f ↦ by_name f
]
  where
    by : (c : Bool) (l : List Touch) → (if c then l ++ stretch true place count else l) ≡ l ++ (if c then stretch true place count else [])
    by true l = refl
    by false l = sym (append-nil l)

    by_name : same Run q ≡ false → parts (λ k. k.0) run b.map q ≡ before q ++ own_touches go place count q
    by_name f =
        ap (λ (c : Bool). if c then run else (unwrap_or (get same b.map q) nothing).0) f
        ∙ ap (λ (c : Bool). if c then b.run.items else (unwrap_or (get same b.map q) nothing).0) (sym f)
        ∙ wrote q ∙ by (same (Go go) q) (before q)
        ∙ ap (λ (c : Bool). before q ++ (if c then stretch false place count else if same (Go go) q then stretch true place count else [])) (sym f)

-- a stretch has as many touches as it has steps
stretch_long : (w : Bool) (place count : ℕ) → length (stretch w place count) ≡ count
stretch_long w place zero = refl
stretch_long w place (suc count) = ap suc (stretch_long w (suc place) count)

-- a lane has room for this many touches that fit
pub has_room_for : (l : Lanes) (o : Object) (other : same Run o ≡ false) (i : ℕ) (at : slice_get (keys l.map) i ≡ Some o) (v : LaneSeen)
    (value : Some v ≡ slice_get (values l.map) i) (count : ℕ) → length (list_of l o) + count ≤ capacity_of l o → count ≤ v.1
has_room_for l o other i at v value count fits =
    let is = had size_of 0 l.map l.unique o other i at v v value in
    let list : list_of l o ≡ v.0 = rw other (ap (λ k. k.0) is) in
    let size : capacity_of l o ≡ size_of v = rw other (ap size_of is) in
    let long = ap length list in
    omega (arith, fits, long, size)

-- an object without a lane has no room
pub no_room_for : (l : Lanes) (o : Object) → same Run o ≡ false → get same l.map o ≡ None → (count : ℕ) → 0 < count
    → length (list_of l o) + count ≤ capacity_of l o → ⊥
no_room_for l o other absent count some fits =
    let size : capacity_of l o ≡ 0 = rw other (ap (λ x. size_of (unwrap_or x nothing)) absent) in
    omega (arith, some, fits, size)

-- where the touches fit, there is room for this many in the list of Run, and in that of the goroutine
module _ (l : Lanes) (go : List ℕ) (place count : ℕ) (fits : Fits l (λ q. list_of l q ++ own_touches go place count q)) where
  pub run_fits : length l.run.items + count ≤ vec_capacity l.run
  run_fits =
      let all : length (l.run.items ++ stretch false place count) ≤ vec_capacity l.run = fits.each Run in
      omega (arith, all, length-append l.run.items (stretch false place count), stretch_long false place count)

  pub writes_fit : length (list_of l (Go go)) + count ≤ capacity_of l (Go go)
  writes_fit =
      let own : own_touches go place count (Go go) ≡ stretch true place count = rw (same_self (Go go)) refl in
      let all : length (list_of l (Go go) ++ stretch true place count) ≤ capacity_of l (Go go) =
      subst (λ (ts : List Touch). length (list_of l (Go go) ++ ts) ≤ capacity_of l (Go go)) own (fits.each (Go go)) in
      omega (arith, all, length-append (list_of l (Go go)) (stretch true place count), stretch_long true place count)
