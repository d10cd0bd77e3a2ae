-- The touches of a log to which steps are added that a goroutine took by itself.
use Rattle.std.proofs.Common.{◌≡◌, ◌+◌, ℕ, suc, Bool, true, false, if◌then◌else◌, List, [], ◌∷◌, ◌++◌, ◌≤◌, length, filter, vec_capacity, All, refl, sym, ap, subst, ◌∙◌, append_assoc, arith}
use Rattle.std.specs.List.{list_all}
use Rattle.std.proofs.lemmas.Bool.{and_parts, and_from}
use Rattle.std.proofs.lemmas.List.Elements.{All-head, All-tail}
use Rattle.gr_base.specs.declared.objects.Object.{Object}
use Rattle.gr_base.specs.declared.objects.Object.TheVariants.{Run, Go}
use Rattle.gr_rules.specs.States.{same}
use Rattle.gr_laws.proofs.CellLemmas.{same_is}
use Rattle.gr_record.specs.declared.record.Record.{Record}
use Rattle.gr_record.specs.Conflicts.{touched_by}
use Rattle.gr_touches.specs.declared.touch.Touch.{Touch}
use Rattle.gr_depend.specs.Logs.{IsAlone}
use Rattle.gr_touches.specs.declared.lanes.Lanes.{Lanes}
use Rattle.gr_touches.specs.Lists.{list_of}
use Rattle.gr_touches.specs.Room.{capacity_of, Fits}
use Rattle.gr_touches.specs.Touches.{touch_at, touches_in, none_twice, stretch, own_touches}
use Rattle.gr_touches.proofs.NoteLemmas.{one_for, read_alone, written_alone, kept_alone}
use Rattle.gr_touches.proofs.TouchLemmas.{kept_is_touch}

-- the step touched whether the program runs and its goroutine, and nothing twice
pub alone_once : (go : List ℕ) (r : Record) → IsAlone go r → none_twice (touched_by r) ≡ true
alone_once go r is = (λ i. none_twice (read_alone r is.alone i ++ written_alone r is.alone i))

apart : (go : List ℕ) (q : Object) → same Run q ≡ true → same (Go go) q ≡ false
apart go q e = ap (same (Go go)) (sym (same_is Run q e))

own_touch : (go : List ℕ) (q : Object) (place : ℕ) (r : Record) → IsAlone go r → touch_at q place r ≡ own_touches go place 1 q
own_touch go q place r is =
    sym (kept_is_touch q place r (alone_once go r is)) ∙ kept_alone q place r is.alone
    ∙ ap (λ (g : List ℕ). one_for q (record { place = place; writes = false }) Run ++ one_for q (record { place = place; writes = true }) (Go g)) is.name
    ∙ by (same Run q) (same (Go go) q) (apart go q)
  where
    by : (a b : Bool) → (a ≡ true → b ≡ false)
        → (if a then record { place = place; writes = false } ∷ [] else []) ++ (if b then record { place = place; writes = true } ∷ [] else [])
        ≡ (if a then stretch false place 1 else if b then stretch true place 1 else [])
    by true true h = absurd (let no : true ≡ false = h refl in cc)
    by true false h = refl
    by false true h = refl
    by false false h = refl

own_more : (go : List ℕ) (q : Object) (place count : ℕ) → own_touches go place 1 q ++ own_touches go (suc place) count q ≡ own_touches go place (suc count) q
own_more go q place count = by (same Run q) (same (Go go) q)
  where
    by : (a b : Bool)
        → (if a then stretch false place 1 else if b then stretch true place 1 else [])
        ++ (if a then stretch false (suc place) count else if b then stretch true (suc place) count else [])
        ≡ (if a then stretch false place (suc count) else if b then stretch true place (suc count) else [])
    by true b = refl
    by false true = refl
    by false false = refl

no_more : (go : List ℕ) (q : Object) (place : ℕ) → own_touches go place 0 q ≡ []
no_more go q place = by (same Run q) (same (Go go) q)
  where
    by : (a b : Bool) → (if a then stretch false place 0 else if b then stretch true place 0 else []) ≡ []
    by true b = refl
    by false true = refl
    by false false = refl

own_in : (go : List ℕ) (q : Object) (place : ℕ) (rs : List Record) → All (IsAlone go) rs → touches_in q place rs ≡ own_touches go place (length rs) q
own_in go q place [] all = sym (no_more go q place)
own_in go q place (r ∷ rs) all =
    (λ i. own_touch go q place r (All-head (IsAlone go) r rs all) i ++ own_in go q (suc place) rs (All-tail (IsAlone go) r rs all) i)
    ∙ own_more go q place (length rs)

-- the touches of a log, and of steps behind it
touches_then : (q : Object) (place : ℕ) (xs ys : List Record) → touches_in q place (xs ++ ys) ≡ touches_in q place xs ++ touches_in q (place + length xs) ys
touches_then q place [] ys = let e : place ≡ place + 0 = omega arith in ap (λ n. touches_in q n ys) e
touches_then q place (x ∷ xs) ys =
    let e : suc place + length xs ≡ place + suc (length xs) = omega arith in
    ap (λ l. touch_at q place x ++ l) (touches_then q (suc place) xs ys ∙ ap (λ n. touches_in q (suc place) xs ++ touches_in q n ys) e)
    ∙ sym (append_assoc (touch_at q place x) (touches_in q (suc place) xs) (touches_in q (place + suc (length xs)) ys))

module _ (go : List ℕ) (xs ys : List Record) (alone : All (IsAlone go) ys) where
  pub with_own : (q : Object) (l m : List Touch) (place count : ℕ) → l ≡ touches_in q 0 xs → place ≡ length xs → count ≡ length ys
      → m ≡ l ++ own_touches go place count q → m ≡ touches_in q 0 (xs ++ ys)
  with_own q l m place count was at long is =
      is ∙ (λ i. was i ++ own_touches go (at i) (long i) q)
      ∙ ap (λ k. touches_in q 0 xs ++ k) (sym (own_in go q (length xs) ys alone))
      ∙ ap (λ n. touches_in q 0 xs ++ touches_in q n ys) (let e : length xs ≡ 0 + length xs = omega arith in e)
      ∙ sym (touches_then q 0 xs ys)

  -- where there is room for all of them, there is for what is kept of the steps behind
  pub own_fits : (l : Lanes) (place count : ℕ) → ((q : Object) → list_of l q ≡ touches_in q 0 xs) → place ≡ length xs → count ≡ length ys
      → Fits l (λ q. touches_in q 0 (xs ++ ys)) → Fits l (λ q. list_of l q ++ own_touches go place count q)
  own_fits l place count was at long fits = record {
    each = λ q. subst {_, _} (λ (ts : List Touch). length ts ≤ capacity_of l q)
        (sym (with_own q (list_of l q) (list_of l q ++ own_touches go place count q) place count (was q) at long refl)) (fits.each q);
    stops = subst {_, _} (λ (ts : List Touch). length (filter (λ t. t.writes) ts) ≤ vec_capacity l.stops)
        (sym (with_own Run (list_of l Run) (list_of l Run ++ own_touches go place count Run) place count (was Run) at long refl)) fits.stops;
  }

all_once : (go : List ℕ) (ys : List Record) → All (IsAlone go) ys → list_all (λ r. none_twice (touched_by r)) ys ≡ true
all_once go [] alone = refl
all_once go (y ∷ ys) alone =
    and_from (none_twice (touched_by y)) _ (alone_once go y (All-head (IsAlone go) y ys alone)) (all_once go ys (All-tail (IsAlone go) y ys alone))

pub all_once_then : (go : List ℕ) (xs ys : List Record) → list_all (λ r. none_twice (touched_by r)) xs ≡ true → All (IsAlone go) ys
    → list_all (λ r. none_twice (touched_by r)) (xs ++ ys) ≡ true
all_once_then go [] ys all alone = all_once go ys alone
all_once_then go (x ∷ xs) ys all alone =
    let both = and_parts (none_twice (touched_by x)) (list_all (λ r. none_twice (touched_by r)) xs) all in
    and_from (none_twice (touched_by x)) _ both.0 (all_once_then go xs ys both.1 alone)
