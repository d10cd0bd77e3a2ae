-- The touches of a log without a step in its middle, and with it.
use Rattle.std.proofs.Common.{◌≡◌, ◌≤◌, ◌<◌, ◌+◌, ◌^◌, ℕ, zero, suc, Bool, true, false, if◌then◌else◌, List, [], ◌∷◌, ◌++◌, length, take, drop, get_or, slice_get, vec_capacity, Some, refl, sym, ap, subst, ◌∙◌, arith}
use Rattle.std.specs.List.{list_all}
use Rattle.std.specs.Option.{unwrap_or}
use Rattle.std.proofs.lemmas.Bool.{and_parts, and_from}
use Rattle.std.proofs.lemmas.List.{drop_more, length-append, take_more, take-append-drop}
use Rattle.indexmap.specs.IndexMap.{get}
use Rattle.gr_base.specs.declared.objects.Object.{Object}
use Rattle.gr_base.specs.declared.objects.Object.TheVariants.{Run}
use Rattle.gr_rules.specs.States.{same}
use Rattle.gr_record.specs.declared.record.Record.{Record}
use Rattle.gr_record.specs.Conflicts.{touched_by}
use Rattle.gr_touches.specs.declared.touch.Touch.{Touch}
use Rattle.gr_touches.specs.declared.lanes.Lanes.{Lanes}
use Rattle.gr_touches.specs.declared.marks.Wanted.{Wanted}
use Rattle.gr_touches.specs.declared.marks.Wanted.TheVariants.{All, Writes}
use Rattle.gr_touches.specs.Lists.{LaneSeen, list_of, nothing}
use Rattle.gr_touches.specs.Room.{size_of, Fits, KeepsRoom}
use Rattle.gr_touches.specs.Touches.{kept_for, touches_in, none_twice}
use Rattle.gr_touches.proofs.LaneLemmas.{all_wanted}
use Rattle.gr_touches.proofs.RoomLemmas.{fits_step}
use Rattle.gr_touches.proofs.TouchLemmas.{with_step, without_step}
use Rattle.gr_depend.specs.declared.log.Log.{Log}
use Rattle.gr_depend.specs.Logs.{AreListsOf, records_of}
use Rattle.gr_depend.specs.Room.{CanTake}
use Rattle.gr_depend.proofs.ArrangeLemmas.{weights, weigh}

-- a step weighs as much at the end as in the middle
module _ (which : Wanted) (o : Object) where
  both : (xs ys : List Record) → weights which o (xs ++ ys) ≡ weights which o xs + weights which o ys
  both [] ys = let e : weights which o ys ≡ 0 + weights which o ys = omega arith in e
  both (x ∷ xs) ys = let e = both xs ys in omega (arith, e)

  at_end : (xs ys zs : List Record) (r : Record) → weights which o ((xs ++ ys) ++ r ∷ zs) ≡ weights which o ((xs ++ r ∷ ys) ++ zs)
  at_end xs ys zs r =
      let a = both (xs ++ ys) (r ∷ zs) in
      let b = both xs ys in
      let c = both (xs ++ r ∷ ys) zs in
      let d = both xs (r ∷ ys) in
      omega (arith, a, b, c, d)

-- the touches of these steps fit
abbrev pub FitsAll : Lanes → List Record → Type 0
FitsAll l rs = Fits l (λ o. touches_in o 0 rs)

module _ (l : Lanes) where
  no_heavier : (these those : List Record) → ((which : Wanted) (o : Object) → weights which o those ≤ weights which o these) → FitsAll l these → FitsAll l those
  no_heavier these those less fits = record {
    each = λ o.
        let a = ap length (sym (all_wanted (touches_in o 0 these))) ∙ weigh All o 0 these in
        let b = ap length (sym (all_wanted (touches_in o 0 those))) ∙ weigh All o 0 those in
        let c = less All o in
        let f = fits.each o in
        omega (arith, a, b, c, f);
    stops =
        let a = weigh Writes Run 0 these in
        let b = weigh Writes Run 0 those in
        let c = less Writes Run in
        let f = fits.stops in
        omega (arith, a, b, c, f);
  }

  pub fits_at_end : (xs ys zs : List Record) (r : Record) → FitsAll l ((xs ++ r ∷ ys) ++ zs) → FitsAll l ((xs ++ ys) ++ r ∷ zs)
  fits_at_end xs ys zs r = no_heavier _ _ (λ which o. let e = at_end which o xs ys zs r in omega (arith, e))

  pub fits_in_middle : (xs ys zs : List Record) (r : Record) → FitsAll l ((xs ++ ys) ++ r ∷ zs) → FitsAll l ((xs ++ r ∷ ys) ++ zs)
  fits_in_middle xs ys zs r = no_heavier _ _ (λ which o. let e = at_end which o xs ys zs r in omega (arith, e))

  pub fits_without : (xs ys : List Record) (r : Record) → FitsAll l (xs ++ r ∷ ys) → FitsAll l (xs ++ ys)
  fits_without xs ys r = no_heavier _ _ (λ which o.
      let a = both which o xs ys in
      let b = both which o xs (r ∷ ys) in
      omega (arith, a, b))

  pub fits_first : (xs ys : List Record) → FitsAll l (xs ++ ys) → FitsAll l xs
  fits_first xs ys = no_heavier _ _ (λ which o. let e = both which o xs ys in omega (arith, e))

-- the lists that there are fit
each_fits : (b : Bool) (run : List Touch) (n : ℕ) (k : LaneSeen) → length run ≤ n → length (if b then run else k.0) ≤ (if b then n else size_of k)
each_fits true run n k within = within
each_fits false run n k within = omega arith

pub fits_itself : (l : Lanes) → Fits l (list_of l)
fits_itself l = record {
  each = λ o. each_fits (same Run o) l.run.items (vec_capacity l.run) (unwrap_or (get same l.map o) nothing) (let ok = l.run.ok in omega (arith, ok.0, ok.1));
  stops = let ok = l.stops.ok in let is = ap length l.writers in omega (arith, ok.0, ok.1, is);
}

-- the first steps of a log, the one behind them, and the others
pub split_at : (xs : List Record) (i : ℕ) (d : Record) → i < length xs → xs ≡ take i xs ++ get_or xs i d ∷ drop (i + 1) xs
split_at xs i d less = sym (take-append-drop i xs) ∙ ap (λ l. take i xs ++ l) (drop_more xs i d less)

-- no step touches an object twice
abbrev pub AllOnce : List Record → Type 0
AllOnce rs = list_all (λ r. none_twice (touched_by r)) rs ≡ true

pub once_before : (xs ys : List Record) → AllOnce (xs ++ ys) → AllOnce xs
once_before [] ys all = refl
once_before (x ∷ xs) ys all =
    let parts = and_parts (none_twice (touched_by x)) _ all in and_from (none_twice (touched_by x)) _ parts.0 (once_before xs ys parts.1)

pub once_behind : (xs ys : List Record) → AllOnce (xs ++ ys) → AllOnce ys
once_behind [] ys all = all
once_behind (x ∷ xs) ys all = once_behind xs ys (and_parts (none_twice (touched_by x)) _ all).1

pub once_both : (xs ys : List Record) → AllOnce xs → AllOnce ys → AllOnce (xs ++ ys)
once_both [] ys first second = second
once_both (x ∷ xs) ys first second =
    let parts = and_parts (none_twice (touched_by x)) _ first in and_from (none_twice (touched_by x)) _ parts.0 (once_both xs ys parts.1 second)

pub once_without : (xs ys : List Record) (r : Record) → AllOnce (xs ++ r ∷ ys) → AllOnce (xs ++ ys)
once_without xs ys r all = once_both xs ys (once_before xs (r ∷ ys) all) (once_behind (r ∷ []) ys (once_behind xs (r ∷ ys) all))

pub once_with : (xs ys : List Record) (r : Record) → none_twice (touched_by r) ≡ true → AllOnce (xs ++ ys) → AllOnce (xs ++ r ∷ ys)
once_with xs ys r one all =
    once_both xs (r ∷ ys) (once_before xs ys all) (and_from (none_twice (touched_by r)) _ one (once_behind xs ys all))

pub once_at : (xs : List Record) (i : ℕ) (d : Record) → i < length xs → AllOnce xs → none_twice (touched_by (get_or xs i d)) ≡ true
once_at xs i d less all =
    (and_parts (none_twice (touched_by (get_or xs i d))) _
    (once_behind (take i xs) (get_or xs i d ∷ drop (i + 1) xs) (subst AllOnce (split_at xs i d less) all))).0

taken : (xs : List Record) (k : ℕ) → k ≤ length xs → k ≡ length (take k xs)
taken xs zero within = refl
taken [] (suc k) within = absurd (omega (arith, within))
taken (x ∷ xs) (suc k) within = ap suc (taken xs k (omega (arith, within)))

-- one step more, and one less, of the first steps of a log
module _ (steps : List Record) (once : AllOnce steps) (k : ℕ) (r : Record) (below : k < length steps) (is : r ≡ get_or steps k r) where
  with_it : take (k + 1) steps ≡ take k steps ++ r ∷ []
  with_it = take_more steps k r below ∙ ap (λ x. take k steps ++ x ∷ []) (sym is)

  pub its_once : none_twice (touched_by r) ≡ true
  its_once = subst (λ x. none_twice (touched_by x) ≡ true) (sym is) (once_at steps k r below once)

  pub one_less : (left : ℕ) (old new : Lanes) → left ≡ k + 1 → AreListsOf (take left steps) old
      → ((before : Object → List Touch) (place : ℕ) → ((q : Object) → list_of old q ≡ before q ++ kept_for q place r) → (q : Object) → list_of new q ≡ before q)
      → AreListsOf (take k steps) new
  one_less left old new one lists forgets =
      forgets (λ q. touches_in q 0 (take k steps)) (0 + length (take k steps))
      (λ q. without_step (take k steps) r its_once q (list_of old q) (lists q ∙ ap (touches_in q 0) (ap (λ n. take n steps) one ∙ with_it)))

  pub one_more : (old new : Lanes) → AreListsOf (take k steps) old → ((q : Object) → list_of new q ≡ list_of old q ++ kept_for q k r)
      → AreListsOf (take (k + 1) steps) new
  one_more old new lists notes q =
      with_step (take k steps) r its_once q (list_of old q) (list_of new q) k (lists q) (taken steps k (omega (arith, below))) (notes q)
      ∙ ap (touches_in q 0) (sym with_it)

  pub one_fits : (l : Lanes) → AreListsOf (take k steps) l → FitsAll l steps → Fits l (λ q. list_of l q ++ kept_for q k r)
  one_fits l lists fits =
      fits_step l (take k steps) r (drop (k + 1) steps) k its_once lists (taken steps k (omega (arith, below)))
      (subst (FitsAll l) (split_at steps k r below ∙ ap (λ x. take k steps ++ x ∷ drop (k + 1) steps) (sym is)) fits)

pub at_place : (xs : List Record) (i : ℕ) (d : Record) → i < length xs → slice_get xs i ≡ Some (get_or xs i d)
at_place [] i d less = absurd (omega (arith, less))
at_place (x ∷ xs) zero d less = refl
at_place (x ∷ xs) (suc i) d less = at_place xs i d (omega (arith, less))

-- a log with a step in its middle, and the same log without it
length_moved : (xs ys zs : List Record) (r : Record) → length ((xs ++ ys) ++ r ∷ zs) ≡ length ((xs ++ r ∷ ys) ++ zs)
length_moved xs ys zs r =
    let a = length-append (xs ++ ys) (r ∷ zs) in
    let b = length-append xs ys in
    let c = length-append (xs ++ r ∷ ys) zs in
    let d = length-append xs (r ∷ ys) in
    omega (arith, a, b, c, d)

module _ (with without : Log) (xs ys rest : List Record) (r : Record) (has : records_of with ≡ xs ++ r ∷ ys) (lacks : records_of without ≡ xs ++ ys) where
  same_length : length (records_of without ++ r ∷ rest) ≡ length (records_of with ++ rest)
  same_length = ap (λ l. length (l ++ r ∷ rest)) lacks ∙ length_moved xs ys rest r ∙ ap (λ l. length (l ++ rest)) (sym has)

  pub takes_at_end : vec_capacity with.records ≤ vec_capacity without.records → KeepsRoom with.lanes without.lanes → CanTake with rest
      → CanTake without (r ∷ rest)
  takes_at_end more room can = record {
    records = let long = same_length in let fit = can.records in omega (arith, long, fit, more);
    places = subst (λ n. n ≤ 2 ^ 31) (sym same_length) can.places;
    touches = subst (FitsAll without.lanes) (ap (λ l. l ++ r ∷ rest) (sym lacks))
        (fits_at_end without.lanes xs ys rest r (room _ (subst (FitsAll with.lanes) (ap (λ l. l ++ rest) has) can.touches)));
  }

  pub takes_in_middle : vec_capacity without.records ≤ vec_capacity with.records → KeepsRoom without.lanes with.lanes → CanTake without (r ∷ rest)
      → CanTake with rest
  takes_in_middle more room can = record {
    records = let long = same_length in let fit = can.records in omega (arith, long, fit, more);
    places = subst (λ n. n ≤ 2 ^ 31) same_length can.places;
    touches = subst (FitsAll with.lanes) (ap (λ l. l ++ rest) (sym has))
        (fits_in_middle with.lanes xs ys rest r (room _ (subst (FitsAll without.lanes) (ap (λ l. l ++ r ∷ rest) lacks) can.touches)));
  }

-- what is left of a log without the step at a place
module _ (rs : List Record) (at : ℕ) (r : Record) (below : at < length rs) (is : r ≡ get_or rs at r) where
  pub parted : rs ≡ take at rs ++ r ∷ drop (at + 1) rs
  parted = split_at rs at r below ∙ ap (λ x. take at rs ++ x ∷ drop (at + 1) rs) (sym is)

  pub left_once : AllOnce rs → AllOnce (take at rs ++ drop (at + 1) rs)
  left_once once = once_without (take at rs) (drop (at + 1) rs) r (subst AllOnce parted once)

  pub left_fits : (l : Lanes) → FitsAll l rs → FitsAll l (take at rs ++ drop (at + 1) rs)
  left_fits l fits = fits_without l (take at rs) (drop (at + 1) rs) r (subst (FitsAll l) parted fits)

-- the lists of a log fit
pub fits_as_they_are : (log : Log) → FitsAll log.lanes (records_of log)
fits_as_they_are log = subst {_, _} (Fits log.lanes) (λ i o. log.touches o i) (fits_itself log.lanes)

-- a log with a step more at a place
module _ (rs : List Record) (at : ℕ) (r : Record) where
  pub whole : rs ≡ take at rs ++ drop at rs
  whole = sym (take-append-drop at rs)

  pub more_once : none_twice (touched_by r) ≡ true → AllOnce rs → AllOnce (take at rs ++ r ∷ drop at rs)
  more_once one once = once_with (take at rs) (drop at rs) r one (subst AllOnce whole once)

  pub more_fits : (l : Lanes) (rest : List Record) → FitsAll l (rs ++ r ∷ rest) → FitsAll l (take at rs ++ r ∷ drop at rs)
  more_fits l rest fits =
      fits_first l (take at rs ++ r ∷ drop at rs) rest
      (fits_in_middle l (take at rs) (drop at rs) rest r (subst (λ xs. FitsAll l (xs ++ r ∷ rest)) whole fits))

  pub more_count : (rest : List Record) → length (take at rs ++ r ∷ drop at rs) ≤ length (rs ++ r ∷ rest)
  more_count rest =
      let a = ap length whole in
      let b = length-append (take at rs) (drop at rs) in
      let c = length-append (take at rs) (r ∷ drop at rs) in
      let d = length-append rs (r ∷ rest) in
      omega (arith, a, b, c, d)
