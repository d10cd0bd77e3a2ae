-- What has room in a log has room without one of its steps.
use Rattle.std.proofs.Common.{◌≡◌, ℕ, suc, ◌+◌, ◌^◌, ◌≤◌, List, [], ◌∷◌, ◌++◌, length, filter, inl, inr, refl, ap, subst, arith, length-append}
use Rattle.std.proofs.lemmas.Bool.{cases_Bool}
use Rattle.std.specs.Prelude.{vec_capacity}
use Rattle.gr_base.specs.declared.objects.Object.{Object}
use Rattle.gr_base.specs.declared.objects.Object.TheVariants as objects
use Rattle.gr_step.specs.Record.{Record}
use Rattle.gr_step.specs.Conflicts.{written_by, touched_by}
use Rattle.gr_depend.specs.declared.log.Log.{Log}
use Rattle.gr_depend.specs.Touch.{Touch}
use Rattle.gr_depend.specs.Logs.{records_of}
use Rattle.gr_depend.specs.Wanted.{Wanted}
use Rattle.gr_depend.specs.Wanted.TheVariants as which_are
use Rattle.gr_depend.specs.Marks.{takes, wanted}
use Rattle.gr_depend.specs.Room.{CanTake}
use Rattle.gr_depend.specs.TouchesRoom.{capacity_of}
use Rattle.gr_depend.specs.Touches.{is_among, touch_at, touches_in}

module _ (which : Wanted) (o : Object) where
  -- how many of the touches are wanted
  abbrev count : List Touch → ℕ
  count ts = length (wanted which ts)

  count_both : (xs ys : List Touch) → count (xs ++ ys) ≡ count xs + count ys
  count_both [] ys = omega arith
  count_both (x ∷ xs) ys = elim (cases_Bool (takes which x.writes)) [
    | inl t ↦ rw t (let e = count_both xs ys in omega (arith, e))
    | inr f ↦ rw f (count_both xs ys)
  ]

  -- a step has as many touches wherever it stands
  count_at : (a b : ℕ) (r : Record) → count (touch_at o a r) ≡ count (touch_at o b r)
  count_at a b r = elim (cases_Bool (is_among o (touched_by r))) [
    | inl t ↦ rw t (elim (cases_Bool (takes which (is_among o (written_by r)))) [ inl u ↦ rw u refl | inr u ↦ rw u refl ])
    | inr t ↦ rw t refl
  ]

  count_first : (a : ℕ) (r : Record) (rs : List Record) → count (touches_in o a (r ∷ rs)) ≡ count (touch_at o a r) + count (touches_in o (suc a) rs)
  count_first a r rs = count_both (touch_at o a r) (touches_in o (suc a) rs)

  count_shifted : (a b : ℕ) (rs : List Record) → count (touches_in o a rs) ≡ count (touches_in o b rs)
  count_shifted a b [] = refl
  count_shifted a b (r ∷ rs) =
      let here = count_at a b r in
      let rest = count_shifted (suc a) (suc b) rs in
      let first = count_first a r rs in
      let second = count_first b r rs in
      omega (arith, here, rest, first, second)

  -- with one step more there are no fewer touches
  pub fewer_touches : (a b : ℕ) (rs rest : List Record) (r : Record) → count (touches_in o a (rs ++ rest)) ≤ count (touches_in o b (rs ++ r ∷ rest))
  fewer_touches a b [] rest r =
      let same = count_shifted a (suc b) rest in
      let first = count_first b r rest in
      omega (arith, same, first)
  fewer_touches a b (x ∷ rs) rest r =
      let here = count_at a b x in
      let more = fewer_touches (suc a) (suc b) rs rest r in
      let first = count_first a x (rs ++ rest) in
      let second = count_first b x (rs ++ r ∷ rest) in
      omega (arith, here, more, first, second)

all_are_wanted : (ts : List Touch) → wanted which_are.All ts ≡ ts
all_are_wanted [] = refl
all_are_wanted (t ∷ ts) = ap (λ xs. t ∷ xs) (all_are_wanted ts)

-- fewer records
shorter : (xs ys : List Record) (r : Record) (n : ℕ) → length (xs ++ r ∷ ys) ≤ n → length (xs ++ ys) ≤ n
shorter xs ys r n within = omega (arith, within, length-append xs (r ∷ ys), length-append xs ys)

no_more : (a b n : ℕ) → a ≤ b → b ≤ n → a ≤ n
no_more a b n h k = omega arith

pub less_room : (log : Log) (r : Record) (rest : List Record) → CanTake log (r ∷ rest) → CanTake log rest
less_room log r rest can = record {
  records = shorter (records_of log) rest r (vec_capacity log.records) can.records;
  places = shorter (records_of log) rest r (2 ^ 31) can.places;
  touches = record {
    each = λ o.
        let less = subst (λ ts. length ts ≤ length (wanted which_are.All (touches_in o 0 (records_of log ++ r ∷ rest)))) (all_are_wanted (touches_in o 0 (records_of log ++ rest)))
        (fewer_touches which_are.All o 0 0 (records_of log) rest r) in
        no_more (length (touches_in o 0 (records_of log ++ rest))) (length (touches_in o 0 (records_of log ++ r ∷ rest))) (capacity_of log.lanes o)
        (subst (λ ts. length (touches_in o 0 (records_of log ++ rest)) ≤ length ts) (all_are_wanted (touches_in o 0 (records_of log ++ r ∷ rest))) less)
        (can.touches.each o);
    stops = no_more (length (filter (λ (t : Touch). t.writes) (touches_in objects.Run 0 (records_of log ++ rest))))
        (length (filter (λ (t : Touch). t.writes) (touches_in objects.Run 0 (records_of log ++ r ∷ rest)))) (vec_capacity log.lanes.stops)
        (fewer_touches which_are.Writes objects.Run 0 0 (records_of log) rest r) can.touches.stops;
  };
}
