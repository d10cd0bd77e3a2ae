-- Steps that are taken out of a log and put back in another order.
use Rattle.std.proofs.Common.{rules, ◌≡◌, ◌<◌, ◌≤◌, ◌+◌, ◌^◌, ℕ, zero, suc, Bool, true, false, List, [], ◌∷◌, ◌++◌, length, map, reverse, slice_get, slice_index_or, take, drop, set, get_or, vec_capacity, Option, Some, None, refl, sym, ap, subst, ◌∙◌, append_assoc, append-nil, inl, inr, arith}
use Rattle.std.specs.List.{list_all}
use Rattle.std.proofs.lemmas.Bool.{cases_Bool, and_parts}
use Rattle.std.proofs.Math.ListN.{drop_of_length-le}
use Rattle.std.proofs.lemmas.List.{reverse-append, length-append, length-map, length-set, get_or-set_other, take_more, drop_more, take_all}
use Rattle.std.proofs.lemmas.Option.{get_or_from_slice_get, slice_get_read}
use Rattle.gr_base.specs.declared.objects.Object.{Object}
use Rattle.gr_base.specs.declared.objects.Object.TheVariants as objects
use Rattle.gr_causal.specs.Orders.{IsOrder, Swaps}
use Rattle.gr_causal.specs.Orders.Swaps.{none, here, there, and}
use Rattle.gr_causal.specs.Sequences.{In, Distinct}
use Rattle.gr_causal.proofs.OrderLemmas.{reached}
use Rattle.gr_rules.specs.States.{same}
use Rattle.gr_laws.proofs.CellLemmas.{same_self}
use Rattle.gr_record.specs.declared.record.Record.{Record}
use Rattle.gr_record.specs.Conflicts.{written_by, touched_by, conflict_of}
use Rattle.gr_touches.specs.declared.touch.Touch.{Touch}
use Rattle.gr_depend.specs.declared.log.Log.{Log}
use Rattle.gr_depend.specs.Logs.{records_of}
use Rattle.gr_depend.specs.Ordering.{elements_at, AreBelow}
use Rattle.gr_depend.specs.Turned.{place_at}
use Rattle.gr_touches.specs.declared.marks.Wanted.{Wanted}
use Rattle.gr_touches.specs.declared.marks.Wanted.TheVariants as which_are
use Rattle.gr_touches.specs.Marks.{takes, wanted}
use Rattle.gr_touches.specs.Room.{Fits}
use Rattle.gr_depend.specs.Room.{CanTake}
use Rattle.gr_touches.specs.Touches.{is_among, touch_at, touches_in, none_twice}
use Rattle.gr_touches.proofs.LaneLemmas.{all_wanted}
use Rattle.gr_depend.proofs.OrderingLemmas.{element_at, as_many_at, one_place}

-- the last steps are taken out, and could be put back
pub record AreTaken (old new : Log) (steps : List (Option Record)) : Type 0 where
  pub gone : List Record
  pub split : records_of new ++ gone ≡ records_of old
  pub taken : reverse steps ≡ map Some gone
  pub room : (rest : List Record) → CanTake old rest → CanTake new (gone ++ rest)

pub none_taken : (log : Log) (steps : List (Option Record)) → steps ≡ [] → AreTaken log log steps
none_taken log steps empty = record {
  gone = [];
  split = append-nil (records_of log);
  taken = ap reverse empty;
  room = λ rest can. can;
}

pub one_taken_out : (old log new : Log) (steps : List (Option Record)) (r : Record) → AreTaken old log steps → records_of log ≡ records_of new ++ r ∷ []
    → ((rest : List Record) → CanTake log rest → CanTake new (r ∷ rest)) → AreTaken old new (steps ++ Some r ∷ [])
one_taken_out old log new steps r taken is room = record {
  gone = r ∷ taken.gone;
  split = sym (append_assoc (records_of new) (r ∷ []) taken.gone) ∙ ap (λ l. l ++ taken.gone) (sym is) ∙ taken.split;
  taken = reverse-append steps (Some r ∷ []) ∙ ap (λ l. Some r ∷ l) taken.taken;
  room = λ rest can. room (taken.gone ++ rest) (taken.room rest can);
}

pub all_taken : (old log : Log) (steps left : List (Option Record)) → AreTaken old log steps → records_of log ≡ [] → left ≡ reverse steps → left ≡ map Some (records_of old)
all_taken old log steps left taken empty is =
    is ∙ taken.taken ∙ ap (map Some) (ap (λ l. l ++ taken.gone) (sym empty) ∙ taken.split)

-- how many touches of an object the steps have, those that are wanted
abbrev weight : Wanted → Object → Record → ℕ
weight which o r = length (wanted which (touch_at o 0 r))

abbrev pub weights : Wanted → Object → List Record → ℕ
weights which o [] = 0
weights which o (r ∷ rs) = weight which o r + weights which o rs

wanted_first : (which : Wanted) (t : Touch) (ts : List Touch) → length (wanted which (t ∷ ts)) ≡ length (wanted which (t ∷ [])) + length (wanted which ts)
wanted_first which t ts = by (takes which t.writes) refl
  where
    by : (b : Bool) → (takes which t.writes) ≡ b → length (wanted which (t ∷ ts)) ≡ length (wanted which (t ∷ [])) + length (wanted which ts)
    by true e = rw e (let n : suc (length (wanted which ts)) ≡ 1 + length (wanted which ts) = omega arith in n)
    by false e = rw e (let n : length (wanted which ts) ≡ 0 + length (wanted which ts) = omega arith in n)

-- whatever its place
same_weight : (which : Wanted) (s : ℕ) (w : Bool) → length (wanted which (record { place = s; writes = w } ∷ [])) ≡ length (wanted which (record { place = 0; writes = w } ∷ []))
same_weight which s w = by (takes which w) refl
  where
    by : (b : Bool) → (takes which w) ≡ b → length (wanted which (record { place = s; writes = w } ∷ [])) ≡ length (wanted which (record { place = 0; writes = w } ∷ []))
    by true e = rw e refl
    by false e = rw e refl

weigh_one : (which : Wanted) (o : Object) (s : ℕ) (r : Record) (ts : List Touch) (n : ℕ) → length (wanted which ts) ≡ n
    → length (wanted which (touch_at o s r ++ ts)) ≡ weight which o r + n
weigh_one which o s r ts n is = by (is_among o (touched_by r)) refl
  where
    by : (b : Bool) → is_among o (touched_by r) ≡ b → length (wanted which (touch_at o s r ++ ts)) ≡ weight which o r + n
    by true e = rw e (wanted_first which (record { place = s; writes = is_among o (written_by r) }) ts ∙ (λ i. same_weight which s (is_among o (written_by r)) i + is i))
    by false e = rw e (let k : length (wanted which ts) ≡ 0 + n = omega (arith, is) in k)

pub weigh : (which : Wanted) (o : Object) (s : ℕ) (rs : List Record) → length (wanted which (touches_in o s rs)) ≡ weights which o rs
weigh which o s [] = refl
weigh which o s (r ∷ rs) = weigh_one which o s r (touches_in o (suc s) rs) (weights which o rs) (weigh which o (suc s) rs)

module _ (which : Wanted) (o : Object) (rest : List Record) where
  same_weights : (L N : List Record) → Swaps conflict_of L N → weights which o (L ++ rest) ≡ weights which o (N ++ rest)
  same_weights L N none = refl
  same_weights L N (here {a = a} {b = b} {L = K} f) =
      let x = weight which o a in let y = weight which o b in let z = weights which o (K ++ rest) in
      let e : x + (y + z) ≡ y + (x + z) = omega arith in e
  same_weights L N (there {a = a} {L = K} {N = M} w) = ap (λ n. weight which o a + n) (same_weights K M w)
  same_weights L N (and {L = K} {N = M} {P = P} v w) = same_weights K M v ∙ same_weights M P w

-- what could be pushed can be pushed in another order that respects dependence
pub in_order_too : (log : Log) (old new rest : List Record) → records_of log ≡ [] → Distinct old → IsOrder conflict_of old new → CanTake log (old ++ rest) → CanTake log (new ++ rest)
in_order_too log old new rest empty d order can = record {
  records =
      let same = length_is old new swaps in
      let a = length-append old rest in let b = length-append new rest in
      let c : length (old ++ rest) ≤ vec_capacity log.records = subst (λ l. length (l ++ (old ++ rest)) ≤ vec_capacity log.records) empty can.records in
      subst (λ l. length (l ++ (new ++ rest)) ≤ vec_capacity log.records) (sym empty) (omega (arith, same, a, b, c));
  places =
      let same = length_is old new swaps in
      let a = length-append old rest in let b = length-append new rest in
      let c : length (old ++ rest) ≤ 2 ^ 31 = subst (λ l. length (l ++ (old ++ rest)) ≤ 2 ^ 31) empty can.places in
      subst (λ l. length (l ++ (new ++ rest)) ≤ 2 ^ 31) (sym empty) (omega (arith, same, a, b, c));
  touches =
      subst (λ l. Fits log.lanes (λ o. touches_in o 0 (l ++ (new ++ rest)))) (sym empty)
      (moved (subst (λ l. Fits log.lanes (λ o. touches_in o 0 (l ++ (old ++ rest)))) empty can.touches));
}
  where
    swaps : Swaps conflict_of old new
    swaps = reached conflict_of old new d order

    length_is : (L N : List Record) → Swaps conflict_of L N → length L ≡ length N
    length_is L N none = refl
    length_is L N (here f) = refl
    length_is L N (there {L = K} {N = M} w) = ap suc (length_is K M w)
    length_is L N (and {L = K} {N = M} {P = P} v w) = length_is K M v ∙ length_is M P w

    as_long : (which : Wanted) (o : Object) → length (wanted which (touches_in o 0 (old ++ rest))) ≡ length (wanted which (touches_in o 0 (new ++ rest)))
    as_long which o = weigh which o 0 (old ++ rest) ∙ same_weights which o rest old new swaps ∙ sym (weigh which o 0 (new ++ rest))

    moved : Fits log.lanes (λ o. touches_in o 0 (old ++ rest)) → Fits log.lanes (λ o. touches_in o 0 (new ++ rest))
    moved fits = record {
      each = λ o.
          let e = ap length (sym (all_wanted (touches_in o 0 (old ++ rest)))) ∙ as_long which_are.All o ∙ ap length (all_wanted (touches_in o 0 (new ++ rest))) in
          let f = fits.each o in omega (arith, e, f);
      stops = let e = as_long which_are.Writes objects.Run in let f = fits.stops in omega (arith, e, f);
    }

-- objects of which none stands twice are distinct
pub once_distinct : (os : List Object) → none_twice os ≡ true → Distinct os
once_distinct [] h = tt
once_distinct (o ∷ os) h = elim (cases_Bool (is_among o os)) [
  | inl t ↦ absurd (let e : false ≡ true = rw t at h in cc)
  | inr f ↦ (λ i. let t = in_among o os i in cc, once_distinct os (rw f at h))
]
  where
    in_among : (o : Object) (os : List Object) → In o os → is_among o os ≡ true
    in_among o [] i = absurd i
    in_among o (p ∷ os) (inl e) = rw (ap (same o) (sym e) ∙ same_self o) refl
    in_among o (p ∷ os) (inr i) = elim (cases_Bool (same o p)) [ inl t ↦ rw t refl | inr f ↦ rw f (in_among o os i) ]

pub touched_distinct : (rs : List Record) (i : ℕ) (r : Record) → list_all (λ x. none_twice (touched_by x)) rs ≡ true → slice_get rs i ≡ Some r → Distinct (touched_by r)
touched_distinct [] i r all h = cc
touched_distinct (x ∷ rs) zero r all h =
    let e : x ≡ r = cc in
    subst (λ z. Distinct (touched_by z)) e (once_distinct (touched_by x) (and_parts (none_twice (touched_by x)) (list_all (λ y. none_twice (touched_by y)) rs) all).0)
touched_distinct (x ∷ rs) (suc i) r all h = touched_distinct rs i r (and_parts (none_twice (touched_by x)) (list_all (λ y. none_twice (touched_by y)) rs) all).1 h

pub some_at : (rs : List Record) (p : ℕ) → slice_index_or (map Some rs) p None ≡ slice_get rs p
some_at [] zero = refl
some_at [] (suc p) = refl
some_at (r ∷ rs) zero = refl
some_at (r ∷ rs) (suc p) = some_at rs p

-- the first steps of an order are put back, those of the others are there, and can be put back
pub record ArePutBack (old new : Log) (from : List ℕ) (i : ℕ) (steps : List (Option Record)) : Type 0 where
  pub count : length steps ≡ length (records_of old)
  pub left : (k : ℕ) → i ≤ k → k < length from → slice_index_or steps (place_at from k) None ≡ slice_get (records_of old) (place_at from k)
  pub put : records_of new ≡ take i (elements_at from (records_of old))
  pub room : (rest : List Record) → CanTake old rest → CanTake new (drop i (elements_at from (records_of old)) ++ rest)

pub none_put_back : (old new : Log) (from : List ℕ) (steps : List (Option Record)) → Distinct (records_of old)
    → IsOrder conflict_of (records_of old) (elements_at from (records_of old))
    → steps ≡ map Some (records_of old) → records_of new ≡ [] → ((rest : List Record) → CanTake old rest → CanTake new (records_of old ++ rest))
    → ArePutBack old new from 0 steps
none_put_back old new from steps d order is empty room = record {
  count = ap length is ∙ length-map (records_of old) Some;
  left = λ k l w. ap (λ xs. slice_index_or xs (place_at from k) None) is ∙ some_at (records_of old) (place_at from k);
  put = empty;
  room = λ rest can. in_order_too new (records_of old) (elements_at from (records_of old)) rest empty d order (room rest can);
}

module _ (old log : Log) (from : List ℕ) (i : ℕ) (steps : List (Option Record)) (below : AreBelow (length (records_of old)) from)
    (order : IsOrder conflict_of (records_of old) (elements_at from (records_of old))) (w : i < length from) (back : ArePutBack old log from i steps) where
  abbrev rs : List Record
  rs = records_of old

  abbrev next : List Record
  next = elements_at from rs

  -- the next step is there
  pub next_there : (r : Record) × (slice_get rs (place_at from i) ≡ Some r)
  next_there = there_is rs (place_at from i) (below i w)
    where
      there_is : (rs : List Record) (i : ℕ) → i < length rs → (r : Record) × (slice_get rs i ≡ Some r)
      there_is [] i w = absurd (omega arith)
      there_is (r ∷ rs) zero w = (r, refl)
      there_is (r ∷ rs) (suc i) w = there_is rs i (omega arith)

  at_next : slice_get next i ≡ Some next_there.0
  at_next = element_at from rs below i w ∙ next_there.1

  next_is : slice_index_or steps (place_at from i) None ≡ Some next_there.0
  next_is = back.left i (omega arith) w ∙ next_there.1

  -- what is read and taken out at its place is it
  pub is_next : (read taken : Option Record) → read ≡ get_or steps (place_at from i) read → taken ≡ read → taken ≡ Some next_there.0
  is_next read taken at was =
      let inside = below i w in
      let count = back.count in
      was ∙ sym (get_or_from_slice_get steps (place_at from i) read None (slice_get_read steps (length steps) (place_at from i) read refl (omega (arith, inside, count)) at)) ∙ next_is

  in_next : i < length next
  in_next = let n = as_many_at from rs below in omega (arith, w, n)

  next_or : get_or next i next_there.0 ≡ next_there.0
  next_or = get_or_from_slice_get next i next_there.0 next_there.0 at_next

  left_now : drop i next ≡ next_there.0 ∷ drop (i + 1) next
  left_now = drop_more next i next_there.0 in_next ∙ ap (λ r. r ∷ drop (i + 1) next) next_or

  pub can_take_next : (rest : List Record) → CanTake old rest → CanTake log (next_there.0 ∷ (drop (i + 1) next ++ rest))
  can_take_next rest can = subst (λ l. CanTake log (l ++ rest)) left_now (back.room rest can)

  pub one_put_back : (new : Log) (after : List (Option Record)) → after ≡ set steps (place_at from i) None → records_of new ≡ records_of log ++ next_there.0 ∷ []
      → ((rest : List Record) → CanTake log (next_there.0 ∷ rest) → CanTake new rest) → ArePutBack old new from (i + 1) after
  one_put_back new after is added room = record {
    count = ap length is ∙ length-set steps (place_at from i) None ∙ back.count;
    left = λ k l v.
        ap (λ xs. slice_index_or xs (place_at from k) None) is
        ∙ get_or-set_other steps (place_at from i) (place_at from k) None None (λ e. apart k l v e)
        ∙ back.left k (omega (arith, l)) v;
    put = added ∙ ap (λ l. l ++ next_there.0 ∷ []) back.put
        ∙ ap (λ r. take i next ++ r ∷ []) (sym next_or) ∙ sym (take_more next i next_there.0 in_next);
    room = λ rest can. room (drop (i + 1) next ++ rest) (can_take_next rest can);
  }
    where
      apart : (k : ℕ) → i + 1 ≤ k → k < length from → place_at from k ≡ place_at from i → ⊥
      apart k l v e =
          let same = one_place next k i next_there.0 next_there.0 order.steps.once (element_at from rs below k v ∙ ap (slice_get rs) e ∙ next_there.1) at_next refl in
          omega (arith, same, l)

pub all_put_back : (old new : Log) (from : List ℕ) (i : ℕ) (steps : List (Option Record)) → AreBelow (length (records_of old)) from → length from ≤ i → ArePutBack old new from i steps
    → (records_of new ≡ elements_at from (records_of old)) × ((rest : List Record) → CanTake old rest → CanTake new rest)
all_put_back old new from i steps below end back =
    let n = as_many_at from (records_of old) below in (
      back.put ∙ take_all i (elements_at from (records_of old)) (omega (arith, n, end)),
      λ rest can. subst (λ l. CanTake new (l ++ rest)) (drop_of_length-le (elements_at from (records_of old)) (omega (arith, n, end))) (back.room rest can),
    )

pub can_take_none : (log : Log) → CanTake log []
can_take_none log = record {
  records = search rules;
  places = let a = length-append log.records.items [] in let b = log.few in omega (arith, a, b);
  touches = search rules;
}
