-- Moves of the steps of a log into an order of their names.
use Rattle.std.proofs.Common.{◌≡◌, ◌<◌, ◌≤◌, ◌+◌, ◌==◌, ◌↔◌, IsTrue, nat_lt, ℕ, zero, suc, Bool, true, false, List, [], ◌∷◌, ◌⊎◌, length, map, set, slice_get, replicate, Some, eqb-true, eq-eqb, ◌≢◌, refl, sym, ap, ap₂, subst, ◌∙◌, inl, inr, arith}
use Rattle.std.proofs.lemmas.Bool.{cases_Bool, ltb-true, lt-ltb}
use Rattle.std.proofs.lemmas.List.{get_or-set_same, get_or-set_other, get_or-replicate, length-map, length-set, length-replicate}
use Rattle.std.proofs.lemmas.Option.{slice_get_within}
use Rattle.gr_base.specs.declared.names.StepId.{StepId}
use Rattle.gr_causal.specs.OrderByNames.{NamesEach, ChangePlaces, FirstToChange}
use Rattle.gr_causal.specs.Orders.{IsOrder}
use Rattle.gr_causal.specs.Sequences.{In, Distinct, Before, Rearranges}
use Rattle.gr_causal.proofs.BackwardLemmas.{as_long}
use Rattle.gr_causal.proofs.ListLemmas.{some_is, none_not, either, In-map, In-of_map, Distinct-by_name, Before-left, Before-right}
use Rattle.gr_causal.proofs.PlaceLemmas.{In-at, place_of, Before-at, places_of, IsAt-get, get-IsAt}
use Rattle.gr_record.specs.declared.record.Record.{Record}
use Rattle.gr_record.specs.Conflicts.{conflict_of}
use Rattle.gr_depend.specs.Named.{IsNamed}
use Rattle.gr_depend.specs.Ordering.{name, elements_at, AreBelow, AreInverse, AreMoves, BreaksAt}
use Rattle.gr_depend.specs.Turned.{place_at, AreTurned, TurnedFrom, AreFirstTurned}

-- elements at places
pub one_more_at : {A : Type 0} (p : ℕ) (ps : List ℕ) (xs : List A) (x : A) → slice_get xs p ≡ Some x → elements_at (p ∷ ps) xs ≡ x ∷ elements_at ps xs
one_more_at p ps xs x h = rw h refl

there : {A : Type 0} (xs : List A) (i : ℕ) → i < length xs → (x : A) × (slice_get xs i ≡ Some x)
there [] i w = absurd (omega arith)
there (x ∷ xs) zero w = (x, refl)
there (x ∷ xs) (suc i) w = there xs i (omega arith)

pub as_many_at : {A : Type 0} (ps : List ℕ) (xs : List A) → AreBelow (length xs) ps → length (elements_at ps xs) ≡ length ps
as_many_at [] xs within = refl
as_many_at (p ∷ ps) xs within =
    let x = there xs p (within 0 (omega arith)) in
    ap length (one_more_at p ps xs x.0 x.1) ∙ ap suc (as_many_at ps xs (λ i w. within (suc i) (omega arith)))

pub element_at : {A : Type 0} (ps : List ℕ) (xs : List A) → AreBelow (length xs) ps → (i : ℕ) → i < length ps → slice_get (elements_at ps xs) i ≡ slice_get xs (place_at ps i)
element_at [] xs within i w = absurd (omega arith)
element_at (p ∷ ps) xs within zero w = let x = there xs p (within 0 (omega arith)) in ap (λ l. slice_get l 0) (one_more_at p ps xs x.0 x.1) ∙ sym x.1
element_at (p ∷ ps) xs within (suc i) w =
    let x = there xs p (within 0 (omega arith)) in
    ap (λ l. slice_get l (suc i)) (one_more_at p ps xs x.0 x.1) ∙ element_at ps xs (λ j v. within (suc j) (omega arith)) i (omega arith)

-- lists are distinct where no two places have one element
distinct_by_places : {A : Type 0} (xs : List A) → ((i j : ℕ) (x : A) → i < j → slice_get xs i ≡ Some x → slice_get xs j ≡ Some x → ⊥) → Distinct xs
distinct_by_places [] h = tt
distinct_by_places (x ∷ xs) h = (
  λ i. let w = place_of xs x i in h 0 (suc w.0) x (omega arith) refl (get-IsAt xs w.0 x w.1),
  distinct_by_places xs (λ i j y l a b. h (suc i) (suc j) y (omega arith) a b),
)

-- in a list without repetitions an element has one place
pub one_place : {A : Type 0} (xs : List A) (i j : ℕ) (x y : A) → Distinct xs → slice_get xs i ≡ Some x → slice_get xs j ≡ Some y → x ≡ y → i ≡ j
one_place [] i j x y d a b e = absurd (none_not _ a)
one_place (z ∷ xs) zero zero x y d a b e = refl
one_place (z ∷ xs) zero (suc j) x y d a b e = absurd (d.0 (In-at xs j z (IsAt-get xs j z (b ∙ ap Some (sym e ∙ sym (some_is _ _ a))))))
one_place (z ∷ xs) (suc i) zero x y d a b e = absurd (d.0 (In-at xs i z (IsAt-get xs i z (a ∙ ap Some (e ∙ sym (some_is _ _ b))))))
one_place (z ∷ xs) (suc i) (suc j) x y d a b e = ap suc (one_place xs i j x y d.1 a b e)

mapped_at : {A B : Type 0} (f : A → B) (xs : List A) (i : ℕ) (x : A) → slice_get xs i ≡ Some x → slice_get (map f xs) i ≡ Some (f x)
mapped_at f [] i x h = absurd (none_not _ h)
mapped_at f (y ∷ xs) zero x h = ap (λ z. Some (f z)) (some_is _ _ h)
mapped_at f (y ∷ xs) (suc i) x h = mapped_at f xs i x h

-- the names of all steps, each once, are as many as the steps
pub one_each : (rs : List Record) (names : List StepId) → Distinct (map name rs) → NamesEach name rs names → length names ≡ length rs
one_each rs names distinct each =
    let less = as_long names (map name rs) each.once (λ n i. (each.all n).1 i) in
    let more = as_long (map name rs) names distinct (λ n i. (each.all n).0 i) in
    let count = length-map rs name in
    omega (arith, less, more, count)

-- so are those of an order in which two steps change places
pub as_many : (rs : List Record) (names : List StepId) (earlier later : ℕ) → Distinct (map name rs) → BreaksAt rs names earlier later
    → length names ≡ length rs
as_many rs names earlier later distinct breaks =
    let less = as_long breaks.order rs breaks.steps.once (λ r i. (breaks.steps.all r).1 i) in
    let more = as_long rs breaks.order (Distinct-by_name name rs distinct) (λ r i. (breaks.steps.all r).0 i) in
    let count = length-map breaks.order name in
    let named = ap length breaks.named in
    omega (arith, less, more, count, named)

module _ (rs : List Record) (names : List StepId) (from to : List ℕ) (distinct : Distinct (map name rs)) (m : AreMoves rs names from to) where
  abbrev order : List Record
  order = elements_at from rs

  within : AreBelow (length rs) from
  within i w = let a = (m.inverse.goes i w).0 in let n = m.places in omega (arith, a, n)

  at_order : (i : ℕ) → i < length from → slice_get order i ≡ slice_get rs (place_at from i)
  at_order i w = element_at from rs within i w

  count_order : length order ≡ length from
  count_order = as_many_at from rs within

  -- where an element of the log stands in the order
  from_log : (p : ℕ) (x : Record) → slice_get rs p ≡ Some x → slice_get order (place_at to p) ≡ Some x
  from_log p x h =
      let below = slice_get_within rs p x h in
      let n = m.places in
      let c = m.inverse.comes p (omega (arith, below, n)) in
      at_order (place_at to p) c.0 ∙ ap (slice_get rs) c.1 ∙ h

  pub once : Distinct rs
  once = Distinct-by_name name rs distinct

  from_order : (i : ℕ) (p : ℕ) (x : Record) → slice_get order i ≡ Some x → slice_get rs p ≡ Some x → i ≡ place_at to p
  from_order i p x h k =
      let below = slice_get_within order i x h in
      let n = count_order in
      let w : i < length from = omega (arith, below, n) in
      let same = one_place rs (place_at from i) p x x once (sym (at_order i w) ∙ h) k refl in
      sym (m.inverse.goes i w).1 ∙ ap (place_at to) same

  pub rearranged : Rearranges rs order
  rearranged = record {
    once = distinct_by_places order (λ i j x l a b.
        let below = slice_get_within order i x a in
        let n = count_order in
        let w : i < length from = omega (arith, below, n) in
        let at = sym (at_order i w) ∙ a in
        let e : i ≡ j = from_order i (place_at from i) x a at ∙ sym (from_order j (place_at from i) x b at) in
        omega (arith, l, e));
    all = λ x. (
      λ h. let w = place_of rs x h in In-at order (place_at to w.0) x (IsAt-get order _ x (from_log w.0 x (get-IsAt rs w.0 x w.1))),
      λ h. let w = place_of order x h in
          let at = get-IsAt order w.0 x w.1 in
          let below = slice_get_within order w.0 x at in
          let n = count_order in
          In-at rs (place_at from w.0) x (IsAt-get rs _ x (sym (at_order w.0 (omega (arith, below, n))) ∙ at)),
    );
  }

  -- what stands at lower places of the log, and of the order
  in_log : (p q : ℕ) (x y : Record) → slice_get rs p ≡ Some x → slice_get rs q ≡ Some y → p < q → Before rs x y
  in_log p q x y a b l = Before-at rs p q x y (IsAt-get rs p x a) (IsAt-get rs q y b) l

  in_order : (p q : ℕ) (x y : Record) → slice_get rs p ≡ Some x → slice_get rs q ≡ Some y → place_at to q < place_at to p → Before order y x
  in_order p q x y a b l = Before-at order (place_at to q) (place_at to p) y x (IsAt-get order _ y (from_log q y b)) (IsAt-get order _ x (from_log p x a)) l

  to_change : (p q : ℕ) (t : AreTurned rs to p q) → ChangePlaces conflict_of rs order t.first t.second
  to_change p q t = record {
    earlier = in_log p q t.first t.second t.first_at t.second_at t.in_log;
    conflicts = t.conflicts;
    turned = in_order p q t.first t.second t.first_at t.second_at t.turned;
  }

  of_change : (x y : Record) → ChangePlaces conflict_of rs order x y → (p : ℕ) × (q : ℕ) × (slice_get rs p ≡ Some x) × (slice_get rs q ≡ Some y) × AreTurned rs to p q
  of_change x y c =
      let w = places_of rs x y c.earlier in
      let v = places_of order y x c.turned in
      let at_x = get-IsAt rs w.0 x w.3 in
      let at_y = get-IsAt rs w.1 y w.4 in
      let e = from_order v.0 w.1 y (get-IsAt order v.0 y v.3) at_y in
      let f = from_order v.1 w.0 x (get-IsAt order v.1 x v.4) at_x in
      let l = v.2 in (
        w.0,
        w.1,
        at_x,
        at_y,
        record {
          first = x;
          second = y;
          first_at = at_x;
          second_at = at_y;
          in_log = w.2;
          conflicts = c.conflicts;
          turned = omega (arith, e, f, l);
        },
      )

  pub keeps : ((p q : ℕ) → AreTurned rs to p q → ⊥) → IsOrder conflict_of rs order
  keeps none = record {
    steps = rearranged;
    keeps = λ a b h c.
        let i = (rearranged.all a).0 (Before-left rs a b h) in
        let j = (rearranged.all b).0 (Before-right rs a b h) in
        elim (either order a b i j) [
          | inl e ↦ absurd (let w = places_of rs a b h in let l = w.2 in let same = one_place rs w.0 w.1 a b once (get-IsAt rs w.0 a w.3) (get-IsAt rs w.1 b w.4) e in omega (arith, l, same))
          | inr k ↦ elim k [
            | inl before ↦ before
            | inr turned ↦ absurd (let w = of_change a b (record { earlier = h; conflicts = c; turned = turned }) in none w.0 w.1 w.4)
          ]
        ];
  }

  pub first_changes : (p q : ℕ) → (t : AreFirstTurned rs to p q) → FirstToChange conflict_of rs order t.are.first t.are.second
  first_changes p q t = record {
    change = to_change p q t.are;
    first_in_order = λ a b c.
        let w = of_change a b c in
        let least = t.first_in_order w.0 w.1 w.4 in
        by b w.1 w.3 least (nat_cases (place_at to q) (place_at to w.1) least);
    first_in_log = λ a c.
        let w = of_change a t.are.second c in
        let same : w.1 ≡ q = one_place rs w.1 q t.are.second t.are.second once w.3 t.are.second_at refl in
        let least = t.first_in_log w.0 (subst (AreTurned rs to w.0) same w.4) in
        elim (nat_cases p w.0 least) [
          | inl e ↦ inl (some_is a t.are.first (sym w.2 ∙ ap (slice_get rs) (sym e) ∙ t.are.first_at))
          | inr l ↦ inr (in_log p w.0 t.are.first a t.are.first_at w.2 l)
        ];
  }
    where
      nat_cases : (m n : ℕ) → m ≤ n → (m ≡ n) ⊎ (m < n)
      nat_cases zero zero l = inl refl
      nat_cases zero (suc n) l = inr (omega arith)
      nat_cases (suc m) zero l = absurd (omega arith)
      nat_cases (suc m) (suc n) l = elim (nat_cases m n (omega arith)) [ inl e ↦ inl (ap suc e) | inr h ↦ inr (omega (arith, h)) ]

      by : (b : Record) (k : ℕ) → slice_get rs k ≡ Some b → place_at to q ≤ place_at to k → (place_at to q ≡ place_at to k) ⊎ (place_at to q < place_at to k)
          → (b ≡ t.are.second) ⊎ Before order t.are.second b
      by b k at least (inl e) =
          inl (some_is b t.are.second (sym (from_log k b at) ∙ ap (slice_get order) (sym e) ∙ from_log q t.are.second t.are.second_at))
      by b k at least (inr l) = inr (in_order k q b t.are.second at t.are.second_at l)

-- the names in their order
pub names_in_order : (rs : List Record) (names : List StepId) (from : List ℕ) → length from ≡ length names
    → ((i : ℕ) (id : StepId) → slice_get names i ≡ Some id → IsNamed rs (place_at from i) id) → map name (elements_at from rs) ≡ names
names_in_order rs [] [] n h = refl
names_in_order rs [] (p ∷ from) n h = absurd (omega arith)
names_in_order rs (id ∷ names) [] n h = absurd (omega arith)
names_in_order rs (id ∷ names) (p ∷ from) n h =
    let first = h 0 id refl in
    ap (map name) (one_more_at p from rs first.step first.there)
    ∙ ap₂ (λ a l. a ∷ l) first.named (names_in_order rs names from (omega arith) (λ i x at. h (suc i) x at))

pub breaks_at : (rs : List Record) (names : List StepId) (from to : List ℕ) → Distinct (map name rs) → AreMoves rs names from to
    → (p q : ℕ) → AreFirstTurned rs to p q → BreaksAt rs names p q
breaks_at rs names from to distinct m p q t = record {
  order = elements_at from rs;
  steps = rearranged rs names from to distinct m;
  named = names_in_order rs names from m.count m.named;
  first = t.are.first;
  second = t.are.second;
  first_at = t.are.first_at;
  second_at = t.are.second_at;
  change = first_changes rs names from to distinct m p q t;
}

-- while the moves into the order of names are found, those of the names up to a number
pub record AreFound (rs : List Record) (names : List StepId) (i : ℕ) (from to : List ℕ) : Type 0 where
  pub count : length from ≡ length names
  pub places : length to ≡ length rs
  pub named : (j : ℕ) (id : StepId) → j < i → slice_get names j ≡ Some id → IsNamed rs (place_at from j) id
  pub goes : (j : ℕ) → j < i → place_at to (place_at from j) ≡ j
  pub comes : (p : ℕ) → p < length rs → place_at to p < length names → (place_at to p < i) × (place_at from (place_at to p) ≡ p)

pub found_none : (rs : List Record) (names : List StepId) (from to : List ℕ) → length from ≡ length names → to ≡ replicate (length rs) (length names)
    → AreFound rs names 0 from to
found_none rs names from to count is = record {
  count = count;
  places = ap length is ∙ length-replicate (length rs) (length names);
  named = λ j id w. absurd (omega arith);
  goes = λ j w. absurd (omega arith);
  comes = λ p w below.
      let unset : place_at to p ≡ length names = ap (λ l. place_at l p) is ∙ get_or-replicate (length rs) p (length names) 0 w in
      absurd (omega (arith, below, unset));
}

pub named_place : (rs : List Record) (p : ℕ) (id : StepId) → IsNamed rs p id → p < length rs
named_place rs p id n = slice_get_within rs p n.step n.there

-- one place has one name
pub one_name : (rs : List Record) (p : ℕ) (a b : StepId) → IsNamed rs p a → IsNamed rs p b → a ≡ b
one_name rs p a b m n = sym m.named ∙ ap name (some_is m.step n.step (sym m.there ∙ n.there)) ∙ n.named

-- one name has one place
one_named : (rs : List Record) (p q : ℕ) (id : StepId) → Distinct (map name rs) → IsNamed rs p id → IsNamed rs q id → p ≡ q
one_named rs p q id d m n =
    one_place (map name rs) p q (name m.step) (name n.step) d (mapped_at name rs p m.step m.there) (mapped_at name rs q n.step n.there) (m.named ∙ sym n.named)

module _ (rs : List Record) (names : List StepId) (i : ℕ) (from to : List ℕ) (found : AreFound rs names i from to) where
  pub found_next : (place : ℕ) (id : StepId) → slice_get names i ≡ Some id → IsNamed rs place id → length names ≤ place_at to place
      → AreFound rs names (i + 1) (set from i place) (set to place i)
  found_next place id at named unset =
      let below = slice_get_within names i id at in
      let count = found.count in
      let places = found.places in
      let inside = named_place rs place id named in
      let at_i : place_at (set from i place) i ≡ place = get_or-set_same from i place 0 (omega (arith, below, count)) in
      let at_place : place_at (set to place i) place ≡ i = get_or-set_same to place i 0 (omega (arith, inside, places)) in
      record {
        count = length-set from i place ∙ count;
        places = length-set to place i ∙ places;
        named = λ j x w there. elim (before j w) [
          | inl l ↦ subst (λ p. IsNamed rs p x) (sym (kept j l)) (found.named j x l there)
          | inr e ↦ subst (λ p. IsNamed rs p x) (sym (ap (place_at (set from i place)) e ∙ at_i))
              (subst (IsNamed rs place) (some_is id x (sym at ∙ ap (slice_get names) (sym e) ∙ there)) named)
        ];
        goes = λ j w. elim (before j w) [
          | inl l ↦ ap (place_at (set to place i)) (kept j l)
              ∙ get_or-set_other to place (place_at from j) i 0 (λ e. let g = sym (ap (place_at to) e) ∙ found.goes j l in omega (arith, g, unset, l, below))
              ∙ found.goes j l
          | inr e ↦ ap (place_at (set to place i)) (ap (place_at (set from i place)) e ∙ at_i) ∙ at_place ∙ sym e
        ];
        comes = λ p w l. elim (cases_Bool (p == place)) [
          | inl t ↦
              let e = eqb-true p place t in
              let at_p : place_at (set to place i) p ≡ i = ap (place_at (set to place i)) e ∙ at_place in
              (omega (arith, at_p), ap (place_at (set from i place)) at_p ∙ at_i ∙ sym e)
          | inr f ↦
              let as_before : place_at (set to place i) p ≡ place_at to p = get_or-set_other to place p i 0 (λ e. let t = eq-eqb p place e in cc) in
              let c = found.comes p w (omega (arith, l, as_before)) in
              let less = c.0 in
              (omega (arith, as_before, less), ap (place_at (set from i place)) as_before ∙ kept (place_at to p) less ∙ c.1)
        ];
      }
    where
      before : (j : ℕ) → j < i + 1 → (j < i) ⊎ (j ≡ i)
      before j w = elim (cases_Bool (j == i)) [
        | inl t ↦ inr (eqb-true j i t)
        | inr f ↦ inl (let no : j ≢ i = λ e. (let t = eq-eqb j i e in cc) in omega (arith, w, no))
      ]

      kept : (j : ℕ) → j < i → place_at (set from i place) j ≡ place_at from j
      kept j l = get_or-set_other from i j place 0 (λ e. omega (arith, e, l))

  -- names that are not those of the steps, each once
  pub named_twice : (place : ℕ) (id : StepId) → i < length names → slice_get names i ≡ Some id → IsNamed rs place id → place_at to place < length names → NamesEach name rs names → ⊥
  named_twice place id below at named set_before each =
      let c = found.comes place (named_place rs place id named) set_before in
      let less = c.0 in
      let other = there names (place_at to place) (omega (arith, less, below)) in
      let same = one_name rs place other.0 id (subst (λ p. IsNamed rs p other.0) c.1 (found.named (place_at to place) other.0 less other.1)) named in
      let e = one_place names (place_at to place) i other.0 id each.once other.1 at same in
      omega (arith, e, less)

  pub all_found : Distinct (map name rs) → i ≡ length names → ((p : ℕ) → p < length rs → place_at to p < length names) → AreMoves rs names from to
  all_found d end all = record {
    count = found.count;
    places = found.places;
    named = λ j id at. let below = slice_get_within names j id at in found.named j id (omega (arith, below, end)) at;
    inverse = record {
      goes = λ j w.
          let count = found.count in
          let places = found.places in
          let l : j < i = omega (arith, w, count, end) in
          let id = there names j (omega (arith, w, count)) in
          let inside = named_place rs (place_at from j) id.0 (found.named j id.0 l id.1) in
          (omega (arith, inside, places), found.goes j l);
      comes = λ p w.
          let count = found.count in
          let places = found.places in
          let below = all p (omega (arith, w, places)) in
          (omega (arith, below, count), (found.comes p (omega (arith, w, places)) below).1);
    };
  }

  pub not_all_found : Distinct (map name rs) → i ≡ length names → (p : ℕ) → p < length rs → length names ≤ place_at to p → NamesEach name rs names → ⊥
  not_all_found d end p w unset each =
      let r = there rs p w in
      let k = place_of names (name r.0) ((each.all (name r.0)).0 (In-map name r.0 rs (In-at rs p r.0 (IsAt-get rs p r.0 r.1)))) in
      let at = get-IsAt names k.0 (name r.0) k.1 in
      let below = slice_get_within names k.0 (name r.0) at in
      let l : k.0 < i = omega (arith, below, end) in
      let same = one_named rs (place_at from k.0) p (name r.0) d (found.named k.0 (name r.0) l at) (record { step = r.0; there = r.1; named = refl }) in
      let g = sym (ap (place_at to) same) ∙ found.goes k.0 l in
      omega (arith, g, unset, below)

-- a name that no step has is none of the names of the steps
pub no_such_step : (rs : List Record) (names : List StepId) (i : ℕ) (id : StepId) → slice_get names i ≡ Some id → ((p : ℕ) → IsNamed rs p id → ⊥) → NamesEach name rs names → ⊥
no_such_step rs names i id at none each =
    let w = In-of_map name id rs ((each.all id).1 (In-at names i id (IsAt-get names i id at))) in
    let p = place_of rs w.0 w.1 in
    none p.0 (record { step = w.0; there = get-IsAt rs p.0 w.0 p.1; named = sym w.2 })

-- with moves into their order the names are those of the steps
pub moved_each : (rs : List Record) (names : List StepId) (from to : List ℕ) → Distinct (map name rs) → AreMoves rs names from to → NamesEach name rs names
moved_each rs names from to d m = record {
  once = distinct_by_places names (λ i j id l a b.
      let count = m.count in
      let below = slice_get_within names j id b in
      let same = one_named rs (place_at from i) (place_at from j) id d (m.named i id a) (m.named j id b) in
      let e = sym (m.inverse.goes i (omega (arith, l, below, count))).1 ∙ ap (place_at to) same ∙ (m.inverse.goes j (omega (arith, below, count))).1 in
      omega (arith, e, l));
  all = λ n. (
    λ h. let w = In-of_map name n rs h in
        let p = place_of rs w.0 w.1 in
        let at = get-IsAt rs p.0 w.0 p.1 in
        let inside = slice_get_within rs p.0 w.0 at in
        let places = m.places in
        let count = m.count in
        let c = m.inverse.comes p.0 (omega (arith, inside, places)) in
        let less = c.0 in
        let id = there names (place_at to p.0) (omega (arith, less, count)) in
        let same = one_name rs p.0 id.0 (name w.0) (subst (λ q. IsNamed rs q id.0) c.1 (m.named (place_at to p.0) id.0 id.1)) (record { step = w.0; there = at; named = refl }) in
        In-at names (place_at to p.0) n (IsAt-get names _ n (id.1 ∙ ap Some (same ∙ sym w.2))),
    λ h. let k = place_of names n h in
        let named = m.named k.0 n (get-IsAt names k.0 n k.1) in
        subst (λ x. In x (map name rs)) named.named (In-map name named.step rs (In-at rs _ named.step (IsAt-get rs _ named.step named.there))),
  );
}

pub refuted : {P : Type 0} → (P → ⊥) → IsTrue false ↔ P
refuted never = (λ t. absurd (let e : false ≡ true = t in cc), λ p. absurd (never p))

module _ (rs : List Record) (names : List StepId) (i : ℕ) (from to : List ℕ) (found : AreFound rs names i from to) (d : Distinct (map name rs))
    (no_more : i ≤ length names) (no_less : length names ≤ i) where
  pub all_below : AreBelow (length names) to → AreMoves rs names from to
  all_below all = all_found rs names i from to found d (omega (arith, no_more, no_less)) (λ p w. all p (let places = found.places in omega (arith, w, places)))

  pub told : (b : Bool) → IsTrue b ↔ AreBelow (length names) to → IsTrue b ↔ NamesEach name rs names
  told b is = (
    λ t. moved_each rs names from to d (all_below (is.0 t)),
    λ each. is.1 (λ p w. elim (cases_Bool (nat_lt (place_at to p) (length names))) [
      | inl l ↦ ltb-true (place_at to p) (length names) l
      | inr f ↦ absurd (not_all_found rs names i from to found d (omega (arith, no_more, no_less)) p (let places = found.places in omega (arith, w, places))
          (let no : place_at to p < length names → ⊥ = λ l. (let t = lt-ltb (place_at to p) (length names) l in cc) in omega (arith, no)) each)
    ]),
  )

-- steps that are turned round, found one after the other
pub least_of : (n : ℕ) (P : ℕ → Type 0) → ((p : ℕ) → p < n → P p → ⊥) → (p : ℕ) → P p → n ≤ p
least_of n P none p h = let no : p < n → ⊥ = λ l. none p l h in omega (arith, no)

pub one_more_not : (n : ℕ) (P : ℕ → Type 0) → ((p : ℕ) → p < n → P p → ⊥) → (P n → ⊥) → (p : ℕ) → p < n + 1 → P p → ⊥
one_more_not n P none last p w h = elim (cases_Bool (p == n)) [
  | inl t ↦ last (subst P (eqb-true p n t) h)
  | inr f ↦ none p (let no : p ≢ n = λ e. (let t = eq-eqb p n e in cc) in omega (arith, w, no)) h
]

module _ (rs : List Record) (to : List ℕ) (p q : ℕ) (b : Bool) where
  abbrev Tells : Type 0
  Tells = (x y : Record) → slice_get rs p ≡ Some x → slice_get rs q ≡ Some y → b ≡ conflict_of x y

  pub turned_here : p < q → q < length rs → Tells → b ≡ true → place_at to q < place_at to p → AreTurned rs to p q
  turned_here l w tells so turned =
      let x = there rs p (omega (arith, l, w)) in
      let y = there rs q w in record {
        first = x.0;
        second = y.0;
        first_at = x.1;
        second_at = y.1;
        in_log = l;
        conflicts = sym (tells x.0 y.0 x.1 y.1) ∙ so;
        turned = turned;
      }

  pub not_turned : Tells → b ≡ false → AreTurned rs to p q → ⊥
  not_turned tells never t = let e : true ≡ false = sym t.conflicts ∙ sym (tells t.first t.second t.first_at t.second_at) ∙ never in cc

turned_within : (rs : List Record) (to : List ℕ) (p q : ℕ) → AreTurned rs to p q → q < length rs
turned_within rs to p q t = slice_get_within rs q t.second t.second_at

module _ (rs : List Record) (from to : List ℕ) where
  pub first_of_all : AreInverse from to → (place : ℕ) → place < length from → TurnedFrom place rs to → (earlier : ℕ) → AreTurned rs to earlier (place_at from place)
      → ((p : ℕ) → AreTurned rs to p (place_at from place) → earlier ≤ p) → AreFirstTurned rs to earlier (place_at from place)
  first_of_all inverse place w all earlier are least = record {
    are = are;
    first_in_order = λ p q t. let e = (inverse.goes place w).1 in let l = all p q t in omega (arith, e, l);
    first_in_log = least;
  }

  module _ (places : length to ≡ length rs) (inverse : AreInverse from to) where
    pub beyond_place : (place : ℕ) → TurnedFrom place rs to → ((p : ℕ) → AreTurned rs to p (place_at from place) → ⊥) → TurnedFrom (place + 1) rs to
    beyond_place place all none p q t =
        let l = all p q t in
        let w = turned_within rs to p q t in
        elim (cases_Bool (place_at to q == place)) [
          | inl e ↦ absurd (none p (subst (AreTurned rs to p) (sym (inverse.comes q (omega (arith, w, places))).1 ∙ ap (place_at from) (eqb-true (place_at to q) place e)) t))
          | inr f ↦ let no : place_at to q ≢ place = λ e. (let k = eq-eqb (place_at to q) place e in cc) in omega (arith, l, no)
        ]

    pub none_beyond : (place : ℕ) → length from ≤ place → TurnedFrom place rs to → (p q : ℕ) → AreTurned rs to p q → ⊥
    none_beyond place end all p q t =
        let l = all p q t in
        let w = turned_within rs to p q t in
        let c = (inverse.comes q (omega (arith, w, places))).0 in
        omega (arith, l, end, c)
