-- Orders that are given by names: what is answered for lists whose items have their names and conflicts alike is the same.
use Rattle.std.proofs.Common.{◌≡◌, Bool, List, [], ◌∷◌, ◌++◌, map, find, Option, Some, None, option_map, option_and_then, refl, sym, ap₂, subst, inl, inr}
use Rattle.std.specs.Option.{option_map_or, option_or}
use Rattle.gr_causal.specs.OrderByNames.{Ordered, without, steps_named, first_before, first_change, ordered}
use Rattle.gr_causal.specs.OrderByNames.Ordered.{accepted, other_steps, broken}
use Rattle.gr_causal.proofs.ListLemmas.{true_or_false}

-- two lists of the same length, whose items are related place by place
abbrev pub Both : {A B : Type 0} → (A → B → Type 0) → List A → List B → Type 0
Both R [] [] = Unit {0}
Both R (x ∷ xs) (y ∷ ys) = R x y × Both R xs ys
Both R [] (y ∷ ys) = ⊥
Both R (x ∷ xs) [] = ⊥

pub both_push : {A B : Type 0} (R : A → B → Type 0) (xs : List A) (ys : List B) (x : A) (y : B) → Both R xs ys → R x y → Both R (xs ++ x ∷ []) (ys ++ y ∷ [])
both_push R [] [] x y both is = (is, tt)
both_push R (u ∷ xs) (v ∷ ys) x y both is = (both.0, both_push R xs ys x y both.1 is)
both_push R [] (v ∷ ys) x y both is = absurd both
both_push R (u ∷ xs) [] x y both is = absurd both

pub names_alike : {A B N : Type 0} (R : A → B → Type 0) (name : A → N) (named : B → N) → ((x : A) (y : B) → R x y → name x ≡ named y)
    → (xs : List A) (ys : List B) → Both R xs ys → map name xs ≡ map named ys
names_alike R name named names [] [] both = refl
names_alike R name named names (x ∷ xs) (y ∷ ys) both = ap₂ (λ n ns. n ∷ ns) (names x y both.0) (names_alike R name named names xs ys both.1)
names_alike R name named names [] (y ∷ ys) both = absurd both
names_alike R name named names (x ∷ xs) [] both = absurd both

abbrev Maybe : {A B : Type 0} → (A → B → Type 0) → Option A → Option B → Type 0
Maybe R (Some x) (Some y) = R x y
Maybe R None None = Unit {0}
Maybe R (Some x) None = ⊥
Maybe R None (Some y) = ⊥

abbrev pub Answers : {A B : Type 0} → (A → B → Type 0) → Ordered A → Ordered B → Type 0
Answers R (accepted M) (accepted N) = Both R M N
Answers R other_steps other_steps = Unit {0}
Answers R (broken x y) (broken u v) = R x u × R y v
Answers R (accepted M) other_steps = ⊥
Answers R (accepted M) (broken u v) = ⊥
Answers R other_steps (accepted N) = ⊥
Answers R other_steps (broken u v) = ⊥
Answers R (broken x y) (accepted N) = ⊥
Answers R (broken x y) other_steps = ⊥

-- related items have one name, and conflict alike
module _ {A B N : Type 0} (R : A → B → Type 0) (clash : A → A → Bool) (clashes : B → B → Bool) (name : A → N) (named : B → N) (same : N → N → Bool)
    (names : (x : A) (y : B) → R x y → name x ≡ named y) (conflicts : (x u : A) (y v : B) → R x y → R u v → clash x u ≡ clashes y v) where
  without_alike : (n : N) (L : List A) (K : List B) → Both R L K → Both R (without clash name same n L) (without clashes named same n K)
  without_alike n [] [] both = tt
  without_alike n (x ∷ L) (y ∷ K) both =
      let rest = without_alike n L K both.1 in
      rw (sym (names x y both.0)) (elim (true_or_false (same n (name x))) [ inl t ↦ rw t rest | inr f ↦ rw f (both.0, rest) ])
  without_alike n [] (y ∷ K) both = absurd both
  without_alike n (x ∷ L) [] both = absurd both

  find_alike : (n : N) (L : List A) (K : List B) → Both R L K → Maybe R (find (λ r. same n (name r)) L) (find (λ r. same n (named r)) K)
  find_alike n [] [] both = tt
  find_alike n (x ∷ L) (y ∷ K) both =
      let rest = find_alike n L K both.1 in
      rw (sym (names x y both.0)) (elim (true_or_false (same n (name x))) [ inl t ↦ rw t both.0 | inr f ↦ rw f rest ])
  find_alike n [] (y ∷ K) both = absurd both
  find_alike n (x ∷ L) [] both = absurd both

  first_before_alike : (x : A) (y : B) → R x y → (L : List A) (K : List B) → Both R L K → Maybe R (first_before clash name same x L) (first_before clashes named same y K)
  first_before_alike x y is [] [] both = tt
  first_before_alike x y is (u ∷ L) (v ∷ K) both =
      let rest = first_before_alike x y is L K both.1 in
      rw (sym (names x y is), sym (names u v both.0), sym (conflicts u x v y both.0 is))
      (elim (true_or_false (same (name x) (name u))) [
        | inl t ↦ rw t tt
        | inr f ↦ rw f (elim (true_or_false (clash u x)) [ inl c ↦ rw c both.0 | inr c ↦ rw c rest ])
      ])
  first_before_alike x y is [] (v ∷ K) both = absurd both
  first_before_alike x y is (u ∷ L) [] both = absurd both

  in_front : (x : A) (y : B) → R x y → (o : Option (List A)) (q : Option (List B)) → Maybe (Both R) o q → Maybe (Both R) (option_map (λ xs. x ∷ xs) o) (option_map (λ ys. y ∷ ys) q)
  in_front x y is None None both = tt
  in_front x y is (Some xs) (Some ys) both = (is, both)
  in_front x y is None (Some ys) both = absurd both
  in_front x y is (Some xs) None both = absurd both

  steps_alike : (ns : List N) (L : List A) (K : List B) → Both R L K → Maybe (Both R) (steps_named clash name same ns L) (steps_named clashes named same ns K)
  steps_alike [] [] [] both = tt
  steps_alike [] (x ∷ L) (y ∷ K) both = tt
  steps_alike [] [] (y ∷ K) both = absurd both
  steps_alike [] (x ∷ L) [] both = absurd both
  steps_alike (n ∷ ns) L K both =
      by_first (find (λ r. same n (name r)) L) (find (λ r. same n (named r)) K) (find_alike n L K both)
      (steps_named clash name same ns (without clash name same n L)) (steps_named clashes named same ns (without clashes named same n K))
      (steps_alike ns (without clash name same n L) (without clashes named same n K) (without_alike n L K both))
    where
      by_first : (f : Option A) (g : Option B) → Maybe R f g → (o : Option (List A)) (q : Option (List B)) → Maybe (Both R) o q
          → Maybe (Both R) (option_and_then (λ x. option_map (λ xs. x ∷ xs) o) f) (option_and_then (λ y. option_map (λ ys. y ∷ ys) q) g)
      by_first None None is o q rest = tt
      by_first (Some x) (Some y) is o q rest = in_front x y is o q rest
      by_first None (Some y) is o q rest = absurd is
      by_first (Some x) None is o q rest = absurd is

  abbrev Pair : A × A → B × B → Type 0
  Pair x y = R x.0 y.0 × R x.1 y.1

  changes_alike : (L : List A) (K : List B) → Both R L K → (M : List A) (P : List B) → Both R M P
      → Maybe Pair (first_change clash name same L M) (first_change clashes named same K P)
  changes_alike L K both [] [] order = tt
  changes_alike L K both (x ∷ M) (y ∷ P) order =
      by_first (first_before clash name same x L) (first_before clashes named same y K) (first_before_alike x y order.0 L K both)
      (first_change clash name same (without clash name same (name x) L) M) (first_change clashes named same (without clashes named same (named y) K) P)
      (changes_alike (without clash name same (name x) L) (without clashes named same (named y) K)
      (subst (λ n. Both R (without clash name same (name x) L) (without clashes named same n K)) (names x y order.0) (without_alike (name x) L K both)) M P order.1)
    where
      by_first : (f : Option A) (g : Option B) → Maybe R f g → (o : Option (A × A)) (q : Option (B × B)) → Maybe Pair o q
          → Maybe Pair (option_or (option_map (λ u. (u, x)) f) o) (option_or (option_map (λ v. (v, y)) g) q)
      by_first None None is o q rest = rest
      by_first (Some u) (Some v) is o q rest = (is, order.0)
      by_first None (Some v) is o q rest = absurd is
      by_first (Some u) None is o q rest = absurd is
  changes_alike L K both [] (y ∷ P) order = absurd order
  changes_alike L K both (x ∷ M) [] order = absurd order

  pub orders_alike : (ns : List N) (L : List A) (K : List B) → Both R L K → Answers R (ordered clash name same ns L) (ordered clashes named same ns K)
  orders_alike ns L K both = by_steps (steps_named clash name same ns L) (steps_named clashes named same ns K) (steps_alike ns L K both)
    where
      by_change : (M : List A) (P : List B) → Both R M P → (o : Option (A × A)) (q : Option (B × B)) → Maybe Pair o q
          → Answers R (option_map_or (λ p. broken p.0 p.1) o (accepted M)) (option_map_or (λ p. broken p.0 p.1) q (accepted P))
      by_change M P order None None is = order
      by_change M P order (Some x) (Some y) is = is
      by_change M P order None (Some y) is = absurd is
      by_change M P order (Some x) None is = absurd is

      by_steps : (o : Option (List A)) (q : Option (List B)) → Maybe (Both R) o q
          → Answers R (option_map_or (λ M. option_map_or (λ p. broken p.0 p.1) (first_change clash name same L M) (accepted M)) o other_steps)
          (option_map_or (λ M. option_map_or (λ p. broken p.0 p.1) (first_change clashes named same K M) (accepted M)) q other_steps)
      by_steps None None is = tt
      by_steps (Some M) (Some P) is = by_change M P is (first_change clash name same L M) (first_change clashes named same K P) (changes_alike L K both M P is)
      by_steps None (Some P) is = absurd is
      by_steps (Some M) None is = absurd is
