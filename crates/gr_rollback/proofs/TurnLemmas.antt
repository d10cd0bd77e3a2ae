-- Whose turn it is, by the names in a pool.
use Rattle.std.proofs.Common.{◌≡◌, ℕ, suc, ◌<◌, Bool, true, false, ◌||◌, List, [], ◌∷◌, ◌++◌, length, Option, Some, None, inl, inr, refl, sym, ap, subst, ◌∙◌, arith}
use Rattle.std.specs.Prelude.{slice_get, slice_index_or}
use Rattle.std.specs.Ordering.{is_gt}
use Rattle.std.specs.declared.cmp.Ordering.{Ordering}
use Rattle.std.specs.declared.cmp.Ordering.TheVariants.{Less, Equal, Greater}
use Rattle.std.proofs.lemmas.Bool.{cases_Bool}
use Rattle.gr_base.specs.Names.{go_cmp}
use Rattle.gr_pool.specs.Goroutines.{is_among, IsInOrder, greater, next_name}
use Rattle.gr_pool.proofs.Order.{less_trans, greater_back, less_back, ties_itself}
use Rattle.gr_rules.specs.States.{State, same_go}
use Rattle.gr_rules.specs.Turns.{IsReady, IsFirst, IsLater, IsTurn}
use Rattle.gr_laws.proofs.CellLemmas.{go_is, go_self}
use Rattle.gr_rollback.proofs.Basics.{or_left, or_right, head_same}

no_less : {o : Ordering} → o ≡ Equal → o ≡ Less → ⊥
no_less e f = cc

-- a name does not come before itself
not_before : (h g : List ℕ) → h ≡ g → go_cmp h g ≡ Less → ⊥
not_before h g e less = no_less (ties_itself g) (ap (λ x. go_cmp x g) (sym e) ∙ less)

-- no name comes before one that comes before it
not_back : (h g : List ℕ) → go_cmp g h ≡ Less → go_cmp h g ≡ Less → ⊥
not_back h g later less = no_less (ties_itself h) (less_trans h g h less later)

one_of : (a b : Bool) → (a || b) ≡ true → a ≡ false → b ≡ true
one_of true b e f = cc
one_of false b e f = e

-- a name of a list is the first, or one of the rest
by_first : {A : Type 0} (h x : List ℕ) (xs : List (List ℕ)) → is_among h (x ∷ xs) ≡ true → (h ≡ x → A) → (is_among h xs ≡ true → A) → A
by_first h x xs among here there = elim (cases_Bool (same_go h x)) [
  | inl e ↦ here (go_is h x e)
  | inr e ↦ there (one_of (same_go h x) (is_among h xs) among e)
]

among_first : (x : List ℕ) (xs : List (List ℕ)) → is_among x (x ∷ xs) ≡ true
among_first x xs = or_left (same_go x x) (is_among x xs) (go_self x)

-- the rest of names in order, and that it comes after the first
rest_in_order : (x : List ℕ) (xs : List (List ℕ)) → IsInOrder (x ∷ xs) → IsInOrder xs
rest_in_order x xs order = λ i j d l w. order (suc i) (suc j) d (omega arith) (omega arith)

each_after : (x : List ℕ) (xs : List (List ℕ)) → ((k : ℕ) (d : List ℕ) → k < length xs → go_cmp x (slice_index_or xs k d) ≡ Less) → (h : List ℕ)
    → is_among h xs ≡ true → go_cmp x h ≡ Less
each_after x [] less h among = cc
each_after x (y ∷ ys) less h among = by_first h y ys among
    (λ e. ap (go_cmp x) e ∙ less 0 x (omega arith))
    (each_after x ys (λ k d w. less (suc k) d (omega arith)) h)

rest_after : (x : List ℕ) (xs : List (List ℕ)) → IsInOrder (x ∷ xs) → (h : List ℕ) → is_among h xs ≡ true → go_cmp x h ≡ Less
rest_after x xs order = each_after x xs (λ k d w. order 0 (suc k) d (omega arith) (omega arith))

-- no name of a list in order comes before its first
none_before : (x : List ℕ) (xs : List (List ℕ)) → IsInOrder (x ∷ xs) → (h : List ℕ) → is_among h (x ∷ xs) ≡ true → go_cmp h x ≡ Less → ⊥
none_before x xs order h among less = by_first h x xs among
    (λ e. not_before h x e less)
    (λ m. not_back h x (rest_after x xs order h m) less)

-- among these names, and after this one
pub record IsAfter (n : List ℕ) (xs : List (List ℕ)) (h : List ℕ) : Type 0 where
  pub among : is_among h xs ≡ true
  pub after : go_cmp n h ≡ Less

gt_is : (o : Ordering) → is_gt o ≡ true → o ≡ Greater
gt_is Less e = cc
gt_is Equal e = cc
gt_is Greater e = refl

-- one that is not greater is not after this one
not_after : (n x : List ℕ) → is_gt (go_cmp x n) ≡ false → go_cmp n x ≡ Less → ⊥
not_after n x e less = let t : is_gt (go_cmp x n) ≡ true = ap is_gt (less_back n x less) in let f : true ≡ false = sym t ∙ e in cc

-- where a first name is not after this one, those after it are among the rest
in_rest : (n x h : List ℕ) (xs : List (List ℕ)) → is_gt (go_cmp x n) ≡ false → IsAfter n (x ∷ xs) h → IsAfter n xs h
in_rest n x h xs e is = by_first h x xs is.among
    (λ same. absurd (not_after n x e (ap (go_cmp n) (sym same) ∙ is.after)))
    (λ m. record { among = m; after = is.after })

-- the first of the greater ones is the first after this one
first_greater : (n : List ℕ) (xs : List (List ℕ)) → IsInOrder xs → (g : List ℕ) (gs : List (List ℕ)) → greater n xs ≡ g ∷ gs → IsFirst (IsAfter n xs) g
first_greater n [] order g gs is = cc
first_greater n (x ∷ xs) order g gs is = elim (cases_Bool (is_gt (go_cmp x n))) [
  | inl e ↦ here e (head_same (rw e at is))
  | inr e ↦ later e (first_greater n xs (rest_in_order x xs order) g gs (rw e at is))
]
  where
    here : is_gt (go_cmp x n) ≡ true → x ≡ g → IsFirst (IsAfter n (x ∷ xs)) g
    here e same = subst (IsFirst (IsAfter n (x ∷ xs))) same (record {
      holds = record { among = among_first x xs; after = greater_back x n (gt_is (go_cmp x n) e) };
      first = λ h is less. none_before x xs order h is.among less;
    })

    later : is_gt (go_cmp x n) ≡ false → IsFirst (IsAfter n xs) g → IsFirst (IsAfter n (x ∷ xs)) g
    later e rest = record {
      holds = record { among = or_right (same_go g x) (is_among g xs) rest.holds.among; after = rest.holds.after };
      first = λ h is. rest.first h (in_rest n x h xs e is);
    }

none_greater : (n : List ℕ) (xs : List (List ℕ)) → greater n xs ≡ [] → (h : List ℕ) → IsAfter n xs h → ⊥
none_greater n [] none h is = let f : false ≡ true = is.among in cc
none_greater n (x ∷ xs) none h is = elim (cases_Bool (is_gt (go_cmp x n))) [
  | inl e ↦ let f : x ∷ greater n xs ≡ [] = rw e at none in cc
  | inr e ↦ none_greater n xs (rw e at none) h (in_rest n x h xs e is)
]

-- names in order, which are those of the ready goroutines
pub record AreReady (s : State) (xs : List (List ℕ)) : Type 0 where
  pub order : IsInOrder xs
  pub has : (h : List ℕ) → IsReady s h → is_among h xs ≡ true
  pub only : (h : List ℕ) → is_among h xs ≡ true → IsReady s h

module _ (s : State) (last : List ℕ) (xs : List (List ℕ)) (are : AreReady s xs) where
  later_in : (h : List ℕ) → IsLater s last h → IsAfter last xs h
  later_in h is = record { among = are.has h is.0; after = is.1 }

  by_all : (ys : List (List ℕ)) → xs ≡ ys → ((h : List ℕ) → IsLater s last h → ⊥) → IsTurn s (Some last) (slice_get ys 0)
  by_all [] is none = λ g up. let f : false ≡ true = ap (is_among g) (sym is) ∙ are.has g up in cc
  by_all (g ∷ gs) is none = inr (
    none,
    record {
      holds = are.only g (ap (is_among g) is ∙ among_first g gs);
      first = λ h up less. none_before g gs (subst IsInOrder is are.order) h (ap (is_among h) (sym is) ∙ are.has h up) less;
    },
  )

  by_greater : (ys : List (List ℕ)) → greater last xs ≡ ys → IsTurn s (Some last) (slice_get (ys ++ xs) 0)
  by_greater [] is = by_all xs refl (λ h later. none_greater last xs is h (later_in h later))
  by_greater (g ∷ gs) is =
      let first = first_greater last xs are.order g gs is in
      inl (record {
        holds = (are.only g first.holds.among, first.holds.after);
        first = λ h later. first.first h (later_in h later);
      })

  -- after a step it is the turn of the next name
  pub turn_after : IsTurn s (Some last) (next_name last xs)
  turn_after = by_greater (greater last xs) refl

-- before the first step it is that of the one goroutine that is ready
pub turn_first : (s : State) → ((h : List ℕ) → IsReady s h → h ≡ []) → (o : Option (List ℕ)) → IsTurn s (Some []) o → IsTurn s None o
turn_first s alone None none = none
turn_first s alone (Some g) (inl first) =
    absurd (not_before [] g (sym (alone g first.holds.0)) first.holds.1)
turn_first s alone (Some g) (inr (none, first)) = first
