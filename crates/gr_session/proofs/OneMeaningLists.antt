-- What fixes a place in a list, and the two parts of a list.
use Rattle.std.proofs.Common.{◌≡◌, ℕ, zero, suc, ◌+◌, List, [], ◌∷◌, ◌++◌, map, length, Some, refl, sym, ◌∙◌, ap, ap₂, subst, arith, slice_get}
use Rattle.std.proofs.lemmas.List.{length-append}
use Rattle.gr_causal.specs.Sequences.{In, Distinct}
use Rattle.gr_causal.proofs.ListLemmas.{some_is, none_not, cons_is, In-map}
use Rattle.gr_causal.proofs.PlaceLemmas.{In-at, IsAt-get}

module _ {A : Type 0} where
  -- parts at the beginning that are as long as each other are one, and so is what follows
  pub same_parts : (xs us ys vs : List A) → length xs ≡ length us → xs ++ ys ≡ us ++ vs → (xs ≡ us) × (ys ≡ vs)
  same_parts [] [] ys vs n e = (refl, e)
  same_parts [] (u ∷ us) ys vs n e = absurd (omega arith)
  same_parts (x ∷ xs) [] ys vs n e = absurd (omega arith)
  same_parts (x ∷ xs) (u ∷ us) ys vs n e =
      let first = cons_is x u (xs ++ ys) (us ++ vs) e in
      let rest = same_parts xs us ys vs (omega arith) first.1 in
      (ap₂ (λ a b. a ∷ b) first.0 rest.0, rest.1)

  -- parts at the end that are as long as each other are one
  pub same_ends : (xs us ys vs : List A) → length ys ≡ length vs → xs ++ ys ≡ us ++ vs → ys ≡ vs
  same_ends xs us ys vs n e =
      let whole : length xs + length ys ≡ length us + length vs = sym (length-append xs ys) ∙ ap length e ∙ length-append us vs in
      (same_parts xs us ys vs (omega arith) e).1

module _ {A N : Type 0} (name : A → N) where
  -- where no two have one name, a name stands at one place
  pub one_place : (xs : List A) → Distinct (map name xs) → (i j : ℕ) (x y : A) → slice_get xs i ≡ Some x → slice_get xs j ≡ Some y → name x ≡ name y → i ≡ j
  one_place [] d i j x y a b e = absurd (none_not _ a)
  one_place (z ∷ xs) d zero zero x y a b e = refl
  one_place (z ∷ xs) d zero (suc j) x y a b e =
      let here : name z ≡ name y = ap name (some_is z x a) ∙ e in
      absurd (d.0 (subst (λ n. In n (map name xs)) (sym here) (In-map name y xs (In-at xs j y (IsAt-get xs j y b)))))
  one_place (z ∷ xs) d (suc i) zero x y a b e =
      let here : name z ≡ name x = ap name (some_is z y b) ∙ sym e in
      absurd (d.0 (subst (λ n. In n (map name xs)) (sym here) (In-map name x xs (In-at xs i x (IsAt-get xs i x a)))))
  one_place (z ∷ xs) d (suc i) (suc j) x y a b e = ap suc (one_place xs d.1 i j x y a b e)
