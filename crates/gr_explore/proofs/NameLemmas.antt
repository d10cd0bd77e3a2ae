-- Lists in another order have the same elements.
use Rattle.std.proofs.Common.{◌≡◌, Bool, true, false, ◌||◌, List, [], ◌∷◌, sym, ◌∙◌, ap, inl, inr}
use Rattle.std.specs.List.{list_any}
use Rattle.std.specs.List.Sorted.{IsPermutation}
use Rattle.std.proofs.lemmas.Bool.{cases_Bool, or_left, or_right}
use Rattle.std.proofs.lemmas.List.Sorted.{list_any-IsPermutation}
use Rattle.gr_causal.specs.Sequences.{In}

module _ {A : Type 0} (same : A → A → Bool) (is : (a b : A) → same a b ≡ true → a ≡ b) (itself : (a : A) → same a a ≡ true) where
  in_any : (xs : List A) (x : A) → In x xs → list_any (same x) xs ≡ true
  in_any [] x i = absurd i
  in_any (y ∷ xs) x (inl e) = or_left (same x y) (list_any (same x) xs) (ap (same x) (sym e) ∙ itself x)
  in_any (y ∷ xs) x (inr i) = or_right (same x y) (list_any (same x) xs) (in_any xs x i)

  any_in : (xs : List A) (x : A) → list_any (same x) xs ≡ true → In x xs
  any_in [] x h = let e : false ≡ true = h in cc
  any_in (y ∷ xs) x h = elim (cases_Bool (same x y)) [
    | inl e ↦ inl (is x y e)
    | inr e ↦ inr (any_in xs x (sym (ap (λ b. b || list_any (same x) xs) e) ∙ h))
  ]

  pub in_other_order : (xs ys : List A) → IsPermutation xs ys → (x : A) → In x xs → In x ys
  in_other_order xs ys p x i = any_in ys x (sym (list_any-IsPermutation (same x) xs ys p) ∙ in_any xs x i)
