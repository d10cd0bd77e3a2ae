-- What marks choose, and how they are completed place by place.
use Rattle.std.proofs.Common.{◌≡◌, ◌<◌, ℕ, zero, suc, Bool, true, List, [], ◌∷◌, ◌++◌, length, drop, slice_get, Some, refl, sym, ap, ◌∙◌, append_assoc, append-nil, inl, inr, arith}
use Rattle.std.proofs.lemmas.Bool.{cases_Bool}
use Rattle.gr_causal.specs.Dependence.{hits, collect, left_by, dependents, kept, causes}
use Rattle.gr_record.specs.Back.{marked, unmarked}
use Rattle.gr_depend.specs.Marked.{marks_after, dependent_marks, cause_marks}

module _ {A : Type 0} (clash : A → A → Bool) where
  collect_marked : (ds rs : List A) → collect clash ds rs ≡ ds ++ marked (marks_after clash ds rs) rs
  collect_marked ds [] = sym (append-nil ds)
  collect_marked ds (r ∷ rs) = elim (cases_Bool (hits clash ds r)) [
    | inl t ↦ rw t (collect_marked (ds ++ r ∷ []) rs ∙ append_assoc ds (r ∷ []) (marked (marks_after clash (ds ++ r ∷ []) rs) rs))
    | inr f ↦ rw f (collect_marked ds rs)
  ]

  left_unmarked : (ds rs : List A) → left_by clash ds rs ≡ unmarked (marks_after clash ds rs) rs
  left_unmarked ds [] = refl
  left_unmarked ds (r ∷ rs) = elim (cases_Bool (hits clash ds r)) [
    | inl t ↦ rw t (left_unmarked (ds ++ r ∷ []) rs)
    | inr f ↦ rw f (ap (λ l. r ∷ l) (left_unmarked ds rs))
  ]

  pub dependents_marked : (rs : List A) (i : ℕ) → marked (dependent_marks clash rs i) (drop i rs) ≡ dependents clash rs i
  dependents_marked [] zero = refl
  dependents_marked [] (suc i) = refl
  dependents_marked (r ∷ rs) zero = sym (collect_marked (r ∷ []) rs)
  dependents_marked (r ∷ rs) (suc i) = dependents_marked rs i

  -- the first of them is set
  pub first_set : (rs : List A) (i : ℕ) → i < length rs → slice_get (dependent_marks clash rs i) 0 ≡ Some true
  first_set [] i within = absurd (omega (arith, within))
  first_set (r ∷ rs) zero within = refl
  first_set (r ∷ rs) (suc i) within = first_set rs i (omega (arith, within))

  pub kept_unmarked : (rs : List A) (i : ℕ) → unmarked (dependent_marks clash rs i) (drop i rs) ≡ drop i (kept clash rs i)
  kept_unmarked [] zero = refl
  kept_unmarked [] (suc i) = refl
  kept_unmarked (r ∷ rs) zero = sym (left_unmarked (r ∷ []) rs)
  kept_unmarked (r ∷ rs) (suc i) = kept_unmarked rs i

  none_marked : (rs : List A) → marked [] rs ≡ []
  none_marked [] = refl
  none_marked (r ∷ rs) = refl

  pub causes_marked : (rs : List A) (i : ℕ) → marked (cause_marks clash rs i) rs ≡ causes clash rs i
  causes_marked [] i = refl
  causes_marked (r ∷ rs) zero = ap (λ l. r ∷ l) (none_marked rs)
  causes_marked (r ∷ rs) (suc i) = elim (cases_Bool (hits clash (causes clash rs i) r)) [
    | inl t ↦ rw t (ap (λ l. r ∷ l) (causes_marked rs i))
    | inr f ↦ rw f (causes_marked rs i)
  ]
