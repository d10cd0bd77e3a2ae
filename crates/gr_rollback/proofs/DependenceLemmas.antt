-- Dependents and causes in two lists whose items conflict alike.
use Rattle.std.proofs.Common.{◌≡◌, ℕ, zero, suc, Bool, ◌||◌, List, [], ◌∷◌, ◌++◌, refl, sym, ap₂, inl, inr}
use Rattle.gr_causal.specs.Dependence.{hits, collect, dependents, causes}
use Rattle.gr_causal.proofs.ListLemmas.{true_or_false}
use Rattle.gr_rollback.proofs.OrderByNamesLemmas.{Both, both_push}

module _ {A B : Type 0} (R : A → B → Type 0) (c : A → A → Bool) (d : B → B → Bool) (conflicts : (x u : A) (y v : B) → R x y → R u v → c x u ≡ d y v) where
  hits_alike : (ds : List A) (es : List B) (r : A) (q : B) → Both R ds es → R r q → hits c ds r ≡ hits d es q
  hits_alike [] [] r q both is = refl
  hits_alike (x ∷ ds) (y ∷ es) r q both is = ap₂ (λ (a b : Bool). a || b) (conflicts x r y q both.0 is) (hits_alike ds es r q both.1 is)
  hits_alike [] (y ∷ es) r q both is = absurd both
  hits_alike (x ∷ ds) [] r q both is = absurd both

  collect_alike : (ds L : List A) (es K : List B) → Both R ds es → Both R L K → Both R (collect c ds L) (collect d es K)
  collect_alike ds [] es [] found both = found
  collect_alike ds (r ∷ L) es (q ∷ K) found both =
      rw (sym (hits_alike ds es r q found both.0)) (elim (true_or_false (hits c ds r)) [
        | inl t ↦ rw t (collect_alike (ds ++ r ∷ []) L (es ++ q ∷ []) K (both_push R ds es r q found both.0) both.1)
        | inr f ↦ rw f (collect_alike ds L es K found both.1)
      ])
  collect_alike ds [] es (q ∷ K) found both = absurd both
  collect_alike ds (r ∷ L) es [] found both = absurd both

  -- the dependents of a place are alike
  pub dependents_alike : (L : List A) (K : List B) (i : ℕ) → Both R L K → Both R (dependents c L i) (dependents d K i)
  dependents_alike [] [] i both = tt
  dependents_alike (r ∷ L) (q ∷ K) zero both = collect_alike (r ∷ []) L (q ∷ []) K (both.0, tt) both.1
  dependents_alike (r ∷ L) (q ∷ K) (suc i) both = dependents_alike L K i both.1
  dependents_alike [] (q ∷ K) i both = absurd both
  dependents_alike (r ∷ L) [] i both = absurd both

  -- the causes of a place are alike
  pub causes_alike : (L : List A) (K : List B) (i : ℕ) → Both R L K → Both R (causes c L i) (causes d K i)
  causes_alike [] [] i both = tt
  causes_alike (r ∷ L) (q ∷ K) zero both = (both.0, tt)
  causes_alike (r ∷ L) (q ∷ K) (suc i) both =
      let rest = causes_alike L K i both.1 in
      rw (sym (hits_alike (causes c L i) (causes d K i) r q rest both.0)) (elim (true_or_false (hits c (causes c L i) r)) [
        | inl t ↦ rw t (both.0, rest)
        | inr f ↦ rw f rest
      ])
  causes_alike [] (q ∷ K) i both = absurd both
  causes_alike (r ∷ L) [] i both = absurd both
