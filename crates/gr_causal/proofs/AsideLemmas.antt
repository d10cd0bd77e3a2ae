-- The dependents of a step can be moved to the end by swaps, and what is kept stands in its old order.
use Rattle.std.proofs.Common.{◌≡◌, ℕ, zero, suc, Bool, false, List, [], ◌∷◌, ◌++◌, inl, inr, append_assoc, append-nil, sym, ap, length, get_or, take, drop, ◌+◌, ◌-◌, ◌<◌, arith, add-one}
use Rattle.std.proofs.lemmas.List.{take_rest}
use Rattle.gr_causal.specs.Sequences.{In, Before}
use Rattle.gr_causal.specs.Dependence.{hits, collect, left_by, dependents, kept}
use Rattle.gr_causal.specs.Orders.{Swaps}
use Rattle.gr_causal.specs.Orders.Swaps.{none, here, there, and}
use Rattle.gr_causal.proofs.ListLemmas.{or_false, true_or_false}

module _ {A : Type 0} (clash : A → A → Bool) where
  -- a step moves in front of steps that it does not conflict with
  in_front : (ds L : List A) (r : A) → hits clash ds r ≡ false → Swaps clash (ds ++ r ∷ L) (r ∷ (ds ++ L))
  in_front [] L r n = none
  in_front (d ∷ ds) L r n =
      let b = or_false (clash d r) (hits clash ds r) n in
      and (there (in_front ds L r b.1)) (here b.0)

  to_end : (ds L : List A) → Swaps clash (ds ++ L) (left_by clash ds L ++ collect clash ds L)
  to_end ds [] = rw append-nil none
  to_end ds (r ∷ L) = elim (true_or_false (hits clash ds r)) [
    | inl t ↦ rw t (let w = to_end (ds ++ r ∷ []) L in rw append_assoc at w)
    | inr f ↦ rw f (and (in_front ds L r f) (there (to_end ds L)))
  ]

  -- the dependents of a step can be moved to the end, by swaps of neighbours that do not conflict
  pub aside : (L : List A) (i : ℕ) → Swaps clash L (kept clash L i ++ dependents clash L i)
  aside [] i = none
  aside (r ∷ L) zero = to_end (r ∷ []) L
  aside (r ∷ L) (suc i) = there (aside L i)

  -- what is kept stands in its old order
  pub In-left_by : (ds L : List A) (a : A) → In a (left_by clash ds L) → In a L
  In-left_by ds [] a h = elim h [ ]
  In-left_by ds (r ∷ L) a h = elim (true_or_false (hits clash ds r)) [
    | inl t ↦ inr (In-left_by (ds ++ r ∷ []) L a (rw t at h))
    | inr f ↦ elim (let k : In a (r ∷ left_by clash ds L) = rw f at h in k) [ inl q ↦ inl q | inr k ↦ inr (In-left_by ds L a k) ]
  ]

  left_in_order : (ds L : List A) (a b : A) → Before (left_by clash ds L) a b → Before L a b
  left_in_order ds [] a b h = elim h [ ]
  left_in_order ds (r ∷ L) a b h = elim (true_or_false (hits clash ds r)) [
    | inl t ↦ inr (left_in_order (ds ++ r ∷ []) L a b (rw t at h))
    | inr f ↦ elim (let k : Before (r ∷ left_by clash ds L) a b = rw f at h in k) [ inl q ↦ inl (q.0, In-left_by ds L b q.1) | inr k ↦ inr (left_in_order ds L a b k) ]
  ]

  pub In-kept : (L : List A) (i : ℕ) (a : A) → In a (kept clash L i) → In a L
  In-kept [] i a h = h
  In-kept (r ∷ L) zero a h = inr (In-left_by (r ∷ []) L a h)
  In-kept (r ∷ L) (suc i) a (inl q) = inl q
  In-kept (r ∷ L) (suc i) a (inr h) = inr (In-kept L i a h)

  pub kept_in_order : (L : List A) (i : ℕ) (a b : A) → Before (kept clash L i) a b → Before L a b
  kept_in_order [] i a b h = h
  kept_in_order (r ∷ L) zero a b h = inr (left_in_order (r ∷ []) L a b h)
  kept_in_order (r ∷ L) (suc i) a b (inl h) = inl (h.0, In-kept L i b h.1)
  kept_in_order (r ∷ L) (suc i) a b (inr h) = inr (kept_in_order L i a b h)

  -- what stays and what goes, by what stands at the place
  pub kept_at : (L : List A) (i : ℕ) (x other : A) → i < length L → x ≡ get_or L i other → kept clash L i ≡ take i L ++ left_by clash (x ∷ []) (drop (suc i) L)
  kept_at [] i x other h e = absurd (omega arith)
  kept_at (r ∷ L) zero x other h e = ap (λ z. left_by clash (z ∷ []) L) (sym e)
  kept_at (r ∷ L) (suc i) x other h e = ap (λ l. r ∷ l) (kept_at L i x other (omega arith) e)

  pub dependents_at : (L : List A) (i : ℕ) (x other : A) → i < length L → x ≡ get_or L i other → dependents clash L i ≡ collect clash (x ∷ []) (drop (suc i) L)
  dependents_at [] i x other h e = absurd (omega arith)
  dependents_at (r ∷ L) zero x other h e = ap (λ z. collect clash (z ∷ []) L) (sym e)
  dependents_at (r ∷ L) (suc i) x other h e = dependents_at L i x other (omega arith) e

  -- where the pass after the place begins
  pub kept_start : (L : List A) (i : ℕ) (x other : A) (ks ds : List A) → i < length L → x ≡ get_or L i other → ks ≡ take i L → ds ≡ x ∷ [] → ks ++ left_by clash ds (take (length L - (i + 1)) (drop (i + 1) L)) ≡ kept clash L i
  kept_start L i x other ks ds h e k d = rw (k, d, take_rest L (i + 1), add-one) (sym (kept_at L i x other h e))

  pub dependents_start : (L : List A) (i : ℕ) (x other : A) (ds : List A) → i < length L → x ≡ get_or L i other → ds ≡ x ∷ [] → collect clash ds (take (length L - (i + 1)) (drop (i + 1) L)) ≡ dependents clash L i
  dependents_start L i x other ds h e d = rw (d, take_rest L (i + 1), add-one) (sym (dependents_at L i x other h e))
