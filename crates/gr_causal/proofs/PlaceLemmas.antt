-- Places of elements in a list, and std's words for membership.
use Rattle.std.proofs.Common.{◌≡◌, ℕ, zero, suc, ◌<◌, Bool, ◌||◌, true, false, List, [], ◌∷◌, ◌++◌, Some, refl, sym, ◌∙◌, ap, ap₂, inl, inr, arith, slice_get, length, Contains, slice_index_or}
use Rattle.std.specs.List.{list_any}
use Rattle.gr_causal.specs.Sequences.{In, Before, IsAt}
use Rattle.gr_causal.specs.Machine.{meets}
use Rattle.gr_causal.proofs.ListLemmas.{some_is, none_not}

module _ {A : Type 0} where
  pub In-at : (L : List A) (i : ℕ) (x : A) → IsAt L i x → In x L
  In-at [] i x h = elim h [ ]
  In-at (y ∷ L) zero x h = inl h
  In-at (y ∷ L) (suc i) x h = inr (In-at L i x h)

  pub place_of : (L : List A) (x : A) → In x L → (i : ℕ) × IsAt L i x
  place_of [] x h = elim h [ ]
  place_of (y ∷ L) x (inl e) = (zero, e)
  place_of (y ∷ L) x (inr h) = let w = place_of L x h in (suc w.0, w.1)

  -- what stands before stands at a lower place
  pub Before-at : (L : List A) (i j : ℕ) (a b : A) → IsAt L i a → IsAt L j b → i < j → Before L a b
  Before-at [] i j a b h k l = elim h [ ]
  Before-at (y ∷ L) zero zero a b h k l = absurd (omega arith)
  Before-at (y ∷ L) zero (suc j) a b h k l = inl (h, In-at L j b k)
  Before-at (y ∷ L) (suc i) zero a b h k l = absurd (omega arith)
  Before-at (y ∷ L) (suc i) (suc j) a b h k l = inr (Before-at L i j a b h k (omega arith))

  pub places_of : (L : List A) (a b : A) → Before L a b → (i : ℕ) × (j : ℕ) × (i < j) × IsAt L i a × IsAt L j b
  places_of [] a b h = elim h [ ]
  places_of (y ∷ L) a b (inl h) = let w = place_of L b h.1 in (zero, suc w.0, omega arith, h.0, w.1)
  places_of (y ∷ L) a b (inr h) = let w = places_of L a b h in (suc w.0, suc w.1, let l = w.2 in omega arith, w.3, w.4)

  pub IsAt-get : (L : List A) (i : ℕ) (x : A) → slice_get L i ≡ Some x → IsAt L i x
  IsAt-get [] i x h = absurd (none_not _ h)
  IsAt-get (y ∷ L) zero x h = sym (some_is _ _ h)
  IsAt-get (y ∷ L) (suc i) x h = IsAt-get L i x h

  pub get-IsAt : (L : List A) (i : ℕ) (x : A) → IsAt L i x → slice_get L i ≡ Some x
  get-IsAt [] i x h = elim h [ ]
  get-IsAt (y ∷ L) zero x h = ap Some (sym h)
  get-IsAt (y ∷ L) (suc i) x h = get-IsAt L i x h

  pub In-Contains : (L : List A) (x : A) → Contains L x → In x L
  In-Contains L x h = walk L h.0 h.1 h.2
    where
      walk : (L : List A) (k : ℕ) → k < length L → slice_index_or L k x ≡ x → In x L
      walk [] k l e = absurd (omega arith)
      walk (y ∷ L) zero l e = inl (sym e)
      walk (y ∷ L) (suc k) l e = inr (walk L k (omega arith) e)

  pub Contains-In : (L : List A) (x : A) → In x L → Contains L x
  Contains-In [] x h = elim h [ ]
  Contains-In (y ∷ L) x (inl e) = (zero, omega arith, sym e)
  Contains-In (y ∷ L) x (inr h) = let w = Contains-In L x h in (suc w.0, let l = w.1 in omega arith, w.2)

  list_any-append : (p : A → Bool) (xs ys : List A) → list_any p (xs ++ ys) ≡ (list_any p xs || list_any p ys)
  list_any-append p [] ys = refl
  list_any-append p (x ∷ xs) ys = ap (λ b. p x || b) (list_any-append p xs ys) ∙ or_assoc (p x) (list_any p xs) (list_any p ys)
    where
      or_assoc : (a b c : Bool) → (a || (b || c)) ≡ ((a || b) || c)
      or_assoc true b c = refl
      or_assoc false b c = refl

  -- objects that meet one list or another
  pub meets_append : (same : A → A → Bool) (os xs ys : List A) → meets same os (xs ++ ys) ≡ (meets same os xs || meets same os ys)
  meets_append same [] xs ys = refl
  meets_append same (o ∷ os) xs ys = ap₂ (λ a b. a || b) (list_any-append (λ p. same o p) xs ys) (meets_append same os xs ys) ∙ or_pairs (list_any (λ p. same o p) xs) (list_any (λ p. same o p) ys) (meets same os xs) (meets same os ys)
    where
      or_pairs : (a b c d : Bool) → ((a || b) || (c || d)) ≡ ((a || c) || (b || d))
      or_pairs true b c d = refl
      or_pairs false true true d = refl
      or_pairs false true false d = refl
      or_pairs false false c d = refl
