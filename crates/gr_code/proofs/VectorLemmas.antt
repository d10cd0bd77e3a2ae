-- Variables and temporaries in one vector: what it holds, and what is written to it.
use Rattle.std.proofs.Common.{◌≡◌, ◌<◌, ◌≤◌, ℕ, zero, suc, Bool, true, false, List, [], ◌∷◌, Option, Some, None, length, take, refl, sym, ap, ◌∙◌, arith, inl, inr, ltb-true, ltb-false, eq-eqb, ne_eqb}
use Rattle.std.proofs.lemmas.Bool.{cases_eq, cases_Bool}
use Rattle.std.specs.Prelude.{nat_lt, slice_get, slice_set, if◌then◌else◌}
use Rattle.gr_base.specs.declared.values.Value.{Value}
use Rattle.gr_rules.specs.Outcomes.{gives, wrong, ◌>>=◌}
use Rattle.gr_rules.specs.Evaluation.{Variables, held}
use Rattle.gr_rules.specs.Frames.{written, assigned}
use Rattle.gr_code.specs.Filling.{with_value}
use Rattle.gr_code.specs.Instructions.{spot}
use Rattle.gr_code.specs.Code.{value_or, Holds}
use Rattle.gr_code.specs.Vectors.{value_at, temporaries_in, spot_in, TargetsBelow}

pub get_take : (n : ℕ) (xs : Variables) (x : ℕ) → x < n → slice_get (take n xs) x ≡ slice_get xs x
get_take zero xs x h = absurd (omega arith)
get_take (suc n) [] x h = refl
get_take (suc n) (v ∷ vs) zero h = refl
get_take (suc n) (v ∷ vs) (suc x) h = get_take n vs x (omega arith)

get_past : (n : ℕ) (xs : Variables) (x : ℕ) → n ≤ x → slice_get (take n xs) x ≡ None
get_past zero xs x h = refl
get_past (suc n) [] x h = refl
get_past (suc n) (v ∷ vs) zero h = absurd (omega arith)
get_past (suc n) (v ∷ vs) (suc x) h = get_past n vs x (omega arith)

get_set_here : (xs : Variables) (k : ℕ) (v : Option Value) → k < length xs → slice_get (slice_set xs k v) k ≡ Some v
get_set_here [] k v h = absurd (omega arith)
get_set_here (x ∷ xs) zero v h = refl
get_set_here (x ∷ xs) (suc k) v h = get_set_here xs k v (omega arith)

get_set_else : (xs : Variables) (k : ℕ) (v : Option Value) (x : ℕ) → (x ≡ k → ⊥) → slice_get (slice_set xs k v) x ≡ slice_get xs x
get_set_else [] k v x h = refl
get_set_else (y ∷ ys) zero v zero h = absurd (h refl)
get_set_else (y ∷ ys) zero v (suc x) h = refl
get_set_else (y ∷ ys) (suc k) v zero h = refl
get_set_else (y ∷ ys) (suc k) v (suc x) h = get_set_else ys k v x (λ e. h (ap suc e))

take_set : (n : ℕ) (xs : Variables) (k : ℕ) (v : Option Value) → take n (slice_set xs k v) ≡ slice_set (take n xs) k v
take_set zero xs k v = refl
take_set (suc n) [] k v = refl
take_set (suc n) (x ∷ xs) zero v = refl
take_set (suc n) (x ∷ xs) (suc k) v = ap (λ ys. x ∷ ys) (take_set n xs k v)

take_set_past : (n : ℕ) (xs : Variables) (k : ℕ) (v : Option Value) → n ≤ k → take n (slice_set xs k v) ≡ take n xs
take_set_past zero xs k v h = refl
take_set_past (suc n) [] k v h = refl
take_set_past (suc n) (x ∷ xs) zero v h = absurd (omega arith)
take_set_past (suc n) (x ∷ xs) (suc k) v h = ap (λ ys. x ∷ ys) (take_set_past n xs k v (omega arith))

beyond : (o : Option (Option Value)) → held o ≡ value_or (value_at o) wrong
beyond None = refl
beyond (Some None) = refl
beyond (Some (Some v)) = refl

module _ (n : ℕ) where
  pub holds : (all : Variables) (on : ℕ) → Holds (spot_in n all on) all
  holds all on x = by_place (nat_lt x n) refl
    where
      by_place : (b : Bool) → nat_lt x n ≡ b → held (slice_get all x) ≡ value_or (if b then None else value_at (slice_get all x)) (held (slice_get (take n all) x))
      by_place true e = ap held (sym (get_take n all x (ltb-true x n e)))
      by_place false e = beyond (slice_get all x) ∙ ap (λ o. value_or (value_at (slice_get all x)) (held o)) (sym (get_past n all x (ltb-false x n e)))

  kept_at : (all : Variables) (d : ℕ) (v : Value) → n ≤ d → d < length all → (x : ℕ) → temporaries_in n (slice_set all d (Some v)) x ≡ with_value (temporaries_in n all) d v x
  kept_at all d v low high x = elim (cases_eq x d) [
    | inl e ↦
        rw (eq-eqb x d e, above e) (ap value_at (ap (slice_get (slice_set all d (Some v))) e ∙ get_set_here all d (Some v) high))
    | inr other ↦ rw (ne_eqb x d other) (ap (λ o. if nat_lt x n then None else value_at o) (get_set_else all d (Some v) x other))
  ]
    where
      above : x ≡ d → nat_lt x n ≡ false
      above e = elim (cases_Bool (nat_lt x n)) [ inl t ↦ let l : x < n = ltb-true x n t in absurd (omega arith) | inr f ↦ f ]

  -- a temporary's value is written
  pub kept : (all : Variables) (d : ℕ) (v : Value) (on : ℕ) → n ≤ d → d < length all → spot_in n (slice_set all d (Some v)) on ≡ spot (take n all) (with_value (temporaries_in n all) d v) on
  kept all d v on low high =
      let vs = take_set_past n all d (Some v) low in
      let ts : (x : ℕ) → temporaries_in n (slice_set all d (Some v)) x ≡ with_value (temporaries_in n all) d v x = kept_at all d v low high in
      λ i. spot (vs i) (λ x. ts x i) on

  variable_at : (all : Variables) (k : ℕ) (v : Option Value) → k < n → (x : ℕ) → temporaries_in n (slice_set all k v) x ≡ temporaries_in n all x
  variable_at all k v low x = by_place (nat_lt x n) refl
    where
      by_place : (b : Bool) → nat_lt x n ≡ b → (if b then None else value_at (slice_get (slice_set all k v) x)) ≡ (if b then None else value_at (slice_get all x))
      by_place true e = refl
      by_place false e = let l : n ≤ x = ltb-false x n e in ap value_at (get_set_else all k v x (λ q. absurd (omega arith)))

  -- values are assigned to variables
  pub assigns : (ks : List (Option ℕ)) (xs : List Value) (all : Variables) (on : ℕ) → TargetsBelow n ks
      → (assigned ks xs all >>= λ held. gives (spot_in n held on)) ≡ (assigned ks xs (take n all) >>= λ held. gives (spot held (temporaries_in n all) on))
  assigns [] [] all on h = refl
  assigns [] (x ∷ xs) all on h = refl
  assigns (None ∷ ks) [] all on h = refl
  assigns (Some k ∷ ks) [] all on h = refl
  assigns (None ∷ ks) (x ∷ xs) all on h = assigns ks xs all on h
  assigns (Some k ∷ ks) (x ∷ xs) all on h =
      by_old (slice_get all k) (assigns ks xs (slice_set all k (Some x)) on h.1)
      ∙ ap (λ o. (written o k x (take n all) >>= λ held. assigned ks xs held) >>= λ held. gives (spot held (temporaries_in n all) on)) (sym (get_take n all k h.0))
    where
      after : (held : Variables) → held ≡ take n (slice_set all k (Some x))
          → (assigned ks xs (take n (slice_set all k (Some x))) >>= λ held. gives (spot held (temporaries_in n (slice_set all k (Some x))) on))
          ≡ (assigned ks xs held >>= λ held. gives (spot held (temporaries_in n all) on))
      after held e =
          let ts : (x : ℕ) → temporaries_in n _ x ≡ temporaries_in n all x = variable_at all k (Some x) h.0 in
          ap (λ us. assigned ks xs us >>= λ held. gives (spot held (temporaries_in n (slice_set all k (Some x))) on)) (sym e)
          ∙ (λ i. assigned ks xs held >>= λ held. gives (spot held (λ x. ts x i) on))

      by_old : (o : Option (Option Value))
          → ((assigned ks xs (slice_set all k (Some x)) >>= λ held. gives (spot_in n held on))
          ≡ (assigned ks xs (take n (slice_set all k (Some x))) >>= λ held. gives (spot held (temporaries_in n (slice_set all k (Some x))) on)))
          → ((written o k x all >>= λ held. assigned ks xs held) >>= λ held. gives (spot_in n held on))
          ≡ ((written o k x (take n all) >>= λ held. assigned ks xs held) >>= λ held. gives (spot held (temporaries_in n all) on))
      by_old None ih = refl
      by_old (Some old) ih = ih ∙ after (slice_set (take n all) k (Some x)) (sym (take_set n all k (Some x)))
