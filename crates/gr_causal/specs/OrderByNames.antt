-- An order of a log that is given by the names of its steps: what an answer means, and the test that computes it.
-- An order is accepted where it respects dependence, as in `Orders`.
use Rattle.std.specs.Prelude.{◌≡◌, Bool, true, cond, List, [], ◌∷◌, map, find, filter, ◌⊎◌, ◌↔◌, Option, Some, None, not, option_map, option_and_then}
use Rattle.std.specs.Option.{option_map_or, option_or}
use Rattle.gr_causal.specs.Sequences.{In, Distinct, Before}

-- what the test answers
pub data Ordered (A : Type 0) : Type 0 where
  -- the steps in the order of the names
  accepted : List A → Ordered A
  -- the names are not those of the steps, each once
  other_steps : Ordered A
  -- these two conflict and would change places; the first of them is the earlier in the log
  broken : A → A → Ordered A

-- the names are those of the steps of the log, each once
pub record NamesEach {A N : Type 0} (name : A → N) (L : List A) (names : List N) : Type 0 where
  pub once : Distinct names
  pub all : (n : N) → In n (map name L) ↔ In n names

-- two steps of the log L conflict, and stand the other way round in the order M
pub record ChangePlaces {A : Type 0} (clash : A → A → Bool) (L M : List A) (x y : A) : Type 0 where
  pub earlier : Before L x y
  pub conflicts : clash x y ≡ true
  pub turned : Before M y x

-- y is the first step of M that comes before a conflicting step which is earlier in the log; x is the earliest such step of
-- the log
pub record FirstToChange {A : Type 0} (clash : A → A → Bool) (L M : List A) (x y : A) : Type 0 where
  pub change : ChangePlaces clash L M x y
  pub first_in_order : (a b : A) → ChangePlaces clash L M a b → (b ≡ y) ⊎ Before M y b
  pub first_in_log : (a : A) → ChangePlaces clash L M a y → (a ≡ x) ⊎ Before L x a

module _ {A N : Type 0} (clash : A → A → Bool) (name : A → N) (same : N → N → Bool) where
  -- the log without the step of that name
  abbrev pub without : N → List A → List A
  without n L = filter (λ r. not (same n (name r))) L

  -- the steps in the order of the names, where the names are theirs, each once
  abbrev pub steps_named : List N → List A → Option (List A)
  steps_named [] [] = Some []
  steps_named [] (r ∷ L) = None
  steps_named (n ∷ ns) L = option_and_then (λ x. option_map (λ xs. x ∷ xs) (steps_named ns (without n L))) (find (λ r. same n (name r)) L)

  -- the first step before y that conflicts with it
  abbrev pub first_before : A → List A → Option A
  first_before y [] = None
  first_before y (r ∷ rs) = cond (same (name y) (name r)) None (cond (clash r y) (Some r) (first_before y rs))

  -- the first two to change places
  abbrev pub first_change : List A → List A → Option (A × A)
  first_change L [] = None
  first_change L (y ∷ ys) = option_or (option_map (λ x. (x, y)) (first_before y L)) (first_change (without (name y) L) ys)

  -- the order that the names give, or why they give none that respects dependence
  abbrev pub ordered : List N → List A → Ordered A
  ordered names L = option_map_or (λ M. option_map_or (λ p. broken p.0 p.1) (first_change L M) (accepted M)) (steps_named names L) other_steps
