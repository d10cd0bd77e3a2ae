-- What stands in a list, how often and in which order; the usual notions.
use Rattle.std.specs.Prelude.{◌≡◌, ℕ, zero, suc, List, [], ◌∷◌, ◌⊎◌, ◌↔◌}

-- x is an element of the list
abbrev pub In : {A : Type 0} → A → List A → Type 0
In x [] = ⊥
In x (y ∷ ys) = (x ≡ y) ⊎ In x ys

-- no element stands twice
abbrev pub Distinct : {A : Type 0} → List A → Type 0
Distinct [] = Unit {0}
Distinct (x ∷ xs) = (¬ In x xs) × Distinct xs

-- a stands somewhere before b
abbrev pub Before : {A : Type 0} → List A → A → A → Type 0
Before [] a b = ⊥
Before (x ∷ xs) a b = ((a ≡ x) × In b xs) ⊎ Before xs a b

-- x stands at this place, counted from 0
abbrev pub IsAt : {A : Type 0} → List A → ℕ → A → Type 0
IsAt [] i x = ⊥
IsAt (y ∷ ys) zero x = x ≡ y
IsAt (y ∷ ys) (suc i) x = IsAt ys i x

-- the second list has the elements of the first, each once
pub record Rearranges {A : Type 0} (L N : List A) : Type 0 where
  pub once : Distinct N
  pub all : (x : A) → In x L ↔ In x N
