-- Codes of values as bytes, of which none is the beginning of another: what follows a code can be told from it.
use Rattle.std.specs.Prelude.{◌≡◌, ℕ, ℤ, pos, negsuc, zero, suc, nat_lt, ◌^◌, Bool, true, false, List, [], ◌∷◌, ◌++◌, Option, Some, None, if◌then◌else◌}
use Rattle.std.specs.Int.{to_le_bytes, w64}

-- where two codes begin one text, this is the same of both values, and the same follows
abbrev pub IsCodeOf : {A B : Type 0} → (A → B) → (A → List ℕ) → Type 0
IsCodeOf {A} view code = (x y : A) (xs ys : List ℕ) → code x ++ xs ≡ code y ++ ys → (view x ≡ view y) × (xs ≡ ys)

-- where two codes begin one text, they are of one value, and the same follows
abbrev pub IsCode : {A : Type 0} → (A → List ℕ) → Type 0
IsCode code = IsCodeOf (λ x. x) code

-- so many ones, and then a zero
abbrev pub ones : ℕ → List ℕ
ones zero = 0 ∷ []
ones (suc n) = 1 ∷ ones n

-- A number below 254 is one byte. Another of 64 bits has eight bytes after a mark. No program has a greater one; it has ones.
abbrev pub wide_code : Bool → ℕ → List ℕ
wide_code true n = 255 ∷ to_le_bytes w64 n
wide_code false n = 254 ∷ ones n

abbrev pub number_code : ℕ → List ℕ
number_code n = if nat_lt n 254 then n ∷ [] else wide_code (nat_lt n (2 ^ 64)) n

abbrev pub bit_code : Bool → List ℕ
bit_code false = 0 ∷ []
bit_code true = 1 ∷ []

abbrev pub integer_code : ℤ → List ℕ
integer_code (pos n) = 0 ∷ number_code n
integer_code (negsuc n) = 1 ∷ number_code n

module _ {A : Type 0} (code : A → List ℕ) where
  abbrev pub option_code : Option A → List ℕ
  option_code None = 0 ∷ []
  option_code (Some x) = 1 ∷ code x

  abbrev pub list_code : List A → List ℕ
  list_code [] = 0 ∷ []
  list_code (x ∷ xs) = 1 ∷ (code x ++ list_code xs)

module _ {A B : Type 0} (f : A → List ℕ) (g : B → List ℕ) where
  -- one after the other
  abbrev pub pair_code : A × B → List ℕ
  pair_code p = f p.0 ++ g p.1
