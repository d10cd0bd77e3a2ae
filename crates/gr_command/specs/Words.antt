-- Texts cut into words.
use Rattle.std.specs.Prelude.{◌≡◌, ℕ, ◌==◌, ◌||◌, Bool, true, false, if◌then◌else◌, List, [], ◌∷◌, filter}

-- a space or a tab
abbrev pub is_gap : ℕ → Bool
is_gap b = (b == 32) || (b == 9)

-- a byte in front of the first of the pieces
abbrev pub onto : ℕ → List (List ℕ) → List (List ℕ)
onto b [] = (b ∷ []) ∷ []
onto b (l ∷ ls) = (b ∷ l) ∷ ls

-- the pieces between gaps, some of them empty
abbrev pub pieces : List ℕ → List (List ℕ)
pieces [] = [] ∷ []
pieces (b ∷ bs) = if is_gap b then [] ∷ pieces bs else onto b (pieces bs)

-- a piece is a word if it has a byte
abbrev pub is_some_word : List ℕ → Bool
is_some_word [] = false
is_some_word (b ∷ bs) = true

-- the words between spaces or tabs
abbrev pub words_of : List ℕ → List (List ℕ)
words_of line = filter is_some_word (pieces line)

-- no byte is a gap
abbrev pub NoGap : List ℕ → Type 0
NoGap [] = Unit {0}
NoGap (b ∷ bs) = (is_gap b ≡ false) × NoGap bs

-- a word is first, or there is nothing
abbrev pub BeginsWord : List ℕ → Type 0
BeginsWord [] = Unit {0}
BeginsWord (b ∷ bs) = is_gap b ≡ false

-- a gap is first, or there is nothing
abbrev pub BeginsGap : List ℕ → Type 0
BeginsGap [] = Unit {0}
BeginsGap (b ∷ bs) = is_gap b ≡ true
