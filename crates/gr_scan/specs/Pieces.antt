-- The pieces that a text is cut into (Go: Lexical elements).
use Rattle.std.specs.Prelude.{◌≡◌, ℕ, ◌+◌, ◌-◌, ◌<◌, ◌≤◌, Bool, true, ◌||◌, ◌&&◌, List, [], ◌∷◌, length, take, drop, slice_index, nat_le, ◌==◌, codes, Some, ◌⊎◌}
use Rattle.gr_scan.specs.declared.piece.Piece.{Piece}
use Rattle.gr_scan.specs.declared.piece.Piece.TheVariants.{Space, Newline, Comment, GeneralComment, OpenComment, Word, Number, Operator, Fraction, Text}
use Rattle.gr_scan.specs.Marks.{operators, mark_in}
use Rattle.gr_scan.specs.Strings.{text_of}

-- a digit, a letter, a byte of a name, white space within a line (bytes are codes of ASCII)
abbrev pub is_digit : ℕ → Bool
is_digit b = nat_le 48 b && nat_le b 57

abbrev pub is_letter : ℕ → Bool
is_letter b = (nat_le 65 b && nat_le b 90) || (nat_le 97 b && nat_le b 122) || b == 95

abbrev pub is_word : ℕ → Bool
is_word b = is_letter b || is_digit b

abbrev pub is_space : ℕ → Bool
is_space b = b == 32 || b == 9 || b == 13

-- the first n bytes are bytes of names
abbrev pub IsRun : ℕ → List ℕ → Type 0
IsRun n s = (k : ℕ) → k < n → is_word (slice_index s k) ≡ true

-- a `*/` stands here
abbrev pub Closes : List ℕ → ℕ → Type 0
Closes s k = (slice_index s k ≡ 42) × (slice_index s (k + 1) ≡ 47)

-- `Spells piece s`: the bytes s are a piece of this kind. A general comment runs from `/*` to the first `*/` after it. An
-- open one is the `/*` alone, so it is the longest piece only where no `*/` follows. A number is a run of digits, letters
-- and `_`, whatever it is worth. A fraction is such a run and a point, or a point and a digit.
abbrev pub Spells : Piece → List ℕ → Type 0
Spells Space s = (length s ≡ 1) × (is_space (slice_index s 0) ≡ true)
Spells Newline s = s ≡ 10 ∷ []
Spells Comment s = (2 ≤ length s) × (slice_index s 0 ≡ 47) × (slice_index s 1 ≡ 47) × ((k : ℕ) → k < length s → slice_index s k ≡ 10 → ⊥)
Spells GeneralComment s =
    (4 ≤ length s) × (slice_index s 0 ≡ 47) × (slice_index s 1 ≡ 42)
    × Closes s (length s - 2) × ((k : ℕ) → 2 ≤ k → k < length s - 2 → Closes s k → ⊥)
Spells OpenComment s = s ≡ codes "/*"
Spells Word s = (0 < length s) × (is_letter (slice_index s 0) ≡ true) × IsRun (length s) s
Spells Number s = (0 < length s) × (is_digit (slice_index s 0) ≡ true) × IsRun (length s) s
Spells (Operator mark) s = mark_in operators s ≡ Some mark
Spells Fraction s =
    ((1 < length s) × (is_digit (slice_index s 0) ≡ true) × IsRun (length s - 1) s × (slice_index s (length s - 1) ≡ 46))
    ⊎ ((length s ≡ 2) × (slice_index s 0 ≡ 46) × (is_digit (slice_index s 1) ≡ true))
Spells Text s = (bytes : List ℕ) × (text_of s ≡ Some bytes)

-- the first n bytes are a piece, and no longer piece of any kind begins here
pub record IsPiece (p : Piece) (n : ℕ) (text : List ℕ) : Type 0 where
  pub fits : n ≤ length text
  pub spelled : Spells p (take n text)
  pub longest : (q : Piece) (m : ℕ) → m ≤ length text → Spells q (take m text) → m ≤ n

-- no piece begins here
abbrev pub NoPiece : List ℕ → Type 0
NoPiece text = (q : Piece) (m : ℕ) → m ≤ length text → Spells q (take m text) → ⊥

-- the text is cut into these pieces, each the longest possible
pub data Cut : List (Piece × List ℕ) → List ℕ → Type 0 where
  end : Cut [] []
  piece : {p : Piece} {n : ℕ} {ps : List (Piece × List ℕ)} {text : List ℕ} → IsPiece p n text → Cut ps (drop n text) → Cut ((p, take n text) ∷ ps) text
