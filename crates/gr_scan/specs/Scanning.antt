-- What the parts of the scanner answer.
use Rattle.std.specs.Prelude.{◌≡◌, ◌≤◌, ◌<◌, ℕ, ◌+◌, ◌-◌, Bool, true, false, ◌||◌, ◌&&◌, List, [], ◌∷◌, ◌++◌, Option, Some, None, Result, Ok, Err, if◌then◌else◌, length, take, drop, slice_index, nat_eq, ◌==◌}
use Rattle.std.specs.List.{starts_with}
use Rattle.gr_scan.specs.declared.token.Mark.{Mark}
use Rattle.gr_scan.specs.declared.piece.Piece.{Piece}
use Rattle.gr_scan.specs.declared.piece.Piece.TheVariants.{Operator}
use Rattle.gr_scan.specs.declared.piece.Class.{Class}
pub use Rattle.gr_scan.specs.declared.piece.Class.TheVariants.{Letter, Digit, Space, Newline, Quote, Slash, Point, Other}
use Rattle.gr_scan.specs.declared.quoted.Part.{Part}
use Rattle.gr_scan.specs.declared.quoted.Part.TheVariants.{Byte, Backslash, Close}
use Rattle.gr_scan.specs.declared.scan.ScanError.{ScanError}
use Rattle.gr_scan.specs.declared.scan.ScanError.TheVariants as errors
use Rattle.gr_scan.specs.Tokens.{Tok}
use Rattle.gr_scan.specs.Marks.{Spelling}
use Rattle.gr_scan.specs.Scan.{Item, LineEnd, It, semicolon, ends}
use Rattle.gr_scan.specs.Pieces.{is_letter, is_digit, is_space, Closes, Spells}
use Rattle.gr_scan.specs.Numbers.{is_digit_of}
use Rattle.gr_scan.specs.Strings.{part_of}

-- the first mark of a table that a text begins with, and its length
abbrev pub first_prefix : List Spelling → List ℕ → Option (Mark × ℕ)
first_prefix [] text = None
first_prefix (entry ∷ table) text =
    if starts_with nat_eq text entry.0 then Some (entry.1, length entry.0) else first_prefix table text

-- what a byte may begin
abbrev pub class_of : ℕ → Class
class_of b =
    if is_letter b then Letter else
    (if is_digit b then Digit else
    (if is_space b then Space else
    (if b == 10 then Newline else
    (if b == 34 then Quote else
    (if b == 47 then Slash else
    (if b == 46 then Point else Other))))))

-- every piece that begins here is an operator
abbrev pub OnlyMarks : List ℕ → Type 0
OnlyMarks text = (q : Piece) (m : ℕ) → m ≤ length text → Spells q (take m text) → (mark : Mark) × (q ≡ Operator mark)

-- the first `*/` after a `/*` ends before byte n
abbrev pub IsFirstEnd : ℕ → List ℕ → Type 0
IsFirstEnd n text = (4 ≤ n) × (n ≤ length text) × Closes text (n - 2) × ((k : ℕ) → 2 ≤ k → k < n - 2 → Closes text k → ⊥)

-- one piece's part in the tokens, and whether the line so far wants a semicolon after it
abbrev pub emitted : Bool → List Item → List Tok
emitted wanted [] = []
emitted wanted (LineEnd at line ∷ is) = semicolon wanted at line ++ emitted false is
emitted wanted (It t ∷ is) = t ∷ emitted (ends t) is

abbrev pub wanted_after : Bool → List Item → Bool
wanted_after wanted [] = wanted
wanted_after wanted (LineEnd at line ∷ is) = wanted_after false is
wanted_after wanted (It t ∷ is) = wanted_after (ends t) is

-- a digit stands at this place, or a `_` before a digit
abbrev pub is_part : ℕ → List ℕ → ℕ → Bool
is_part base s i = is_digit_of base (slice_index s i) || (slice_index s i == 95 && is_digit_of base (slice_index s (i + 1)))

-- how many bytes a literal has, by its next byte, from what follows after a byte and after a backslash
abbrev pub end_by : Part → ℕ → Option ℕ → Option ℕ → Option ℕ
end_by (Byte b) n other escape = other
end_by Backslash n other escape = escape
end_by Close n other escape = Some n
end_by _ n other escape = None

-- how many bytes a literal has, after i of them
abbrev pub end_after : (i : ℕ) (escape : Bool) → List ℕ → Option ℕ
end_after i escape [] = None
end_after i escape (b ∷ s) = end_by (part_of escape b) (i + 1) (end_after (i + 1) false s) (end_after (i + 1) true s)

-- how many bytes the string literal has that stands at the front
abbrev pub text_end : List ℕ → Option ℕ
text_end text = end_after 1 false (drop 1 text)

-- what a fault of the text says; out of memory and a text that is too long are none
abbrev pub Tells : ScanError → Type 0 → Type 0
Tells errors.Memory P = ⊥
Tells errors.TooLong P = ⊥
Tells error P = P

-- what adding a piece does to the tokens
abbrev pub Puts : Result Bool ScanError → Bool → Option (List Item) → List Tok → List Tok → Type 0
Puts (Ok b) wanted (Some is) old new = (new ≡ old ++ emitted wanted is) × (b ≡ wanted_after wanted is)
Puts (Ok b) wanted None old new = ⊥
Puts (Err errors.Memory) wanted o old new = Unit {0}
Puts (Err error) wanted o old new = Tells error (o ≡ None)

-- what a fault says of a piece; out of memory says nothing
abbrev pub Finds : ScanError → Option ScanError → Type 0
Finds errors.Memory found = Unit {0}
Finds error found = found ≡ Some error
