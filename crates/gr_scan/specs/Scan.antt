-- The tokens of a text (Go: Tokens, Semicolons, Source code representation).
use Rattle.std.specs.Prelude.{◌≡◌, ◌≤◌, ℕ, ◌+◌, Bool, true, false, ◌&&◌, List, [], ◌∷◌, ◌++◌, length, drop, slice_index, ◌==◌, Option, Some, None, if◌then◌else◌}
use Rattle.gr_scan.specs.declared.token.Mark.{Mark}
use Rattle.gr_scan.specs.declared.token.Mark.TheVariants as marks
use Rattle.gr_scan.specs.declared.token.Place.{Place}
use Rattle.gr_scan.specs.declared.piece.Piece.{Piece}
use Rattle.gr_scan.specs.declared.piece.Piece.TheVariants.{Space, Newline, Comment, GeneralComment, OpenComment, Word, Number, Operator, Fraction, Text}
use Rattle.gr_scan.specs.declared.scan.TheConstants.{TEXT_LIMIT}
use Rattle.gr_scan.specs.declared.scan.ScanError.{ScanError}
use Rattle.gr_scan.specs.declared.scan.ScanError.TheVariants as errors
use Rattle.gr_scan.specs.Tokens as tokens
use Rattle.gr_scan.specs.Tokens.{Tok, At}
use Rattle.gr_scan.specs.Marks.{keywords, mark_in}
use Rattle.std.specs.List.{count_by}
use Rattle.gr_scan.specs.Numbers.{number_of}
use Rattle.gr_scan.specs.Strings.{text_of}
use Rattle.gr_scan.specs.Pieces.{Cut}

-- what a piece is to the rule of semicolons: a token, or the end of a line at a place
pub data Item : Type 0 where
  LineEnd : (at line : ℕ) → Item
  It : (token : Tok) → Item

abbrev pub place : (start end line : ℕ) → Place
place start end line = record { start = start; end = end; line = line }

-- a keyword, or else a name
abbrev pub keyword_or_name : Option Mark → List ℕ → tokens.Word
keyword_or_name (Some mark) s = tokens.Sign mark
keyword_or_name None s = tokens.Name s

abbrev pub number_items : Option ℕ → Place → Option (List Item)
number_items (Some n) at = Some (It (At at (tokens.Number n)) ∷ [])
number_items None at = None

abbrev pub text_items : Option (List ℕ) → Place → Option (List Item)
text_items (Some bytes) at = Some (It (At at (tokens.Text bytes)) ∷ [])
text_items None at = None

abbrev pub newlines : List ℕ → ℕ
newlines s = count_by (λ b. b == 10) s

-- what a piece with this spelling is, at this place; nothing where the language has no such token
abbrev pub items_of : Piece → List ℕ → (start line : ℕ) → Option (List Item)
items_of Space s start line = Some []
items_of Newline s start line = Some (LineEnd start line ∷ [])
items_of Comment s start line = Some []
items_of GeneralComment s start line = Some (if newlines s == 0 then [] else LineEnd start line ∷ [])
items_of OpenComment s start line = None
items_of Word s start line = Some (It (At (place start (start + length s) line) (keyword_or_name (mark_in keywords s) s)) ∷ [])
items_of Number s start line = number_items (number_of s) (place start (start + length s) line)
items_of (Operator mark) s start line = Some (It (At (place start (start + length s) line) (tokens.Sign mark)) ∷ [])
items_of Fraction s start line = None
items_of Text s start line = text_items (text_of s) (place start (start + length s) line)

-- the line after a piece with this spelling
abbrev pub line_after : Piece → List ℕ → ℕ → ℕ
line_after Newline s line = line + 1
line_after GeneralComment s line = line + newlines s
line_after _ s line = line

abbrev pub both_items : Option (List Item) → Option (List Item) → Option (List Item)
both_items None b = None
both_items (Some a) None = None
both_items (Some a) (Some b) = Some (a ++ b)

-- pieces from a place on; the end of the text is the end of its last line
abbrev pub all_items : (start line : ℕ) → List (Piece × List ℕ) → Option (List Item)
all_items start line [] = Some (LineEnd start line ∷ [])
all_items start line (p ∷ ps) = both_items (items_of p.0 p.1 start line) (all_items (start + length p.1) (line_after p.0 p.1 line) ps)

-- whether a line that ends in this token gets a semicolon
abbrev pub ends_line : Mark → Bool
ends_line marks.Break = true
ends_line marks.Continue = true
ends_line marks.Fallthrough = true
ends_line marks.Return = true
ends_line marks.PlusPlus = true
ends_line marks.MinusMinus = true
ends_line marks.RightParen = true
ends_line marks.RightBracket = true
ends_line marks.RightBrace = true
ends_line _ = false

abbrev pub word_ends : tokens.Word → Bool
word_ends (tokens.Name letters) = true
word_ends (tokens.Number n) = true
word_ends (tokens.Text bytes) = true
word_ends (tokens.Sign mark) = ends_line mark

abbrev pub ends : Tok → Bool
ends (At at word) = word_ends word

-- the semicolon of a line's end, where one is wanted; it takes no bytes
abbrev pub semicolon : Bool → (at line : ℕ) → List Tok
semicolon true at line = At (place at at line) (tokens.Sign marks.Semicolon) ∷ []
semicolon false at line = []

-- the tokens, and the semicolons; `wanted` says whether the line so far ends in such a token
abbrev pub with_semicolons : (wanted : Bool) → List Item → List Tok
with_semicolons wanted [] = []
with_semicolons wanted (LineEnd at line ∷ is) = semicolon wanted at line ++ with_semicolons false is
with_semicolons wanted (It t ∷ is) = t ∷ with_semicolons (ends t) is

-- a byte order mark at the start is no part of the text
abbrev pub mark_size : List ℕ → ℕ
mark_size text = if slice_index text 0 == 239 && slice_index text 1 == 187 && slice_index text 2 == 191 then 3 else 0

-- the tokens of a text
pub record IsScan (text : List ℕ) (ts : List Tok) : Type 0 where
  pub short : length text ≤ TEXT_LIMIT
  pub pieces : List (Piece × List ℕ)
  pub cut : Cut pieces (drop (mark_size text) text)
  pub items : List Item
  pub are : all_items (mark_size text) 1 pieces ≡ Some items
  pub tokens : ts ≡ with_semicolons false items

-- every fault but out of memory says that the text has no tokens
abbrev pub HasNoTokens : ScanError → List ℕ → Type 0
HasNoTokens errors.Memory text = Unit {0}
HasNoTokens error text = (ts : List Tok) → IsScan text ts → ⊥
