-- The faults of a text: which it is, and where the first one stands (Go: Lexical elements).
use Rattle.std.specs.Prelude.{◌≡◌, ◌<◌, ℕ, ◌+◌, ◌^◌, Bool, true, false, ◌||◌, List, [], ◌∷◌, length, take, drop, slice_index, nat_le, ◌==◌, Option, Some, None, if◌then◌else◌}
use Rattle.gr_scan.specs.declared.piece.Piece.{Piece}
use Rattle.gr_scan.specs.declared.piece.Piece.TheVariants.{Number, OpenComment, Fraction}
use Rattle.gr_scan.specs.declared.quoted.Part.{Part}
use Rattle.gr_scan.specs.declared.quoted.Part.TheVariants as parts
use Rattle.gr_scan.specs.declared.scan.TheConstants.{TEXT_LIMIT}
use Rattle.gr_scan.specs.declared.scan.ScanError.{ScanError}
use Rattle.gr_scan.specs.declared.scan.ScanError.TheVariants.{Strange, Malformed, TooGreat, MalformedText, Unclosed, LeftOut, TooLong, Memory}
use Rattle.gr_scan.specs.Numbers.{is_number, is_left_out, worth}
use Rattle.gr_scan.specs.Strings.{part_of}
use Rattle.gr_scan.specs.Pieces.{IsPiece, NoPiece}
use Rattle.gr_scan.specs.Scan.{mark_size}

-- The fault of a run that begins with a digit, where it has one. It is digits of its base, but worth over 2^63. Or it is no
-- such digits: then it is of a kind that is left out, or malformed.
abbrev pub number_fault : (at : ℕ) → List ℕ → Option ScanError
number_fault at s =
    if is_number s then (if nat_le (worth s) (2 ^ 63) then None else Some (TooGreat at)) else
    (if is_left_out s then Some (LeftOut at) else Some (Malformed at))

-- the fault of a piece that is no token, no white space and no comment
abbrev pub piece_fault : (at : ℕ) → Piece → List ℕ → Option ScanError
piece_fault at Number s = number_fault at s
piece_fault at Fraction s = Some (LeftOut at)
piece_fault at OpenComment s = Some (Unclosed at)
piece_fault at _ s = None

-- what is wrong with a string literal, by its next byte, from what is wrong after a byte and after a backslash
abbrev pub wrong_by : (at : ℕ) → Part → Option ScanError → Option ScanError → Option ScanError
wrong_by at (parts.Byte b) other escape = other
wrong_by at parts.Backslash other escape = escape
wrong_by at parts.Close other escape = None
wrong_by at parts.LeftOut other escape = Some (LeftOut at)
wrong_by at parts.Malformed other escape = Some (MalformedText at)

-- the first byte that is wrong before a quote closes the literal; that nothing closes it is wrong too
abbrev pub wrong_in : (at : ℕ) (escape : Bool) → List ℕ → Option ScanError
wrong_in at escape [] = Some (MalformedText at)
wrong_in at escape (b ∷ s) = wrong_by at (part_of escape b) (wrong_in at false s) (wrong_in at true s)

-- the fault of a string literal, from its opening quote on
abbrev pub text_fault : (at : ℕ) → List ℕ → Option ScanError
text_fault at text = wrong_in at false (drop 1 text)

-- where no piece begins stands one of three things: a string literal that is none; the quote of a rune or of a raw string,
-- which are left out; or a byte that begins no token
abbrev pub stray_fault : (at : ℕ) → List ℕ → Option ScanError
stray_fault at text =
    if slice_index text 0 == 34 then text_fault at text else
    (if slice_index text 0 == 39 || slice_index text 0 == 96 then Some (LeftOut at) else Some (Strange at))

-- The first fault of a text with `at` bytes before it. No piece begins here, or one that has a fault. Or the piece here has
-- none, and the first fault comes after it.
pub data FirstFault : ScanError → (at : ℕ) → List ℕ → Type 0 where
  stray : {e : ScanError} {at : ℕ} {text : List ℕ} → NoPiece text → 0 < length text → stray_fault at text ≡ Some e → FirstFault e at text
  here : {e : ScanError} {at : ℕ} {text : List ℕ} {p : Piece} {n : ℕ} → IsPiece p n text → piece_fault at p (take n text) ≡ Some e → FirstFault e at text
  later : {e : ScanError} {at : ℕ} {text : List ℕ} {p : Piece} {n : ℕ} → IsPiece p n text → piece_fault at p (take n text) ≡ None → FirstFault e (at + n) (drop n text) → FirstFault e at text

-- what each fault says of a text; out of memory says nothing
abbrev pub HasFault : ScanError → List ℕ → Type 0
HasFault Memory text = Unit {0}
HasFault TooLong text = TEXT_LIMIT < length text
HasFault error text = FirstFault error (mark_size text) (drop (mark_size text) text)

-- how many bytes stand before a fault that has a place
abbrev pub place_of : ScanError → Option ℕ
place_of (Strange at) = Some at
place_of (Malformed at) = Some at
place_of (TooGreat at) = Some at
place_of (MalformedText at) = Some at
place_of (Unclosed at) = Some at
place_of (LeftOut at) = Some at
place_of TooLong = None
place_of Memory = None
