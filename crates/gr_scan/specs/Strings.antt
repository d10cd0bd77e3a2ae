-- String literals, in part (Go: String literals).
use Rattle.std.specs.Prelude.{ℕ, Bool, true, false, ◌||◌, ◌&&◌, List, [], ◌∷◌, length, nat_le, ◌==◌, Option, Some, None, if◌then◌else◌}
use Rattle.gr_scan.specs.declared.quoted.Part.{Part}
use Rattle.gr_scan.specs.declared.quoted.Part.TheVariants.{Byte, Backslash, Close, LeftOut, Malformed}

-- a byte that stands for itself: a tab, a printable byte of ASCII, a byte above ASCII
abbrev pub is_plain : ℕ → Bool
is_plain b = b == 9 || (nat_le 32 b && nat_le b 126) || nat_le 128 b

-- the byte that a backslash and this byte stand for: `\\`, `\"`, `\t`
abbrev pub escaped : ℕ → Option ℕ
escaped b = if b == 92 then Some 92 else (if b == 34 then Some 34 else (if b == 116 then Some 9 else None))

abbrev pub with_byte : Option ℕ → Option (List ℕ) → Option (List ℕ)
with_byte None rest = None
with_byte (Some b) None = None
with_byte (Some b) (Some rest) = Some (b ∷ rest)

-- what the bytes after the opening quote stand for; the first quote that no backslash escapes is the last of them.
-- `escape` says whether a backslash that escapes stands before them
abbrev pub body_of : (escape : Bool) → List ℕ → Option (List ℕ)
body_of escape [] = None
body_of true (b ∷ s) = with_byte (escaped b) (body_of false s)
body_of false (b ∷ s) =
    if b == 34 then (if length s == 0 then Some [] else None) else
    (if b == 92 then body_of true s else
    (if is_plain b then with_byte (Some b) (body_of false s) else None))

-- the bytes that a string literal stands for; nothing where these bytes are none
abbrev pub text_of : List ℕ → Option (List ℕ)
text_of [] = None
text_of (b ∷ s) = if b == 34 then body_of false s else None

-- whether a backslash before this byte makes an escape that the language leaves out
abbrev pub is_left_out_escape : ℕ → Bool
is_left_out_escape b =
    b == 97 || b == 98 || b == 102 || b == 110 || b == 114 || b == 118 || b == 120 || b == 117 || b == 85
    || (nat_le 48 b && nat_le b 55)

-- What a byte after the opening quote is: a byte of the value, the backslash of an escape, or the closing quote. Else it is
-- one that the language leaves out, or one that no string literal has there.
abbrev pub escape_part : Option ℕ → ℕ → Part
escape_part (Some byte) b = Byte byte
escape_part None b = if is_left_out_escape b then LeftOut else Malformed

abbrev pub part_of : (escape : Bool) → ℕ → Part
part_of true b = escape_part (escaped b) b
part_of false b =
    if b == 34 then Close else
    (if b == 92 then Backslash else
    (if is_plain b then Byte b else
    (if b == 10 then Malformed else LeftOut)))
