-- Whole numbers in binary, octal, decimal and hexadecimal (Go: Integer literals).
use Rattle.std.specs.Prelude.{ℕ, ◌+◌, ◌-◌, ◌*◌, ◌^◌, Bool, true, false, ◌||◌, ◌&&◌, not, List, [], ◌∷◌, length, drop, slice_index, nat_le, nat_lt, ◌==◌, Option, Some, None, if◌then◌else◌}
use Rattle.std.specs.List.{list_any}
use Rattle.gr_scan.specs.Pieces.{is_digit}

-- a digit of some base: 0 to 9, a to f, A to F
abbrev pub is_hex_digit : ℕ → Bool
is_hex_digit b = is_digit b || (nat_le 97 b && nat_le b 102) || (nat_le 65 b && nat_le b 70)

-- what a digit is worth
abbrev pub digit_value : ℕ → ℕ
digit_value b = if is_digit b then b - 48 else (if nat_le 97 b then b - 87 else b - 55)

abbrev pub is_digit_of : ℕ → ℕ → Bool
is_digit_of base b = is_hex_digit b && nat_lt (digit_value b) base

-- digits of this base, each with at most one `_` before it
abbrev pub are_digits : ℕ → List ℕ → Bool
are_digits base [] = true
are_digits base (b ∷ s) = (is_digit_of base b || (b == 95 && is_digit_of base (slice_index s 0))) && are_digits base s

-- what a number n is worth with one more digit; a `_` changes nothing
abbrev pub with_digit : ℕ → ℕ → ℕ → ℕ
with_digit base n b = if b == 95 then n else base * n + digit_value b

-- what these digits are worth after a number n
abbrev pub value_after : ℕ → ℕ → List ℕ → ℕ
value_after base n [] = n
value_after base n (b ∷ s) = value_after base (with_digit base n b) s

-- the base of a number, and how many bytes of prefix tell it: `0b`, `0o`, `0x` in either case, or a `0` before further
-- bytes; else it is decimal
abbrev pub prefix_of : List ℕ → ℕ × ℕ
prefix_of s =
    if not (slice_index s 0 == 48) || length s == 1 then (10, 0) else
    (if slice_index s 1 == 98 || slice_index s 1 == 66 then (2, 2) else
    (if slice_index s 1 == 111 || slice_index s 1 == 79 then (8, 2) else
    (if slice_index s 1 == 120 || slice_index s 1 == 88 then (16, 2) else (8, 1))))

-- the digits of a number, after the prefix that tells its base
abbrev pub digits_of : List ℕ → List ℕ
digits_of s = drop (prefix_of s).1 s

-- whether a run that begins with a digit is digits of its base
abbrev pub is_number : List ℕ → Bool
is_number s = not (length (digits_of s) == 0) && are_digits (prefix_of s).0 (digits_of s)

-- what a number is worth
abbrev pub worth : List ℕ → ℕ
worth s = value_after (prefix_of s).0 0 (digits_of s)

-- the number that a run beginning with a digit spells; nothing where it spells none, or one over 2^63
abbrev pub number_of : List ℕ → Option ℕ
number_of s = if is_number s && nat_le (worth s) (2 ^ 63) then Some (worth s) else None

-- whether a number is a hexadecimal, by its prefix
abbrev pub is_hexadecimal : List ℕ → Bool
is_hexadecimal s = slice_index s 0 == 48 && (slice_index s 1 == 120 || slice_index s 1 == 88)

-- the letter of an exponent: `p` or `P` in a hexadecimal, else `e` or `E` (Go: Floating-point literals)
abbrev pub is_exponent : (hexadecimal : Bool) → ℕ → Bool
is_exponent true b = b == 112 || b == 80
is_exponent false b = b == 101 || b == 69

-- Whether a run that is no number is of a kind that the language leaves out. It has an exponent, or it ends in the `i` of
-- an imaginary number (Go: Floating-point literals, Imaginary literals).
abbrev pub is_left_out : List ℕ → Bool
is_left_out s = slice_index s (length s - 1) == 105 || list_any (is_exponent (is_hexadecimal s)) s
