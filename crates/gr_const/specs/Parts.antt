-- The ranges of whole numbers in constant expressions.
use Rattle.std.specs.Prelude.{ℤ, pos, negsuc, ◌^◌, nat_le, nat_lt, Bool}

-- whether a number may be a part of a constant expression: it is within -2^63 to 2^63; `negsuc n` is -n-1
abbrev pub is_part : ℤ → Bool
is_part (pos n) = nat_le n (2 ^ 63)
is_part (negsuc n) = nat_lt n (2 ^ 63)

-- whether a number is a value of `int` (Go: Numeric types)
abbrev pub is_int : ℤ → Bool
is_int (pos n) = nat_lt n (2 ^ 63)
is_int (negsuc n) = nat_lt n (2 ^ 63)
