-- Shifts, and whole numbers bit by bit, in two's complement without end (Go: Arithmetic operators, Integer operators).
use Rattle.std.specs.Prelude.{ℕ, ℤ, pos, negsuc, ◌*ℤ◌, ◌/◌, ◌%◌, ◌^◌, ◌==◌, Bool, bit_and, bit_or, bit_xor}

-- x * 2^n
abbrev pub shift_left : ℤ → ℕ → ℤ
shift_left x n = x *ℤ pos (2 ^ n)

-- x / 2^n, rounded down; `negsuc n` is -n-1
abbrev pub shift_right : ℤ → ℕ → ℤ
shift_right (pos a) n = pos (a / 2 ^ n)
shift_right (negsuc a) n = negsuc (a / 2 ^ n)

abbrev pub is_odd : ℤ → Bool
is_odd (pos a) = a % 2 == 1
is_odd (negsuc a) = a % 2 == 0

-- whether bit k of x is 1
abbrev pub bit : ℤ → ℕ → Bool
bit x k = is_odd (shift_right x k)

-- `^x`, which turns each bit, is -x-1
abbrev pub complement : ℤ → ℤ
complement (pos a) = negsuc a
complement (negsuc a) = pos a

-- the bits of a that b has not
abbrev pub without : ℕ → ℕ → ℕ
without a b = bit_xor a (bit_and a b)

-- a negative number is the complement of one that isn't, so the bits of the latter decide; `law_of_bits` says which bits
-- each result has
abbrev pub both : ℤ → ℤ → ℤ
both (pos a) (pos b) = pos (bit_and a b)
both (pos a) (negsuc b) = pos (without a b)
both (negsuc a) (pos b) = pos (without b a)
both (negsuc a) (negsuc b) = negsuc (bit_or a b)

abbrev pub either : ℤ → ℤ → ℤ
either (pos a) (pos b) = pos (bit_or a b)
either (pos a) (negsuc b) = negsuc (without b a)
either (negsuc a) (pos b) = negsuc (without a b)
either (negsuc a) (negsuc b) = negsuc (bit_and a b)

abbrev pub differing : ℤ → ℤ → ℤ
differing (pos a) (pos b) = pos (bit_xor a b)
differing (pos a) (negsuc b) = negsuc (bit_xor a b)
differing (negsuc a) (pos b) = negsuc (bit_xor a b)
differing (negsuc a) (negsuc b) = pos (bit_xor a b)
