-- What is left of a number in 64 bits, as std and as the rules say it.
use Rattle.std.proofs.Common.{ℕ, suc, ◌≡◌, ap, ◌∙◌, sym, arith}
use Rattle.std.specs.Prelude.{ℤ, pos, negsuc, ◌-◌, ◌%◌, ◌^◌, ◌*ℤ◌, nat_lt, FitsSigned, if◌then◌else◌}
use Rattle.std.specs.Int.{w64, int_wrap, int_wrapping_mul}
use Rattle.std.proofs.lemmas.Int.{int_wrap_fits, wrapping_mul_is}
use Rattle.gr_rules.specs.Operators.{wrapped}

one_less : (m n : ℕ) → m - suc n ≡ m - 1 - n
one_less m n = omega arith

-- the number that a word stands for, which may be given as the rules say it
abbrev from_word : ℕ → ℕ → ℤ
from_word n k = if nat_lt n (2 ^ 63) then pos n else negsuc k

pub wrap_is : (z : ℤ) → int_wrap w64 z ≡ wrapped z
unfolding int_wrap
wrap_is (pos a) = ap (from_word (a % 2 ^ 64)) (one_less (2 ^ 64) (a % 2 ^ 64))
wrap_is (negsuc a) = ap (from_word (2 ^ 64 - 1 - a % 2 ^ 64)) (one_less (2 ^ 64) (2 ^ 64 - 1 - a % 2 ^ 64))

pub product_is : (a b : ℤ) → FitsSigned w64 a → FitsSigned w64 b → int_wrapping_mul w64 a b ≡ wrapped (a *ℤ b)
product_is a b f g = wrapping_mul_is w64 a b f g ∙ wrap_is (a *ℤ b)

-- a number of 64 bits stays as it is
pub fitting_is : (z : ℤ) → FitsSigned w64 z → wrapped z ≡ z
fitting_is z f = sym (wrap_is z) ∙ int_wrap_fits w64 z f
