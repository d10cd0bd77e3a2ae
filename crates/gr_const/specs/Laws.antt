-- What the operators on whole numbers come to, in words that do not depend on how they are defined.
use Rattle.std.specs.Prelude.{ℕ, ℤ, pos, ◌+ℤ◌, ◌*ℤ◌, ◌≤ℤ◌, ◌<ℤ◌, ◌<◌, ◌^◌, int_div, int_rem, unsigned_abs, not, ◌&&◌, ◌||◌, ◌≡◌, ◌≢◌}
use Rattle.gr_const.specs.Constants.{same}
use Rattle.gr_const.specs.Bits.{shift_right, bit, complement, both, either, differing}

-- Go: Integer operators: x = q*y + r and |r| < |y|, and r has the sign of x, so that q is rounded toward zero
abbrev pub Divides : Type 0
Divides = (x y : ℤ) → y ≢ pos 0 → (int_div x y *ℤ y +ℤ int_rem x y ≡ x) × (unsigned_abs (int_rem x y) < unsigned_abs y) × (pos 0 ≤ℤ x → pos 0 ≤ℤ int_rem x y) × (x ≤ℤ pos 0 → int_rem x y ≤ℤ pos 0)

-- Go: Arithmetic operators: `x >> n` is x / 2^n rounded down
abbrev pub RoundsDown : Type 0
RoundsDown = (x : ℤ) (n : ℕ) → ((shift_right x n *ℤ pos (2 ^ n)) ≤ℤ x) × (x <ℤ ((shift_right x n +ℤ pos 1) *ℤ pos (2 ^ n)))

-- bit k of each result (Go: Arithmetic operators)
pub record BitsAt (x y : ℤ) (k : ℕ) : Type 0 where
  pub complement : bit (complement x) k ≡ not (bit x k)
  pub both : bit (both x y) k ≡ (bit x k && bit y k)
  pub either : bit (either x y) k ≡ (bit x k || bit y k)
  pub differing : bit (differing x y) k ≡ not (same (bit x k) (bit y k))

abbrev pub HasBits : Type 0
HasBits = (x y : ℤ) (k : ℕ) → BitsAt x y k

-- numbers with the same bits are equal
abbrev pub BitsDecide : Type 0
BitsDecide = (x y : ℤ) → ((k : ℕ) → bit x k ≡ bit y k) → x ≡ y
