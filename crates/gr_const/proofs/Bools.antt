-- The bits of whole numbers, as truth values.
use Rattle.std.proofs.Common.{ℕ, zero, suc, ◌≡◌, refl, sym, ap, ◌∙◌, ◌<◌, ◌≤◌, arith}
use Rattle.std.specs.Prelude.{ℤ, pos, negsuc, ◌+◌, ◌-◌, ◌%◌, ◌^◌, ◌==◌, min, max, Bool, not, ◌&&◌, ◌||◌}
use Rattle.std.specs.Int.{bit_at}
use Rattle.std.proofs.Math.Nat.{pow-suc}
use Rattle.std.proofs.Math.Pow.{pow_mono, pow_pos}
use Rattle.std.proofs.lemmas.Nat.Bits.{bit_at-lt, same_from_bits, bit_at_above}
use Rattle.gr_const.specs.Bits.{bit, complement, both, either, differing}
use Rattle.gr_const.specs.Constants.{same}
use Rattle.gr_const.specs.Laws.{HasBits, BitsDecide}
use Rattle.gr_const.proofs.BitByBit.{digit, digit-lt, digit_both, digit_either, digit_differing, digit_complement}

-- ---- 0 and 1 as truth values

even : (p : ℕ) → p < 2 → (p == 0) ≡ (1 - p == 1)
even zero h = refl
even (suc zero) h = refl
even (suc (suc n)) h = absurd (omega arith)

ones_both : (p q : ℕ) → p < 2 → q < 2 → (min p q == 1) ≡ ((p == 1) && (q == 1))
ones_both zero zero f g = refl
ones_both zero (suc zero) f g = refl
ones_both (suc zero) zero f g = refl
ones_both (suc zero) (suc zero) f g = refl
ones_both p (suc (suc q)) f g = absurd (omega arith)
ones_both (suc (suc p)) q f g = absurd (omega arith)

ones_either : (p q : ℕ) → p < 2 → q < 2 → (max p q == 1) ≡ ((p == 1) || (q == 1))
ones_either zero zero f g = refl
ones_either zero (suc zero) f g = refl
ones_either (suc zero) zero f g = refl
ones_either (suc zero) (suc zero) f g = refl
ones_either p (suc (suc q)) f g = absurd (omega arith)
ones_either (suc (suc p)) q f g = absurd (omega arith)

ones_differ : (p q : ℕ) → p < 2 → q < 2 → ((p + q) % 2 == 1) ≡ not (same (p == 1) (q == 1))
ones_differ zero zero f g = refl
ones_differ zero (suc zero) f g = refl
ones_differ (suc zero) zero f g = refl
ones_differ (suc zero) (suc zero) f g = refl
ones_differ p (suc (suc q)) f g = absurd (omega arith)
ones_differ (suc (suc p)) q f g = absurd (omega arith)

ones_turned : (p : ℕ) → p < 2 → (1 - p == 1) ≡ not (p == 1)
ones_turned zero h = refl
ones_turned (suc zero) h = refl
ones_turned (suc (suc n)) h = absurd (omega arith)

same_ones : (p q : ℕ) → p < 2 → q < 2 → (p == 1) ≡ (q == 1) → p ≡ q
same_ones zero zero f g e = refl
same_ones zero (suc zero) f g e = cc
same_ones (suc zero) zero f g e = cc
same_ones (suc zero) (suc zero) f g e = refl
same_ones p (suc (suc q)) f g e = absurd (omega arith)
same_ones (suc (suc p)) q f g e = absurd (omega arith)

below_pow : (n : ℕ) → n < 2 ^ n
below_pow zero = pow_pos zero
below_pow (suc n) = let h : n < 2 ^ n = below_pow n in rw pow-suc (omega arith)

pow_above : (n k : ℕ) → n ≤ k → n < 2 ^ k
pow_above n k h = let g : 2 ^ n ≤ 2 ^ k = pow_mono h in let l : n < 2 ^ n = below_pow n in omega arith

bit_is : (x : ℤ) (k : ℕ) → bit x k ≡ (digit x k == 1)
bit_is (pos a) k = refl
bit_is (negsuc a) k = even (bit_at a k) (bit_at-lt a k)

-- ---- the laws

one : {m n : ℕ} → m ≡ n → (m == 1) ≡ (n == 1)
one e = ap (λ m. m == 1) e

on_bits : (f : Bool → Bool → Bool) (x y : ℤ) (k : ℕ) → f (digit x k == 1) (digit y k == 1) ≡ f (bit x k) (bit y k)
on_bits f x y k = ap (λ b. f b (digit y k == 1)) (sym (bit_is x k)) ∙ ap (f (bit x k)) (sym (bit_is y k))

pub has_bits : HasBits
has_bits x y k = record {
  complement = bit_is (complement x) k ∙ one (digit_complement x k) ∙ ones_turned (digit x k) (digit-lt x k) ∙ ap not (sym (bit_is x k));
  both = bit_is (both x y) k ∙ one (digit_both x y k) ∙ ones_both (digit x k) (digit y k) (digit-lt x k) (digit-lt y k) ∙ on_bits (λ a b. a && b) x y k;
  either = bit_is (either x y) k ∙ one (digit_either x y k) ∙ ones_either (digit x k) (digit y k) (digit-lt x k) (digit-lt y k) ∙ on_bits (λ a b. a || b) x y k;
  differing = bit_is (differing x y) k ∙ one (digit_differing x y k) ∙ ones_differ (digit x k) (digit y k) (digit-lt x k) (digit-lt y k) ∙ on_bits (λ a b. not (same a b)) x y k;
}

same_digit : (x y : ℤ) → ((k : ℕ) → bit x k ≡ bit y k) → (k : ℕ) → digit x k ≡ digit y k
same_digit x y e k = same_ones (digit x k) (digit y k) (digit-lt x k) (digit-lt y k) (sym (bit_is x k) ∙ e k ∙ bit_is y k)

-- far enough up a number that isn't negative has the digit 0, and one that is has the digit 1
unlike : (a b : ℕ) → ((k : ℕ) → bit_at a k ≡ 1 - bit_at b k) → ⊥
unlike a b e =
    let z : bit_at a (a + b) ≡ 0 = bit_at_above a (a + b) (a + b) (pow_above a (a + b) (omega arith)) (omega arith) in
    let w : bit_at b (a + b) ≡ 0 = bit_at_above b (a + b) (a + b) (pow_above b (a + b) (omega arith)) (omega arith) in
    let h : bit_at a (a + b) ≡ 1 - bit_at b (a + b) = e (a + b) in
    omega arith

turned_back : (p q : ℕ) → p < 2 → q < 2 → 1 - p ≡ 1 - q → p ≡ q
turned_back p q f g e = omega arith

pub bits_decide : BitsDecide
bits_decide (pos a) (pos b) e = ap pos (same_from_bits a b (same_digit (pos a) (pos b) e))
bits_decide (pos a) (negsuc b) e = absurd (unlike a b (same_digit (pos a) (negsuc b) e))
bits_decide (negsuc a) (pos b) e = absurd (unlike b a (λ k. sym (same_digit (negsuc a) (pos b) e k)))
bits_decide (negsuc a) (negsuc b) e = ap negsuc (same_from_bits a b (λ k. turned_back (bit_at a k) (bit_at b k) (bit_at-lt a k) (bit_at-lt b k) (same_digit (negsuc a) (negsuc b) e k)))
