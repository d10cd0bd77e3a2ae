-- The machine's operators on the bits of a number give the number that has these bits.
use Rattle.std.proofs.Common.{ℕ, suc, ◌≡◌, refl, sym, ap, ◌∙◌, ◌<◌, arith, to_z, of_z}
use Rattle.std.specs.Prelude.{ℤ, pos, negsuc, ◌+◌, ◌-◌, ◌%◌, ◌^◌, min, max, bit_and, bit_or, bit_xor}
use Rattle.std.specs.Int.{bit_at, w128}
use mir.Val.{SFits}
use Rattle.std.specs.Int.Bits.{and_lt, or_lt, xor_lt}
use Rattle.std.proofs.lemmas.Int.{to_z-of_z}
use Rattle.std.proofs.lemmas.Nat.Bits.{bit_at_and, bit_at_or, bit_at_xor, bit_at_not, same_from_bits_below}
use Rattle.gr_const.specs.Bits.{without, both, either, differing}
use Rattle.gr_const.proofs.BitByBit.{digit, digit_both, digit_either, digit_differing}

-- what stands for a number in the machine
abbrev word : ℤ → ℕ
word z = of_z w128 z

word-lt : (z : ℤ) → SFits w128 z → word z < 2 ^ 128
word-lt (pos a) f = let h : a < 2 ^ 127 = f.sfits in omega arith
word-lt (negsuc a) f = let h : a < 2 ^ 127 = f.sfits in omega arith

word_bit : (z : ℤ) (k : ℕ) → SFits w128 z → k < 128 → bit_at (word z) k ≡ digit z k
word_bit (pos a) k f h = refl
word_bit (negsuc a) k f h =
    let g : a < 2 ^ 127 = f.sfits in
    let l : a < 2 ^ 128 = omega arith in
    let e : 2 ^ 128 - suc a ≡ 2 ^ 128 - 1 - a = omega arith in
    ap (λ m. bit_at m k) e ∙ bit_at_not w128 a k l h

-- the number of a word is known by its bits
from_bits : (z : ℤ) (n : ℕ) → SFits w128 z → n < 2 ^ 128 → ((k : ℕ) → k < 128 → bit_at n k ≡ digit z k) → to_z w128 n ≡ z
from_bits z n f h e = ap (to_z w128) (same_from_bits_below 128 n (word z) h (word-lt z f) (λ k l. e k l ∙ sym (word_bit z k f l))) ∙ to_z-of_z w128 z f

without-lt : (a b : ℕ) → a < 2 ^ 127 → b < 2 ^ 127 → without a b < 2 ^ 127
without-lt a b f g = xor_lt 127 a (bit_and a b) f (and_lt 127 a b f g)

fits_both : (x y : ℤ) → SFits w128 x → SFits w128 y → SFits w128 (both x y)
fits_both (pos a) (pos b) f g = record { sfits = and_lt 127 a b f.sfits g.sfits }
fits_both (pos a) (negsuc b) f g = record { sfits = without-lt a b f.sfits g.sfits }
fits_both (negsuc a) (pos b) f g = record { sfits = without-lt b a g.sfits f.sfits }
fits_both (negsuc a) (negsuc b) f g = record { sfits = or_lt 127 a b f.sfits g.sfits }

fits_either : (x y : ℤ) → SFits w128 x → SFits w128 y → SFits w128 (either x y)
fits_either (pos a) (pos b) f g = record { sfits = or_lt 127 a b f.sfits g.sfits }
fits_either (pos a) (negsuc b) f g = record { sfits = without-lt b a g.sfits f.sfits }
fits_either (negsuc a) (pos b) f g = record { sfits = without-lt a b f.sfits g.sfits }
fits_either (negsuc a) (negsuc b) f g = record { sfits = and_lt 127 a b f.sfits g.sfits }

fits_differing : (x y : ℤ) → SFits w128 x → SFits w128 y → SFits w128 (differing x y)
fits_differing (pos a) (pos b) f g = record { sfits = xor_lt 127 a b f.sfits g.sfits }
fits_differing (pos a) (negsuc b) f g = record { sfits = xor_lt 127 a b f.sfits g.sfits }
fits_differing (negsuc a) (pos b) f g = record { sfits = xor_lt 127 a b f.sfits g.sfits }
fits_differing (negsuc a) (negsuc b) f g = record { sfits = xor_lt 127 a b f.sfits g.sfits }

pub word_and : (x y : ℤ) → SFits w128 x → SFits w128 y → to_z w128 (bit_and (of_z w128 x) (of_z w128 y)) ≡ both x y
word_and x y f g = from_bits (both x y) (bit_and (word x) (word y)) (fits_both x y f g) (and_lt 128 (word x) (word y) (word-lt x f) (word-lt y g)) (λ k l. bit_at_and (word x) (word y) k ∙ ap (λ m. min m (bit_at (word y) k)) (word_bit x k f l) ∙ ap (λ m. min (digit x k) m) (word_bit y k g l) ∙ sym (digit_both x y k))

pub word_or : (x y : ℤ) → SFits w128 x → SFits w128 y → to_z w128 (bit_or (of_z w128 x) (of_z w128 y)) ≡ either x y
word_or x y f g = from_bits (either x y) (bit_or (word x) (word y)) (fits_either x y f g) (or_lt 128 (word x) (word y) (word-lt x f) (word-lt y g)) (λ k l. bit_at_or (word x) (word y) k ∙ ap (λ m. max m (bit_at (word y) k)) (word_bit x k f l) ∙ ap (λ m. max (digit x k) m) (word_bit y k g l) ∙ sym (digit_either x y k))

pub word_xor : (x y : ℤ) → SFits w128 x → SFits w128 y → to_z w128 (bit_xor (of_z w128 x) (of_z w128 y)) ≡ differing x y
word_xor x y f g = from_bits (differing x y) (bit_xor (word x) (word y)) (fits_differing x y f g) (xor_lt 128 (word x) (word y) (word-lt x f) (word-lt y g)) (λ k l. bit_at_xor (word x) (word y) k ∙ ap (λ m. (m + bit_at (word y) k) % 2) (word_bit x k f l) ∙ ap (λ m. (digit x k + m) % 2) (word_bit y k g l) ∙ sym (digit_differing x y k))
