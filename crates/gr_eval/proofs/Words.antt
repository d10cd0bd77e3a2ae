-- The machine's operators on the bits of a number of 64 bits give the number that has these bits.
use Rattle.std.proofs.Common.{ℕ, suc, ◌≡◌, refl, sym, ap, ◌∙◌, ◌<◌, arith, to_z, of_z}
use Rattle.std.specs.Prelude.{ℤ, pos, negsuc, ◌+◌, ◌-◌, ◌%◌, ◌^◌, min, max, bit_and, bit_or, bit_xor}
use Rattle.std.specs.Int.{bit_at, w64}
use mir.Val.{SFits}
use Rattle.std.specs.Int.Bits.{and_lt, or_lt, xor_lt}
use Rattle.std.proofs.lemmas.Int.{to_z-of_z}
use Rattle.std.proofs.lemmas.Nat.Bits.{bit_at_and, bit_at_or, bit_at_xor, bit_at_not, same_from_bits_below}
use Rattle.gr_const.specs.Bits.{without, both, either, differing}
use Rattle.gr_const.proofs.BitByBit.{digit, digit_both, digit_either, digit_differing}
use Rattle.gr_rules.specs.Operators.{wrapped}
use Rattle.gr_eval.proofs.Wrapping.{fitting_is}

-- what stands for a number in the machine
abbrev pub word : ℤ → ℕ
word z = of_z w64 z

pub word-lt : (z : ℤ) → SFits w64 z → word z < 2 ^ 64
word-lt (pos a) f = let h : a < 2 ^ 63 = f.sfits in omega arith
word-lt (negsuc a) f = let h : a < 2 ^ 63 = f.sfits in omega arith

word_bit : (z : ℤ) (k : ℕ) → SFits w64 z → k < 64 → bit_at (word z) k ≡ digit z k
word_bit (pos a) k f h = refl
word_bit (negsuc a) k f h =
    let g : a < 2 ^ 63 = f.sfits in
    let l : a < 2 ^ 64 = omega arith in
    let e : 2 ^ 64 - suc a ≡ 2 ^ 64 - 1 - a = omega arith in
    ap (λ m. bit_at m k) e ∙ bit_at_not w64 a k l h

-- a word and a number have the same bits
abbrev SameBits : ℕ → ℤ → Type 0
SameBits n z = (k : ℕ) → k < 64 → bit_at n k ≡ digit z k

-- the number of a word is known by its bits
from_bits : (z : ℤ) (n : ℕ) → SFits w64 z → n < 2 ^ 64 → SameBits n z → to_z w64 n ≡ wrapped z
from_bits z n f h e =
    let same : n ≡ word z = same_from_bits_below 64 n (word z) h (word-lt z f) (λ k l. e k l ∙ sym (word_bit z k f l)) in
    ap (to_z w64) same ∙ to_z-of_z w64 z f ∙ sym (fitting_is z f)

without-lt : (a b : ℕ) → a < 2 ^ 63 → b < 2 ^ 63 → without a b < 2 ^ 63
without-lt a b f g = xor_lt 63 a (bit_and a b) f (and_lt 63 a b f g)

fits_both : (x y : ℤ) → SFits w64 x → SFits w64 y → SFits w64 (both x y)
fits_both (pos a) (pos b) f g = record { sfits = and_lt 63 a b f.sfits g.sfits }
fits_both (pos a) (negsuc b) f g = record { sfits = without-lt a b f.sfits g.sfits }
fits_both (negsuc a) (pos b) f g = record { sfits = without-lt b a g.sfits f.sfits }
fits_both (negsuc a) (negsuc b) f g = record { sfits = or_lt 63 a b f.sfits g.sfits }

fits_either : (x y : ℤ) → SFits w64 x → SFits w64 y → SFits w64 (either x y)
fits_either (pos a) (pos b) f g = record { sfits = or_lt 63 a b f.sfits g.sfits }
fits_either (pos a) (negsuc b) f g = record { sfits = without-lt b a g.sfits f.sfits }
fits_either (negsuc a) (pos b) f g = record { sfits = without-lt a b f.sfits g.sfits }
fits_either (negsuc a) (negsuc b) f g = record { sfits = and_lt 63 a b f.sfits g.sfits }

fits_differing : (x y : ℤ) → SFits w64 x → SFits w64 y → SFits w64 (differing x y)
fits_differing (pos a) (pos b) f g = record { sfits = xor_lt 63 a b f.sfits g.sfits }
fits_differing (pos a) (negsuc b) f g = record { sfits = xor_lt 63 a b f.sfits g.sfits }
fits_differing (negsuc a) (pos b) f g = record { sfits = xor_lt 63 a b f.sfits g.sfits }
fits_differing (negsuc a) (negsuc b) f g = record { sfits = xor_lt 63 a b f.sfits g.sfits }

and_bits : (x y : ℤ) → SFits w64 x → SFits w64 y → SameBits (bit_and (word x) (word y)) (both x y)
and_bits x y f g k l =
    bit_at_and (word x) (word y) k ∙ ap (λ m. min m (bit_at (word y) k)) (word_bit x k f l)
    ∙ ap (λ m. min (digit x k) m) (word_bit y k g l) ∙ sym (digit_both x y k)

or_bits : (x y : ℤ) → SFits w64 x → SFits w64 y → SameBits (bit_or (word x) (word y)) (either x y)
or_bits x y f g k l =
    bit_at_or (word x) (word y) k ∙ ap (λ m. max m (bit_at (word y) k)) (word_bit x k f l)
    ∙ ap (λ m. max (digit x k) m) (word_bit y k g l) ∙ sym (digit_either x y k)

xor_bits : (x y : ℤ) → SFits w64 x → SFits w64 y → SameBits (bit_xor (word x) (word y)) (differing x y)
xor_bits x y f g k l =
    bit_at_xor (word x) (word y) k ∙ ap (λ m. (m + bit_at (word y) k) % 2) (word_bit x k f l)
    ∙ ap (λ m. (digit x k + m) % 2) (word_bit y k g l) ∙ sym (digit_differing x y k)

pub word_and : (x y : ℤ) → SFits w64 x → SFits w64 y → to_z w64 (bit_and (of_z w64 x) (of_z w64 y)) ≡ wrapped (both x y)
word_and x y f g =
    from_bits (both x y) (bit_and (word x) (word y)) (fits_both x y f g) (and_lt 64 (word x) (word y) (word-lt x f) (word-lt y g))
    (and_bits x y f g)

pub word_or : (x y : ℤ) → SFits w64 x → SFits w64 y → to_z w64 (bit_or (of_z w64 x) (of_z w64 y)) ≡ wrapped (either x y)
word_or x y f g =
    from_bits (either x y) (bit_or (word x) (word y)) (fits_either x y f g) (or_lt 64 (word x) (word y) (word-lt x f) (word-lt y g))
    (or_bits x y f g)

pub word_xor : (x y : ℤ) → SFits w64 x → SFits w64 y → to_z w64 (bit_xor (of_z w64 x) (of_z w64 y)) ≡ wrapped (differing x y)
word_xor x y f g =
    from_bits (differing x y) (bit_xor (word x) (word y)) (fits_differing x y f g) (xor_lt 64 (word x) (word y) (word-lt x f) (word-lt y g))
    (xor_bits x y f g)
