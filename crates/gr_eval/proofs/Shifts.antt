-- Shifts by few and by many bits.
use Rattle.std.proofs.Common.{ℕ, ◌≡◌, refl, sym, ap, ◌∙◌, ◌<◌, ◌≤◌, inl, inr, arith, to_z}
use Rattle.std.proofs.lemmas.Bool.{cases_Bool}
use Rattle.std.specs.Prelude.{ℤ, pos, negsuc, ◌*ℤ◌, ◌*◌, ◌/◌, ◌%◌, ◌^◌, ◌-◌, ◌+◌, min, nat_le, true, false}
use Rattle.std.specs.Int.{w64, int_wrap, int_min}
use mir.Val.{SFits}
use lib.Signed.{lt_z, le_z, shr_z, mag_shr}
use Rattle.std.proofs.lemmas.Int.{ints, clamps, to_z-of_z, wrapping_mul-bits, int_wrap-mul_right}
use Rattle.std.proofs.lemmas.Nat.{pow-add}
use Rattle.std.proofs.Math.Pow.{pow_mono}
use Rattle.std.proofs.Math.Nat.{div-eq_of_lt, lt_of_le_of_lt, mul-mod_left, mod-eq_of_lt}
use Rattle.gr_const.specs.Bits.{shift_left, shift_right}
use Rattle.gr_base.specs.declared.values.Value.{Value}
use Rattle.gr_base.specs.declared.values.Value.TheVariants.{Int}
use Rattle.gr_rules.specs.Outcomes.{Outcome, gives}
use Rattle.gr_rules.specs.Operators.{wrapped, shifted}
use Rattle.gr_eval.proofs.Wrapping.{wrap_is, fitting_is}
use Rattle.gr_eval.proofs.Words.{word, word-lt}

-- the number that a word stands for
abbrev signed : ℕ → ℤ
signed n = to_z w64 n

abbrev value : ℤ → Outcome Value
value z = gives (Int z)

plain : (z : ℤ) → SFits w64 z → signed (word z) ≡ z
plain z f = to_z-of_z w64 z f

-- the count is not negative
counts : (k : ℕ) → SFits w64 (negsuc k) → lt_z (signed (word (negsuc k))) (pos 0) ≡ false → true ≡ false
counts k f a = ap (λ z. lt_z z (pos 0)) (sym (plain (negsuc k) f)) ∙ a

-- ---- to the left

-- 2^64 and each higher power leave nothing in 64 bits
no_low_bits : (n : ℕ) → 64 ≤ n → 2 ^ n % 2 ^ 64 ≡ 0
no_low_bits n h =
    let e : n ≡ (n - 64) + 64 = omega arith in
    ap (λ m. 2 ^ m % 2 ^ 64) e ∙ ap (λ m. m % 2 ^ 64) (pow-add 2 (n - 64) 64) ∙ mul-mod_left (2 ^ (n - 64)) (2 ^ 64)

as_word : (n : ℕ) → int_wrap w64 (pos n) ≡ signed (n % 2 ^ 64)
unfolding int_wrap
as_word n = refl

times_none : (x : ℤ) → x *ℤ pos 0 ≡ pos 0
times_none x = omega (arith, ints)

-- the second factor may be wrapped first
second_wrapped : (x : ℤ) (n : ℕ) → wrapped (x *ℤ pos n) ≡ int_wrap w64 (x *ℤ signed (n % 2 ^ 64))
second_wrapped x n =
    sym (wrap_is (x *ℤ pos n)) ∙ sym (int_wrap-mul_right w64 x (pos n)) ∙ ap (λ z. int_wrap w64 (x *ℤ z)) (as_word n)

nothing_left : (x : ℤ) (n : ℕ) → 64 ≤ n → wrapped (shift_left x n) ≡ pos 0
nothing_left x n h =
    second_wrapped x (2 ^ n) ∙ ap (λ m. int_wrap w64 (x *ℤ signed m)) (no_low_bits n h)
    ∙ ap (int_wrap w64) (times_none x) ∙ wrap_is (pos 0)

small_power : (k : ℕ) → k < 64 → 2 ^ k < 2 ^ 64
small_power k h =
    let i : k ≤ 63 = omega arith in
    let l : 2 ^ k ≤ 2 ^ 63 = pow_mono i in
    omega arith

some_left : (x : ℤ) (k : ℕ) → SFits w64 x → k < 64 → wrapped (shift_left x k) ≡ signed (word x * 2 ^ k % 2 ^ 64)
some_left x k f h =
    let l : 2 ^ k < 2 ^ 64 = small_power k h in
    second_wrapped x (2 ^ k) ∙ ap (λ m. int_wrap w64 (x *ℤ signed m)) (mod-eq_of_lt l)
    ∙ ap (λ z. int_wrap w64 (z *ℤ signed (2 ^ k))) (sym (plain x f))
    ∙ sym (wrapping_mul-bits w64 (word x) (2 ^ k) (word-lt x f) l)

pub left_far : (x n : ℤ) → SFits w64 n → lt_z (signed (word n)) (pos 0) ≡ false → le_z (pos 64) (signed (word n)) ≡ true
    → shifted shift_left x n ≡ gives (Int (pos 0))
left_far x (negsuc k) f a b = let e : true ≡ false = counts k f a in cc
left_far x (pos k) f a b =
    let e : le_z (pos 64) (pos k) ≡ true = ap (le_z (pos 64)) (sym (plain (pos k) f)) ∙ b in
    ap value (nothing_left x k (grind arith))

pub left_near : (x n : ℤ) → SFits w64 x → SFits w64 n → lt_z (signed (word n)) (pos 0) ≡ false
    → le_z (pos 64) (signed (word n)) ≡ false
    → shifted shift_left x n ≡ gives (Int (signed (word x * 2 ^ word n % 2 ^ 64)))
left_near x (negsuc k) f g a b = let e : true ≡ false = counts k g a in cc
left_near x (pos k) f g a b =
    let e : le_z (pos 64) (pos k) ≡ false = ap (le_z (pos 64)) (sym (plain (pos k) g)) ∙ b in
    ap value (some_left x k f (grind arith))

-- ---- to the right

-- nothing is left of a number of so few bits
gone : (a n : ℕ) → a < 2 ^ 63 → 63 ≤ n → a / 2 ^ n ≡ 0
gone a n p h = div-eq_of_lt (let g : 2 ^ 63 ≤ 2 ^ n = pow_mono h in omega arith)

clamped_far : (a n : ℕ) → a < 2 ^ 63 → 63 ≤ n → a / 2 ^ (min n 63) ≡ a / 2 ^ n
clamped_far a n p h =
    let e : min n 63 ≡ 63 = omega arith in
    ap (λ m. a / 2 ^ m) e ∙ gone a 63 p (omega arith) ∙ sym (gone a n p h)

clamped : (a n : ℕ) → a < 2 ^ 63 → a / 2 ^ (min n 63) ≡ a / 2 ^ n
clamped a n p = elim (cases_Bool (nat_le 63 n)) as (λ _. a / 2 ^ (min n 63) ≡ a / 2 ^ n) [
  | inl t ↦ clamped_far a n p (grind arith)
  | inr f ↦ ap (λ m. a / 2 ^ m) (grind arith)
]

-- shifted so far to the right a number has nothing left but its sign
far_right : (x : ℤ) (n : ℕ) → SFits w64 x → shift_right x (min n 63) ≡ shift_right x n
far_right (pos a) n f = ap pos (clamped a n f.sfits)
far_right (negsuc a) n f = ap negsuc (clamped a n f.sfits)

least : (k : ℕ) → int_min (pos k) (pos 63) ≡ pos (min k 63)
least k = omega (arith, ints, clamps)

shift_is : (x : ℤ) (n : ℕ) → shr_z x (2 ^ n) ≡ shift_right x n
shift_is (pos a) n = refl
shift_is (negsuc a) n = refl

shift_fits : (x : ℤ) (m : ℕ) → SFits w64 x → SFits w64 (shr_z x m)
shift_fits x m f = record { sfits = lt_of_le_of_lt (mag_shr x m) f.sfits }

some_right : (x : ℤ) (k : ℕ) → SFits w64 x → wrapped (shift_right x k) ≡ signed (word (shr_z x (2 ^ min k 63)))
some_right x k f =
    let g : SFits w64 (shr_z x (2 ^ min k 63)) = shift_fits x (2 ^ min k 63) f in
    let e : shr_z x (2 ^ min k 63) ≡ shift_right x k = shift_is x (min k 63) ∙ far_right x k f in
    ap wrapped (sym e) ∙ fitting_is (shr_z x (2 ^ min k 63)) g ∙ sym (plain (shr_z x (2 ^ min k 63)) g)

pub right_is : (x n m : ℤ) → SFits w64 x → SFits w64 n → lt_z (signed (word n)) (pos 0) ≡ false
    → m ≡ int_min (signed (word n)) (pos 63)
    → shifted shift_right x n ≡ gives (Int (signed (word (shr_z (signed (word x)) (2 ^ word m)))))
right_is x (negsuc k) m f g a e = let t : true ≡ false = counts k g a in cc
right_is x (pos k) m f g a e =
    let count : m ≡ pos (min k 63) = e ∙ ap (λ z. int_min z (pos 63)) (plain (pos k) g) ∙ least k in
    ap value (some_right x k f ∙ ap (λ z. signed (word (shr_z x (2 ^ word z)))) (sym count)
    ∙ ap (λ z. signed (word (shr_z z (2 ^ word m)))) (sym (plain x f)))
