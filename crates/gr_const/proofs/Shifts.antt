-- Shifts by few and by many bits.
use Rattle.std.proofs.Common.{ℕ, zero, suc, ◌≡◌, refl, sym, ap, ◌∙◌, ◌<◌, ◌≤◌, ◌≢◌, inl, inr, arith, to_z, of_z}
use Rattle.std.proofs.lemmas.Bool.{cases_Bool}
use Rattle.std.specs.Prelude.{ℤ, pos, negsuc, neg_ℤ, ◌*ℤ◌, ◌*◌, ◌/◌, ◌^◌, min, nat_le, nat_lt, true, false, Err, ◌%◌}
use Rattle.std.specs.Int.{w128, int_min}
use mir.Val.{SFits}
use lib.Signed.{lt_z, le_z, shr_z, mag_shr}
use Rattle.std.proofs.lemmas.Int.{ints, clamps, to_z-of_z, to_z_pos}
use Rattle.std.proofs.lemmas.Nat.{one_shl}
use Rattle.gr_const.specs.Parts.{is_part}
use Rattle.gr_const.specs.Constants.{part, shifted}
use Rattle.gr_const.specs.Outcomes.{in_range}
use Rattle.gr_const.specs.declared.constant.ConstError.TheVariants.{Range}
use Rattle.gr_const.specs.Bits.{shift_left, shift_right}
use Rattle.std.proofs.Math.Pow.{pow_mono}
use Rattle.std.proofs.Math.Nat.{div-eq_of_lt, suc-mul, lt_of_le_of_lt}

over : (c v : ℕ) → c < v → nat_le v c ≡ false
over c v h = grind arith

under : (c w : ℕ) → c < suc w → nat_lt w c ≡ false
under c w h = grind arith

over_negative : (v : ℕ) → 2 ^ 63 < v → is_part (neg_ℤ (pos v)) ≡ false
over_negative zero h = absurd (omega arith)
over_negative (suc w) h = under (2 ^ 63) w h

times : (a m c : ℕ) → c < m → c < suc a * m
times a m c h = rw suc-mul (omega arith)

many : (a n : ℕ) → 64 ≤ n → 2 ^ 63 < suc a * 2 ^ n
many a n h = times a (2 ^ n) (2 ^ 63) (let g : 2 ^ 64 ≤ 2 ^ n = pow_mono h in omega arith)

-- no number but 0 is a part when it is shifted so far to the left
pub far_left : (x : ℤ) (n : ℕ) → x ≢ pos 0 → 64 ≤ n → is_part (shift_left x n) ≡ false
far_left (pos zero) n d h = absurd (d refl)
far_left (pos (suc a)) n d h = over (2 ^ 63) (suc a * 2 ^ n) (many a n h)
far_left (negsuc a) n d h = over_negative (suc a * 2 ^ n) (many a n h)

-- nothing is left of a number of so few bits
gone : (a n : ℕ) → a < 2 ^ 127 → 127 ≤ n → a / 2 ^ n ≡ 0
gone a n p h = div-eq_of_lt (let g : 2 ^ 127 ≤ 2 ^ n = pow_mono h in omega arith)

clamped_far : (a n : ℕ) → a < 2 ^ 127 → 127 ≤ n → a / 2 ^ (min n 127) ≡ a / 2 ^ n
clamped_far a n p h = let e : min n 127 ≡ 127 = omega arith in ap (λ m. a / 2 ^ m) e ∙ gone a 127 p (omega arith) ∙ sym (gone a n p h)

clamped : (a n : ℕ) → a < 2 ^ 127 → a / 2 ^ (min n 127) ≡ a / 2 ^ n
clamped a n p = elim (cases_Bool (nat_le 127 n)) as (λ _. a / 2 ^ (min n 127) ≡ a / 2 ^ n) [ inl t ↦ clamped_far a n p (grind arith) | inr f ↦ ap (λ m. a / 2 ^ m) (grind arith) ]

-- shifted so far to the right a number of the machine has nothing left but its sign
pub far_right : (x : ℤ) (n : ℕ) → SFits w128 x → shift_right x (min n 127) ≡ shift_right x n
far_right (pos a) n f = ap pos (clamped a n f.sfits)
far_right (negsuc a) n f = ap negsuc (clamped a n f.sfits)

-- ---- what the machine's shifts give

-- `1 << k`
power : (k : ℕ) → k < 64 → to_z w128 ((1 * 2 ^ k) % 2 ^ 128) ≡ pos (2 ^ k)
power k h =
    let i : k ≤ 63 = omega arith in
    let l : 2 ^ k ≤ 2 ^ 63 = pow_mono i in
    let b : k < 128 = omega arith in
    let g : 2 ^ k < 2 ^ 127 = omega arith in
    ap (to_z w128) (one_shl k 128 b) ∙ to_z_pos w128 (2 ^ k) g

plain : (z : ℤ) → SFits w128 z → z ≡ to_z w128 (of_z w128 z)
plain z f = sym (to_z-of_z w128 z f)

out : (z : ℤ) → is_part z ≡ false → Err Range ≡ in_range (part z)
out z e = rw e refl

pub left_far : (x n : ℤ) → SFits w128 n → lt_z (to_z w128 (of_z w128 n)) (pos 0) ≡ false → (of_z w128 x ≡ 0 → ⊥) → le_z (pos 64) (to_z w128 (of_z w128 n)) ≡ true → Err Range ≡ in_range (shifted shift_left x n)
left_far x (negsuc k) f a b d = refl
left_far x (pos k) f a b d =
    let e : le_z (pos 64) (pos k) ≡ true = ap (le_z (pos 64)) (plain (pos k) f) ∙ d in
    let h : 64 ≤ k = grind arith in
    out (shift_left x k) (far_left x k (λ z. b (ap (of_z w128) z)) h)

pub left_near : (x n : ℤ) → SFits w128 x → SFits w128 n → lt_z (to_z w128 (of_z w128 n)) (pos 0) ≡ false → le_z (pos 64) (to_z w128 (of_z w128 n)) ≡ false → in_range (part (to_z w128 (of_z w128 x) *ℤ to_z w128 ((1 * 2 ^ of_z w128 n) % 2 ^ 128))) ≡ in_range (shifted shift_left x n)
left_near x (negsuc k) f g a d =
    let e : lt_z (negsuc k) (pos 0) ≡ false = ap (λ z. lt_z z (pos 0)) (plain (negsuc k) g) ∙ a in
    cc
left_near x (pos k) f g a d =
    let e : le_z (pos 64) (pos k) ≡ false = ap (le_z (pos 64)) (plain (pos k) g) ∙ d in
    ap (λ z. in_range (part (z *ℤ to_z w128 ((1 * 2 ^ k) % 2 ^ 128)))) (to_z-of_z w128 x f) ∙ ap (λ z. in_range (part (x *ℤ z))) (power k (grind arith))

least : (k : ℕ) → int_min (pos k) (pos 127) ≡ pos (min k 127)
least k = omega (arith, ints, clamps)

shift_is : (x : ℤ) (n : ℕ) → shr_z x (2 ^ n) ≡ shift_right x n
shift_is (pos a) n = refl
shift_is (negsuc a) n = refl

shift_fits : (x : ℤ) (m : ℕ) → SFits w128 x → SFits w128 (shr_z x m)
shift_fits x m f = record { sfits = lt_of_le_of_lt (mag_shr x m) f.sfits }

pub right_is : (x n m : ℤ) → SFits w128 x → SFits w128 n → lt_z (to_z w128 (of_z w128 n)) (pos 0) ≡ false → m ≡ int_min (to_z w128 (of_z w128 n)) (pos 127) → in_range (part (to_z w128 (of_z w128 (shr_z (to_z w128 (of_z w128 x)) (2 ^ of_z w128 m))))) ≡ in_range (shifted shift_right x n)
right_is x (negsuc k) m f g a e =
    let t : lt_z (negsuc k) (pos 0) ≡ false = ap (λ z. lt_z z (pos 0)) (plain (negsuc k) g) ∙ a in
    cc
right_is x (pos k) m f g a e =
    let count : m ≡ pos (min k 127) = e ∙ ap (λ z. int_min z (pos 127)) (sym (plain (pos k) g)) ∙ least k in
    let moved : to_z w128 (of_z w128 (shr_z (to_z w128 (of_z w128 x)) (2 ^ of_z w128 m))) ≡ to_z w128 (of_z w128 (shr_z x (2 ^ min k 127))) = ap (λ z. to_z w128 (of_z w128 (shr_z z (2 ^ of_z w128 m)))) (sym (plain x f)) ∙ ap (λ z. to_z w128 (of_z w128 (shr_z x (2 ^ of_z w128 z)))) count in
    ap (λ z. in_range (part z)) (moved ∙ to_z-of_z w128 (shr_z x (2 ^ min k 127)) (shift_fits x (2 ^ min k 127) f) ∙ shift_is x (min k 127) ∙ far_right x k f)
