-- What quotient and remainder come to.
use Rattle.std.proofs.Common.{ℕ, zero, suc, ◌≡◌, refl, ap, ◌<◌, ◌≤◌, arith}
use Rattle.std.specs.Prelude.{ℤ, pos, negsuc, neg_ℤ, ◌<ℤ◌, ◌+◌, ◌*◌, ◌/◌, ◌^◌, ◌+ℤ◌, ◌*ℤ◌, ◌≤ℤ◌, ◌≢◌, int_rem, unsigned_abs}
use Rattle.std.proofs.lemmas.Int.{ints, quot-rem, rem_below}
use Rattle.std.proofs.Math.Nat.{zero-mod, suc-mul, lt-div-mul-add, div-mul-le_self}
use Rattle.std.proofs.Math.Pow.{pow_pos}
use Rattle.gr_const.specs.Laws.{Divides, RoundsDown}

magnitude : (y : ℤ) → y ≢ pos 0 → 0 < unsigned_abs y
magnitude (pos zero) d = absurd (d refl)
magnitude (pos (suc n)) d = omega arith
magnitude (negsuc n) d = omega arith

stays_up : (x y : ℤ) → pos 0 ≤ℤ x → pos 0 ≤ℤ int_rem x y
stays_up (pos a) y h = omega (arith, ints)
stays_up (negsuc a) y h = omega (arith, ints)

stays_down : (x y : ℤ) → x ≤ℤ pos 0 → int_rem x y ≤ℤ pos 0
stays_down (pos zero) y h = rw (zero-mod (unsigned_abs y)) (omega (arith, ints))
stays_down (pos (suc a)) y h = omega (arith, ints)
stays_down (negsuc a) y h = omega (arith, ints)

pub divides : Divides
divides x y d = (quot-rem x y, rem_below x y (magnitude y d), stays_up x y, stays_down x y)

past : (a m : ℕ) → 0 < m → a < suc (a / m) * m
past a m h = rw (suc-mul (a / m) m) (lt-div-mul-add h)

less_one : (p : ℕ) → negsuc (suc p) +ℤ pos 1 ≡ negsuc p
less_one p = omega (arith, ints)

at_most : (a v : ℕ) → a < v → neg_ℤ (pos v) ≤ℤ negsuc a
at_most a v h = omega (arith, ints)

above : (a v : ℕ) → v ≤ a → negsuc a <ℤ neg_ℤ (pos v)
above a v h = omega (arith, ints)

more_than : (a m q : ℕ) → q * m ≤ a → negsuc a <ℤ ((negsuc q +ℤ pos 1) *ℤ pos m)
more_than a m zero h = record { lt = tt }
more_than a m (suc p) h = rw (less_one p) (above a (suc p * m) h)

plus_one : (q m : ℕ) → (q + 1) * m ≡ suc q * m
plus_one q m = ap (λ n. n * m) (omega arith)

floor : (a m : ℕ) → 0 < m → ((pos (a / m) *ℤ pos m) ≤ℤ pos a) × (pos a <ℤ ((pos (a / m) +ℤ pos 1) *ℤ pos m))
floor a m h =
    let l : a / m * m ≤ a = div-mul-le_self a m in
    let g : a < (a / m + 1) * m = rw (plus_one (a / m) m) (past a m h) in
    (omega (arith, ints), omega (arith, ints))

pub rounds_down : RoundsDown
rounds_down (pos a) n = floor a (2 ^ n) (pow_pos n)
rounds_down (negsuc a) n = (at_most a (suc (a / 2 ^ n) * 2 ^ n) (past a (2 ^ n) (pow_pos n)), more_than a (2 ^ n) (a / 2 ^ n) (div-mul-le_self a (2 ^ n)))
