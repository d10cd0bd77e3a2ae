-- Touches as contracts see them, and the numbers in which they are kept.
use Rattle.std.specs.Prelude.{◌≡◌, ◌+◌, ◌*◌, ◌/◌, ◌%◌, ◌==◌, ℕ, Bool, if◌then◌else◌}
use Rattle.std.proofs.Common.{arith}
use Rattle.std.proofs.lemmas.Nat.{div-add-mod', mod_below}

-- a touch: the place of its step in the log, counted from 0, and whether the step wrote the object
pub record TouchSeen : Type 0 where
  pub place : ℕ
  pub writes : Bool

-- the touch that a number keeps
abbrev pub kept_in : ℕ → TouchSeen
kept_in n = record { place = n / 2; writes = n % 2 == 1 }

-- the number that keeps a touch
abbrev pub number_of : TouchSeen → ℕ
number_of t = t.place * 2 + (if t.writes then 1 else 0)

pub kept_number : (n : ℕ) → number_of (kept_in n) ≡ n
kept_number n = Prim.grind (arith, div-add-mod' n 2, mod_below n 2)
