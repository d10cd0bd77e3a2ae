-- Places of slots, and the numbers in which they are kept.
use Rattle.std.specs.Prelude.{◌≡◌, ℕ, zero, suc, Option, Some, None}
use Rattle.std.specs.Option.{option_map_or}
use Rattle.std.proofs.Common.{refl}

-- the place that a number keeps, if it keeps one
abbrev pub place_in : ℕ → Option ℕ
place_in zero = None
place_in (suc n) = Some n

-- the number that keeps a place, or none
abbrev pub number_of : Option ℕ → ℕ
number_of o = option_map_or suc o 0

pub kept_number : (n : ℕ) → number_of (place_in n) ≡ n
kept_number zero = refl
kept_number (suc n) = refl
