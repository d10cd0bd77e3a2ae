-- Variables and temporaries in one vector.
use Rattle.std.specs.Prelude.{ℕ, ◌<◌, nat_lt, List, [], ◌∷◌, take, slice_get, Option, Some, None, if◌then◌else◌}
use Rattle.gr_base.specs.declared.values.Value.{Value}
use Rattle.gr_rules.specs.Outcomes.{Outcome, gives, ◌>>=◌}
use Rattle.gr_rules.specs.Evaluation.{Variables}
use Rattle.gr_rules.specs.Frames.{assigned}
use Rattle.gr_code.specs.Filling.{Temporaries}
use Rattle.gr_code.specs.Instructions.{Spot, spot}

abbrev pub value_at : Option (Option Value) → Option Value
value_at o = elim o [ Some held ↦ held | None ↦ None ]

-- the temporaries have the numbers from n on
abbrev pub temporaries_in : ℕ → Variables → Temporaries
temporaries_in n all = λ x. if nat_lt x n then None else value_at (slice_get all x)

-- a spot whose n variables, and then its temporaries, stand in this vector
abbrev pub spot_in : ℕ → Variables → ℕ → Spot
spot_in n all on = spot (take n all) (temporaries_in n all) on

-- what is assigned to are variables
abbrev pub TargetsBelow : ℕ → List (Option ℕ) → Type 0
TargetsBelow n [] = Unit {0}
TargetsBelow n (None ∷ ks) = TargetsBelow n ks
TargetsBelow n (Some k ∷ ks) = (k < n) × TargetsBelow n ks

-- values assigned in the vector, and to the variables of a spot
abbrev pub assigned_in : ℕ → List (Option ℕ) → List Value → Variables → ℕ → Outcome Spot
assigned_in n targets values all on = assigned targets values all >>= λ held. gives (spot_in n held on)

abbrev pub assigned_at : List (Option ℕ) → List Value → Spot → Outcome Spot
assigned_at targets values s = assigned targets values s.variables >>= λ held. gives (record s { variables = held })
