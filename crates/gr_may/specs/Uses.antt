-- What a channel is used for, and bounds on it. Pierce and Sangiorgi, "Typing and subtyping for mobile processes" (1996): the type
-- of a channel says for which operations it may be used.
use Rattle.std.specs.Prelude.{◌≡◌, ℕ, Bool, true, false, List, Option, Some, None}
use Rattle.gr_base.specs.declared.names.ChName.{ChName}
use Rattle.gr_base.specs.declared.values.Value.{Value}
use Rattle.gr_base.specs.declared.values.Value.TheVariants.{Chan}

pub data Use : Type 0 where
  to_send : Use
  to_receive : Use
  to_close : Use
  -- to ask for its length
  to_count : Use
  -- to send it on a channel
  to_share : Use

abbrev pub Uses : Type 0
Uses = Use → Bool

abbrev pub no_use : Uses
no_use u = false

abbrev pub only : Use → Uses
only to_send to_send = true
only to_receive to_receive = true
only to_close to_close = true
only to_count to_count = true
only to_share to_share = true
only _ _ = false

abbrev pub Within : Uses → Uses → Type 0
Within some all = (u : Use) → some u ≡ true → all u ≡ true

-- Bounds: for what a channel may be used that stands in a variable, by the numbers of the function and of the variable; that is
-- the result of the function with a number; and that the goroutine with a name knows.
pub record Usage : Type 0 where
  pub variables : ℕ → ℕ → Uses
  pub results : ℕ → Uses
  pub permits : List ℕ → ChName → Uses

module _ (usage : Usage) where
  -- where the value is a channel, the goroutine with the name may use it so
  abbrev pub MayUse : List ℕ → Uses → Value → Type 0
  MayUse n uses (Chan (Some c)) = Within uses (usage.permits n c)
  MayUse n uses _ = Unit {0}

  -- where it is a channel, each goroutine may use it in every way
  abbrev pub Shared : Value → Type 0
  Shared (Chan (Some c)) = (n : List ℕ) (u : Use) → usage.permits n c u ≡ true
  Shared _ = Unit {0}

-- the uses of a variable to which a value is given; the blank identifier keeps nothing
abbrev pub target : (ℕ → Uses) → Option ℕ → Uses
target uses None = no_use
target uses (Some x) = uses x
