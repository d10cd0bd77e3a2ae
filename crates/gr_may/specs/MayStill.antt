-- What a goroutine may still do, it or what it starts: what all bounds that cover the state permit.
use Rattle.std.specs.Prelude.{◌≡◌, ℕ, true, List, [], ◌∷◌, ◌++◌, Option, Some, None, option_and_then}
use Rattle.gr_base.specs.declared.names.ChName.{ChName}
use Rattle.gr_program.specs.Programs.{Program}
use Rattle.gr_rules.specs.States.{State}
use Rattle.gr_rules.specs.Attempts.{Operation, sends_on, receives_from, takes_len_of, takes_cap_of, closes}
use Rattle.gr_laws.specs.Reached.{Logged}
use Rattle.gr_may.specs.Uses.{Use, to_send, to_receive, to_close, to_count, Usage}
use Rattle.gr_may.specs.Covers.{Covers}

abbrev pub MayStill : Program → State → List ℕ → ChName → Use → Type 0
MayStill p s n c u = (usage : Usage) → Covers p usage s → usage.permits n c u ≡ true

-- the goroutine itself, and those that it starts from the state on, and what they start
pub data Starts (s : State) (n : List ℕ) : List ℕ → Type 0 where
  itself : Starts s n n
  further : {m : List ℕ} (k : ℕ) → Starts s n m → s.goroutines (m ++ k ∷ []) ≡ None → Starts s n (m ++ k ∷ [])

-- the capacity of a channel never changes, so asking for it is no use
abbrev pub use_of : Operation → Option (ChName × Use)
use_of (sends_on c) = Some (c, to_send)
use_of (receives_from c) = Some (c, to_receive)
use_of (takes_len_of c) = Some (c, to_count)
use_of (takes_cap_of c) = None
use_of (closes c) = Some (c, to_close)

-- the step uses the channel so
abbrev pub UsesSo : (p : Program) → Logged p → ChName → Use → Type 0
UsesSo p r c u = option_and_then use_of r.note.kind.operation ≡ Some (c, u)
