-- Goroutines (Go: Go statements).
use Rattle.std.specs.Prelude.{ℕ, List, [], ◌∷◌, Option}
use Rattle.gr_base.specs.declared.names.ChName.{ChName}
use Rattle.gr_rules.specs.Frames.{Frame}

-- what a goroutine waits for, with the number of the clause where it waits in a select
pub data Wait : Type 0 where
  ToSend : (channel : ChName) (clause : Option ℕ) → Wait
  ToReceive : (channel : ChName) (clause : Option ℕ) → Wait

abbrev pub channel_of : Wait → ChName
channel_of (ToSend c clause) = c
channel_of (ToReceive c clause) = c

pub data Status : Type 0 where
  ready : Status
  -- for one of these; forever, where there is none
  waiting : (waits : List Wait) → Status
  finished : Status

-- its frames, the innermost first; how many steps it took, goroutines it started and channels it made; and the lines that
-- it printed
pub record Goroutine : Type 0 where
  pub status : Status
  pub frames : List Frame
  pub steps : ℕ
  pub children : ℕ
  pub channels : ℕ
  pub text : List (List ℕ)

-- a goroutine before its first step
abbrev pub started : Frame → Goroutine
started f = record { status = ready; frames = f ∷ []; steps = 0; children = 0; channels = 0; text = [] }
