-- Which events are refused, and why.
use Rattle.std.specs.Prelude.{◌≡◌, ◌⊎◌, ℕ, ◌%◌, ◌==◌, Bool, true, false, not, ◌&&◌, ◌||◌, is_some, is_none, List, ◌∷◌, Option, Some, None}
use Rattle.std.specs.List.{list_any}
use Rattle.gr_base.specs.declared.names.ChName.{ChName}
use Rattle.gr_base.specs.declared.events.Choice.{Choice}
use Rattle.gr_base.specs.declared.events.Choice.TheVariants as choices
use Rattle.gr_channels.specs.Objects.{GateContent, has_any}
use Rattle.gr_rules.specs.Outcomes.{Outcome, gives}
use Rattle.gr_rules.specs.Frames.{Frame}
use Rattle.gr_rules.specs.Deeds.{Communication, Sending, Receiving, Deed, Chooses}
use Rattle.gr_rules.specs.Goroutines.{Status, ready, Goroutine}
use Rattle.gr_rules.specs.States.{live, State}
use Rattle.gr_rules.specs.Actors.{clause_at}
use Rattle.gr_rules.specs.Selects.{default_from}

-- the program runs, and the goroutine is there with this status
pub record HasStatus (s : State) (g : List ℕ) (status : Status) : Type 0 where
  pub runs : s.run ≡ live
  pub goroutine : Goroutine
  pub here : s.goroutines g ≡ Some goroutine
  pub has : goroutine.status ≡ status

-- the program runs, and the goroutine is ready, with this frame innermost
pub record StandsReady (s : State) (g : List ℕ) (f : Frame) : Type 0 where
  pub runs : s.run ≡ live
  pub goroutine : Goroutine
  pub here : s.goroutines g ≡ Some goroutine
  pub is_ready : goroutine.status ≡ ready
  pub below : List Frame
  pub frames : goroutine.frames ≡ f ∷ below

abbrev pub is_select : Outcome Deed → Bool
is_select d = elim d [ gives (Chooses cs) ↦ true | _ ↦ false ]

-- whether a buffer has room, and whether it has an item
abbrev pub has_room : State → ChName → GateContent → Bool
has_room s c gate = not (gate.capacity == 0) && is_none (s.slots c (s.tails c % gate.capacity))

abbrev pub has_item : State → ChName → GateContent → Bool
has_item s c gate = not (gate.capacity == 0) && is_some (s.slots c (s.heads c % gate.capacity))

abbrev pub at_gate : Option GateContent → (GateContent → Bool) → Bool
at_gate None test = false
at_gate (Some gate) test = test gate

-- Whether a communication can proceed (Go: Send statements, Receive operator). A send can where the channel is closed, which
-- is a fault, where a receiver waits, or where there is room. A receive can where the channel is closed, where a sender
-- waits, or where there is an item. On nil none can.
abbrev pub can_proceed : State → Communication → Bool
can_proceed s (Sending (Some c) v) = at_gate (s.gates c) (λ gate. gate.closed || has_any gate.receivers || has_room s c gate)
can_proceed s (Receiving (Some c) zero) = at_gate (s.gates c) (λ gate. gate.closed || has_any gate.senders || has_item s c gate)
can_proceed s _ = false

-- A choice that a select does not have (Go: Select statements). It picks a clause that is not there or cannot proceed. Or it
-- takes the default clause, where there is none or a clause can proceed. Or it waits, where there is a default clause or a
-- clause can proceed.
abbrev pub CannotPick : State → Option Communication → Type 0
CannotPick s None = Unit {0}
CannotPick s (Some c) = can_proceed s c ≡ false

abbrev pub HasNoSuch : State → List Communication → Choice → Type 0
HasNoSuch s cs choices.Plain = Unit {0}
HasNoSuch s cs (choices.Pick i) = CannotPick s (clause_at cs i)
HasNoSuch s cs choices.Default = (default_from 1 cs ≡ None) ⊎ (list_any (can_proceed s) cs ≡ true)
HasNoSuch s cs choices.Park = ((i : ℕ) × (default_from 1 cs ≡ Some i)) ⊎ (list_any (can_proceed s) cs ≡ true)
