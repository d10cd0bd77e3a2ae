-- What is there where the rules do not refuse because it is absent. No state that a checked program reaches is refused as
-- unsound.
use Rattle.std.specs.Prelude.{◌≡◌, ℕ, Bool, true, List, Option, Some}
use Rattle.std.specs.List.{list_all}
use Rattle.gr_base.specs.declared.names.ChName.{ChName}
use Rattle.gr_base.specs.declared.values.Value.{Value}
use Rattle.gr_channels.specs.declared.waiter.Waiter.{Waiter}
use Rattle.gr_channels.specs.Channels.{Content}
use Rattle.gr_channels.specs.Objects.{GateContent}
use Rattle.gr_rules.specs.Frames.{Frame}
use Rattle.gr_rules.specs.Deeds.{Communication}
use Rattle.gr_rules.specs.Goroutines.{Wait, waiting, Goroutine}
use Rattle.gr_rules.specs.States.{Cell}
use Rattle.gr_rules.specs.Attempts.{unsound, Attempt, ask_gate}
use Rattle.gr_rules.specs.Actors.{ask_waiter, ask_withdrawn, ask_met}
use Rattle.gr_rules.specs.Communications.{ask_enqueued, ask_waiters}
use Rattle.gr_rules.specs.Selects.{ask_ready}
use Rattle.gr_code.specs.CodeFrames.{CodeFrame}
use Rattle.gr_refine.specs.Contents.{Contents, state_of}
use Rattle.gr_code.specs.Goroutines.{CodeGoroutine}
use Rattle.gr_refine.specs.Leaves.{refused, leaf}
use Rattle.gr_refine.specs.Partners.{all_made, is_waiting, is_made_for, Meets}

-- the attempt is not refused as unsound in the state of what a store contains
abbrev pub Sound : (CodeFrame → Frame) → Contents → Attempt → Type 0
Sound frame s a = ¬ (leaf (state_of frame s) a ≡ refused unsound)

-- a channel whose gate is asked for is there
abbrev pub GateIsThere : Type 0
GateIsThere = (frame : CodeFrame → Frame) (s : Contents) (c : ChName) (k : GateContent → Attempt)
    → Sound frame s (ask_gate c k) → (x : Content) × (s.channels c ≡ Some x)

-- a goroutine that is asked for as a waiter is there, and waits
abbrev pub WaiterIsThere : Type 0
WaiterIsThere = (frame : CodeFrame → Frame) (s : Contents) (n : List ℕ) (k : Goroutine → List Wait → Attempt)
    → Sound frame s (ask_waiter n k) → (g : CodeGoroutine) × (ws : List Wait) × (s.goroutines n ≡ Some g) × (g.status ≡ waiting ws)

-- goroutines that are asked for as waiters are there, and wait
abbrev pub WithdrawnIsThere : Type 0
WithdrawnIsThere = (frame : CodeFrame → Frame) (s : Contents) (names : List (List ℕ)) (cs : List ChName) (k : List Cell → Attempt)
    → Sound frame s (ask_withdrawn names cs k) → all_made s cs ≡ true

abbrev pub EnqueuedIsThere : Type 0
EnqueuedIsThere = (frame : CodeFrame → Frame) (s : Contents) (name : List ℕ) (ws : List (Option ℕ × Communication)) (cs : List ChName)
    (k : List Cell → Attempt)
    → Sound frame s (ask_enqueued name ws cs k) → all_made s cs ≡ true

abbrev pub WaitersAreThere : Type 0
WaitersAreThere = (frame : CodeFrame → Frame) (s : Contents) (names : List (List ℕ)) (k : List (List ℕ × Goroutine × List Wait) → Attempt)
    → Sound frame s (ask_waiters names k) → list_all (λ n. is_waiting (s.goroutines n)) names ≡ true

-- one that waits can be met
abbrev pub MetIsThere : Type 0 → Type 0
MetIsThere X = (frame : CodeFrame → Frame) (s : Contents) (c : ChName) (w : Waiter X) (got : Option (Value × Bool)) (k : List Cell → Attempt)
    → Sound frame s (ask_met c w got k) → Meets frame s c w.go w.case got

-- the channel of a communication is there
abbrev pub CommunicationIsMade : Type 0
CommunicationIsMade = (frame : CodeFrame → Frame) (s : Contents) (w : Communication) (k : Bool → Attempt) → Sound frame s (ask_ready w k)
    → is_made_for s w ≡ true
