-- The steps of a select, by what the store contains (Go: Select statements).
use Rattle.std.specs.Prelude.{◌≡◌, ℕ, true, false, List, Some, None}
use Rattle.std.specs.List.{list_any, list_all}
use Rattle.gr_base.specs.declared.values.Value.{Value}
use Rattle.gr_base.specs.declared.events.Choice.TheVariants as choices
use Rattle.gr_base.specs.declared.kinds.Fault.{Fault}
use Rattle.gr_base.specs.declared.kinds.Kind.TheVariants as kinds
use Rattle.gr_rules.specs.Outcomes.{gives, faults, wrong}
use Rattle.gr_rules.specs.Frames.{Frame}
use Rattle.gr_rules.specs.Deeds.{Communication, past}
use Rattle.gr_rules.specs.States.{faulted}
use Rattle.gr_rules.specs.Attempts.{no_such_choice, Attempt, refuse}
use Rattle.gr_rules.specs.Actors.{Actor, with_frames, onward, clause_at}
use Rattle.gr_rules.specs.Communications.{communicate, wait}
use Rattle.gr_rules.specs.Selects.{values_of, if_none_ready, default_from, numbered, choose}
use Rattle.gr_code.specs.CodeFrames.{CodeFrame}
use Rattle.gr_refine.specs.Contents.{Contents, goroutine_of, state_of, with_goroutine}
use Rattle.gr_code.specs.Goroutines.{CodeGoroutine}
use Rattle.gr_refine.specs.Leaves.{Refuses}
use Rattle.gr_refine.specs.Looks.{Ends}
use Rattle.gr_refine.specs.Partners.{AreChannels, is_made_for, can_proceed}
use Rattle.gr_refine.specs.Presence.{Sound}
use Rattle.gr_refine.specs.Performing.{reported, StepsTo}

-- where it is not refused as unsound, whether any can proceed decides
abbrev pub NoneReadyIsMade : Type 0
NoneReadyIsMade = (frame : CodeFrame → Frame) (s : Contents) (ws : List Communication) (then_this : Attempt)
    → AreChannels s → Sound frame s (if_none_ready ws then_this) → list_any (can_proceed s) ws ≡ false → list_all (is_made_for s) ws ≡ true

abbrev pub SomeReadyIsSound : Type 0
SomeReadyIsSound = (frame : CodeFrame → Frame) (s : Contents) (ws : List Communication) (then_this : Attempt)
    → AreChannels s → Sound frame s (if_none_ready ws then_this) → list_any (can_proceed s) ws ≡ true
    → Refuses (if_none_ready ws then_this) (state_of frame s) no_such_choice

module _ (frame : CodeFrame → Frame) (s : Contents) (a : Actor) (ws : List Communication) where
  -- a clause that is picked communicates
  abbrev pub PickingCommunicates : Type 0
  PickingCommunicates = (i : ℕ) (vs : List Value) (w : Communication) → values_of ws ≡ gives vs → clause_at ws i ≡ Some w
      → Ends frame s (choose a ws (choices.Pick i)) (communicate a (Some i) w (refuse no_such_choice))

  abbrev pub PickingOfNone : Type 0
  PickingOfNone = (i : ℕ) → clause_at ws i ≡ None → Refuses (choose a ws (choices.Pick i)) (state_of frame s) no_such_choice

  -- a fault in a value comes before the communication, where that could proceed
  abbrev pub PickingFaults : Type 0
  PickingFaults = (i : ℕ) (w : Communication) (e : Fault) (g : CodeGoroutine) → AreChannels s → Sound frame s (choose a ws (choices.Pick i))
      → values_of ws ≡ faults e → clause_at ws i ≡ Some w → can_proceed s w ≡ true → goroutine_of frame g ≡ with_frames a a.before.frames
      → StepsTo frame (choose a ws (choices.Pick i)) s (record (with_goroutine s a.name (Some g)) { run = faulted e }) (reported a None None (kinds.Fault e))

  abbrev pub PickingCannot : Type 0
  PickingCannot = (i : ℕ) (w : Communication) (e : Fault) → AreChannels s → Sound frame s (choose a ws (choices.Pick i))
      → values_of ws ≡ faults e → clause_at ws i ≡ Some w → can_proceed s w ≡ false → Refuses (choose a ws (choices.Pick i)) (state_of frame s) no_such_choice

  abbrev pub PickingHasValues : Type 0
  PickingHasValues = (i : ℕ) (w : Communication) → Sound frame s (choose a ws (choices.Pick i)) → clause_at ws i ≡ Some w → ¬ (values_of ws ≡ wrong)

  -- with no clause ready the default clause is taken
  abbrev pub DefaultIsTaken : Type 0
  DefaultIsTaken = (i : ℕ) (vs : List Value) (on : Frame) (g : CodeGoroutine) → AreChannels s → Sound frame s (choose a ws choices.Default)
      → default_from 1 ws ≡ Some i → list_any (can_proceed s) ws ≡ false → values_of ws ≡ gives vs
      → past a.frame (Some i) None ≡ gives on → goroutine_of frame g ≡ onward a on
      → StepsTo frame (choose a ws choices.Default) s (with_goroutine s a.name (Some g)) (reported a None None kinds.Default)

  abbrev pub DefaultFaults : Type 0
  DefaultFaults = (i : ℕ) (e : Fault) (g : CodeGoroutine) → AreChannels s → Sound frame s (choose a ws choices.Default)
      → default_from 1 ws ≡ Some i → list_any (can_proceed s) ws ≡ false → values_of ws ≡ faults e → goroutine_of frame g ≡ with_frames a a.before.frames
      → StepsTo frame (choose a ws choices.Default) s (record (with_goroutine s a.name (Some g)) { run = faulted e }) (reported a None None (kinds.Fault e))

  abbrev pub DefaultIsNone : Type 0
  DefaultIsNone = default_from 1 ws ≡ None → Refuses (choose a ws choices.Default) (state_of frame s) no_such_choice

  abbrev pub DefaultIsLate : Type 0
  DefaultIsLate = (i : ℕ) → AreChannels s → Sound frame s (choose a ws choices.Default) → default_from 1 ws ≡ Some i → list_any (can_proceed s) ws ≡ true
      → Refuses (choose a ws choices.Default) (state_of frame s) no_such_choice

  abbrev pub DefaultHasValues : Type 0
  DefaultHasValues = (i : ℕ) → AreChannels s → Sound frame s (choose a ws choices.Default) → default_from 1 ws ≡ Some i → list_any (can_proceed s) ws ≡ false
      → (¬ (values_of ws ≡ wrong)) × ((vs : List Value) → values_of ws ≡ gives vs → ¬ (past a.frame (Some i) None ≡ wrong))

  -- with no clause ready and no default clause it waits
  abbrev pub ParkingWaits : Type 0
  ParkingWaits = (vs : List Value) → AreChannels s → Sound frame s (choose a ws choices.Park)
      → default_from 1 ws ≡ None → list_any (can_proceed s) ws ≡ false → values_of ws ≡ gives vs
      → Ends frame s (choose a ws choices.Park) (wait a None kinds.SelectWait (numbered 1 ws))

  abbrev pub ParkingFaults : Type 0
  ParkingFaults = (e : Fault) (g : CodeGoroutine) → AreChannels s → Sound frame s (choose a ws choices.Park)
      → default_from 1 ws ≡ None → list_any (can_proceed s) ws ≡ false → values_of ws ≡ faults e → goroutine_of frame g ≡ with_frames a a.before.frames
      → StepsTo frame (choose a ws choices.Park) s (record (with_goroutine s a.name (Some g)) { run = faulted e }) (reported a None None (kinds.Fault e))

  abbrev pub ParkingHasDefault : Type 0
  ParkingHasDefault = (i : ℕ) → default_from 1 ws ≡ Some i → Refuses (choose a ws choices.Park) (state_of frame s) no_such_choice

  abbrev pub ParkingIsLate : Type 0
  ParkingIsLate = AreChannels s → Sound frame s (choose a ws choices.Park) → default_from 1 ws ≡ None → list_any (can_proceed s) ws ≡ true
      → Refuses (choose a ws choices.Park) (state_of frame s) no_such_choice

  abbrev pub ParkingHasValues : Type 0
  ParkingHasValues = AreChannels s → Sound frame s (choose a ws choices.Park) → default_from 1 ws ≡ None → list_any (can_proceed s) ws ≡ false
      → ¬ (values_of ws ≡ wrong)

-- P holds of each select, in each state
abbrev pub OfEachSelect : ((CodeFrame → Frame) → Contents → Actor → List Communication → Type 0) → Type 0
OfEachSelect P = (frame : CodeFrame → Frame) (s : Contents) (a : Actor) (ws : List Communication) → P frame s a ws
