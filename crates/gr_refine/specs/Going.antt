-- The local steps of a goroutine, and the end of the program, by what the store contains.
use Rattle.std.specs.Prelude.{◌≡◌, ℕ, true, false, List, [], ◌∷◌, ◌++◌, Some, None}
use Rattle.gr_base.specs.declared.values.Value.{Value}
use Rattle.gr_base.specs.declared.kinds.Fault.{Fault}
use Rattle.gr_base.specs.declared.kinds.Fault.TheVariants.{CallDepth}
use Rattle.gr_base.specs.declared.kinds.Kind.TheVariants as kinds
use Rattle.gr_base.specs.declared.events.Choice.TheVariants as choices
use Rattle.gr_rules.specs.Outcomes.{gives, faults, wrong}
use Rattle.gr_rules.specs.Frames.{Frame, goes_on}
use Rattle.gr_rules.specs.Deeds.{Moves, resumed}
use Rattle.gr_rules.specs.States.{ended, call_of}
use Rattle.gr_rules.specs.Actors.{Actor, with_frames, onward}
use Rattle.gr_rules.specs.Steps.{is_deepest, enter, done, leave, print, act, act_by}
use Rattle.gr_code.specs.CodeFrames.{CodeFrame}
use Rattle.gr_refine.specs.Contents.{Contents, goroutine_of, with_goroutine}
use Rattle.gr_code.specs.Goroutines.{CodeGoroutine}
use Rattle.gr_refine.specs.Presence.{Sound}
use Rattle.gr_refine.specs.Performing.{reported, StepsTo}
use Rattle.gr_refine.specs.Making.{faults_in}

module _ (frame : CodeFrame → Frame) (s : Contents) (a : Actor) where
  -- its frame goes on
  abbrev pub MovingMoves : Type 0
  MovingMoves = (on : Frame) (g : CodeGoroutine) → goroutine_of frame g ≡ onward a on
      → StepsTo frame (act a (Moves on)) s (with_goroutine s a.name (Some g)) (reported a None None kinds.Pure)

  -- evaluation of what the step needs is a fault (Go: Run-time panics)
  abbrev pub EvaluatingFaults : Type 0
  EvaluatingFaults = (e : Fault) (g : CodeGoroutine) → goroutine_of frame g ≡ with_frames a a.before.frames
      → StepsTo frame (act_by a choices.Plain (faults e)) s (faults_in s a g e) (reported a None None (kinds.Fault e))

  -- it prints a line (Go: Bootstrapping)
  abbrev pub PrintingPrints : Type 0
  PrintingPrints = (line : List ℕ) (g : CodeGoroutine) → goroutine_of frame g ≡ record (onward a (goes_on a.frame)) { text = a.before.text ++ line ∷ [] }
      → StepsTo frame (print a line) s (with_goroutine s a.name (Some g)) (record (reported a None None kinds.Pure) { printed = Some line })

  -- it calls (Go: Calls)
  abbrev pub EnteringPushes : Type 0
  EnteringPushes = (function : ℕ) (vs : List Value) (first : Frame) (g : CodeGoroutine) → is_deepest a.before.frames ≡ false
      → call_of a.program function vs ≡ gives first → goroutine_of frame g ≡ with_frames a (first ∷ a.before.frames)
      → StepsTo frame (enter a function vs) s (with_goroutine s a.name (Some g)) (reported a None None kinds.Call)

  abbrev pub EnteringTooDeepFaults : Type 0
  EnteringTooDeepFaults = (function : ℕ) (vs : List Value) (g : CodeGoroutine) → is_deepest a.before.frames ≡ true
      → goroutine_of frame g ≡ with_frames a a.before.frames
      → StepsTo frame (enter a function vs) s (faults_in s a g CallDepth) (reported a None None (kinds.Fault CallDepth))

  abbrev pub EnteringGoesOn : Type 0
  EnteringGoesOn = (function : ℕ) (vs : List Value) → Sound frame s (enter a function vs) → is_deepest a.before.frames ≡ false
      → ¬ (call_of a.program function vs ≡ wrong)

  -- it returns to a caller (Go: Return statements)
  abbrev pub LeavingPops : Type 0
  LeavingPops = (v : Value) (f on : Frame) (below : List Frame) (g : CodeGoroutine) → resumed f v ≡ gives on
      → goroutine_of frame g ≡ with_frames a (on ∷ below)
      → StepsTo frame (leave a v (f ∷ below)) s (with_goroutine s a.name (Some g)) (reported a None None kinds.Return)

  abbrev pub LeavingGoesOn : Type 0
  LeavingGoesOn = (v : Value) (f : Frame) (below : List Frame) → Sound frame s (leave a v (f ∷ below)) → ¬ (resumed f v ≡ wrong)

  -- out of its outermost frame it is done, and with `main` the program is (Go: Program execution, Go statements)
  abbrev pub FinishingEnds : Type 0
  FinishingEnds = (v : Value) (n : ℕ) (ns : List ℕ) (g : CodeGoroutine) → a.name ≡ n ∷ ns → goroutine_of frame g ≡ done a
      → StepsTo frame (leave a v []) s (with_goroutine s a.name (Some g)) (reported a None None kinds.Return)

  abbrev pub FinishingEndsTheProgram : Type 0
  FinishingEndsTheProgram = (v : Value) (g : CodeGoroutine) → a.name ≡ [] → goroutine_of frame g ≡ done a
      → StepsTo frame (leave a v []) s (record (with_goroutine s a.name (Some g)) { run = ended }) (reported a None None kinds.Exit)
