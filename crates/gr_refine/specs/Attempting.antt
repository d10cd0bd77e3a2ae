-- From the deed of the innermost frame of a goroutine to the step of the machine.
use Rattle.std.specs.Prelude.{◌≡◌, Bool, true, false, List, [], ◌∷◌, Some}
use Rattle.gr_base.specs.declared.events.Choice.{Choice}
use Rattle.gr_base.specs.declared.events.Choice.TheVariants as choices
use Rattle.gr_base.specs.declared.events.Event.{Event}
use Rattle.gr_program.specs.Programs.{Program}
use Rattle.gr_rules.specs.Outcomes.{Outcome, gives, wrong}
use Rattle.gr_rules.specs.Frames.{Frame}
use Rattle.gr_rules.specs.Deeds.{Communication, Deed, Chooses, deed}
use Rattle.gr_rules.specs.Goroutines.{ready}
use Rattle.gr_rules.specs.States.{live}
use Rattle.gr_rules.specs.Attempts.{no_such_choice, Report}
use Rattle.gr_rules.specs.Actors.{Actor}
use Rattle.gr_rules.specs.Steps.{act_by, attempt, machine}
use Rattle.gr_code.specs.CodeFrames.{CodeFrame}
use Rattle.gr_refine.specs.Contents.{Contents, state_of}
use Rattle.gr_code.specs.Goroutines.{CodeGoroutine}
use Rattle.gr_refine.specs.Leaves.{Refuses}
use Rattle.gr_refine.specs.Machines.{note_of}
use Rattle.gr_refine.specs.Looks.{Ends, actor_of}
use Rattle.gr_refine.specs.Presence.{Sound}
use Rattle.gr_refine.specs.Performing.{StepsTo}

-- the goroutine of an event is there and ready, in a program that runs, and this is its innermost frame
pub record IsUp (s : Contents) (e : Event) (g : CodeGoroutine) (f : CodeFrame) (below : List CodeFrame) : Type 0 where
  pub runs : s.run ≡ live
  pub there : s.goroutines e.go ≡ Some g
  pub is_ready : g.status ≡ ready
  pub frames : g.frames ≡ f ∷ below

-- the attempt is that of the frame's deed
abbrev pub AttemptIsOfTheDeed : Type 0
AttemptIsOfTheDeed = (frame : CodeFrame → Frame) (s : Contents) (p : Program) (e : Event) (g : CodeGoroutine) (f : CodeFrame) (below : List CodeFrame)
    (o : Outcome Deed)
    → IsUp s e g f below → deed (frame f) ≡ o → Ends frame s (attempt p e) (act_by (actor_of frame p e g f below) e.choice o)

-- a step of the attempt is a step of the machine
abbrev pub StepIsOfTheMachine : Type 0
StepIsOfTheMachine = (frame : CodeFrame → Frame) (s t : Contents) (p : Program) (e : Event) (report : Report) (step : StepsTo frame (attempt p e) s t report)
    → (machine p).step (state_of frame s) e ≡ Some (state_of frame t, note_of (state_of frame s) (attempt p e) report step.cells)

abbrev pub DeedIsAStep : Type 0
DeedIsAStep = (frame : CodeFrame → Frame) (s t : Contents) (p : Program) (e : Event) (g : CodeGoroutine) (f : CodeFrame) (below : List CodeFrame)
    (o : Outcome Deed)
    (report : Report) → IsUp s e g f below → deed (frame f) ≡ o
    → StepsTo frame (act_by (actor_of frame p e g f below) e.choice o) s t report → StepsTo frame (attempt p e) s t report

-- whether a deed leaves a choice
abbrev pub leaves_choice : Outcome Deed → Bool
leaves_choice o = elim o [ gives (Chooses ws) ↦ true | _ ↦ false ]

abbrev pub is_plain : Choice → Bool
is_plain choice = elim choice [ choices.Plain ↦ true | _ ↦ false ]

-- only a select has a choice, and it wants one
abbrev pub ChoiceIsRefused : Type 0
ChoiceIsRefused = (frame : CodeFrame → Frame) (s : Contents) (a : Actor) (choice : Choice) (o : Outcome Deed)
    → leaves_choice o ≡ false → is_plain choice ≡ false → Refuses (act_by a choice o) (state_of frame s) no_such_choice

abbrev pub SelectWantsAChoice : Type 0
SelectWantsAChoice = (frame : CodeFrame → Frame) (s : Contents) (a : Actor) (ws : List Communication)
    → Refuses (act_by a choices.Plain (gives (Chooses ws))) (state_of frame s) no_such_choice

-- where no attempt is refused as unsound, a goroutine that is ready has a frame, and that has a deed
abbrev pub ReadyHasAFrame : Type 0
ReadyHasAFrame = (frame : CodeFrame → Frame) (s : Contents) (p : Program) (e : Event) (g : CodeGoroutine)
    → s.run ≡ live → s.goroutines e.go ≡ Some g → g.status ≡ ready → Sound frame s (attempt p e) → ¬ (g.frames ≡ [])

abbrev pub FrameHasADeed : Type 0
FrameHasADeed = (frame : CodeFrame → Frame) (s : Contents) (p : Program) (e : Event) (g : CodeGoroutine) (f : CodeFrame) (below : List CodeFrame)
    → IsUp s e g f below → e.choice ≡ choices.Plain → Sound frame s (attempt p e) → ¬ (deed (frame f) ≡ wrong)
