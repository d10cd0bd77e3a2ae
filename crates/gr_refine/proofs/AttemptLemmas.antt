-- From the deed of the innermost frame of a goroutine to the step of the machine.
use Rattle.std.proofs.Common.{◌≡◌, true, false, List, map, Some, refl, sym, ◌∙◌, ap}
use Rattle.gr_base.specs.declared.events.Choice.{Choice}
use Rattle.gr_base.specs.declared.events.Choice.TheVariants as choices
use Rattle.gr_rules.specs.Outcomes.{Outcome, gives, wrong}
use Rattle.gr_rules.specs.Deeds.{Deed, Chooses}
use Rattle.gr_rules.specs.States.{State}
use Rattle.gr_rules.specs.Attempts.{no_such_choice, refuse}
use Rattle.gr_rules.specs.Actors.{Actor}
use Rattle.gr_rules.specs.Steps.{act_by, act_in, attempt}
use Rattle.gr_code.specs.CodeFrames.{CodeFrame}
use Rattle.gr_refine.specs.Contents.{goroutine_of, state_of}
use Rattle.gr_refine.specs.Leaves.{leaf}
use Rattle.gr_refine.specs.Machines.{note_of}
use Rattle.gr_refine.specs.Looks.{actor_of}
use Rattle.gr_refine.specs.Attempting.{leaves_choice, is_plain, AttemptIsOfTheDeed, StepIsOfTheMachine, DeedIsAStep, ChoiceIsRefused, SelectWantsAChoice, ReadyHasAFrame, FrameHasADeed}
use Rattle.gr_refine.proofs.LookLemmas.{attempt_is_of_the_frame, attempt_at_frames}
use Rattle.gr_refine.proofs.MachineLemmas.{performed_is_step}
use Rattle.gr_refine.proofs.PerformingLemmas.{same_end_same_step}

pub attempt_is_of_the_deed : AttemptIsOfTheDeed
attempt_is_of_the_deed frame s p e g f below o up is =
    attempt_is_of_the_frame frame s p e g f below up.runs up.there up.is_ready up.frames
    ∙ ap (λ o. leaf (state_of frame s) (act_by (actor_of frame p e g f below) e.choice o)) is

pub step_is_of_the_machine : StepIsOfTheMachine
step_is_of_the_machine frame s t p e report step =
    performed_is_step p (state_of frame s) e report step.cells step.ends
    ∙ ap (λ (u : State). Some (u, note_of (state_of frame s) (attempt p e) report step.cells)) (sym step.after)

pub deed_is_a_step : DeedIsAStep
deed_is_a_step frame s t p e g f below o report up is step =
    same_end_same_step frame (attempt p e) (act_by (actor_of frame p e g f below) e.choice o) s t report
    (attempt_is_of_the_deed frame s p e g f below o up is) step

-- with a choice, a deed that leaves none
refused_with : (a : Actor) (choice : Choice) (o : Outcome Deed) → leaves_choice o ≡ false → is_plain choice ≡ false
    → act_by a choice o ≡ refuse no_such_choice
refused_with a choices.Plain o plain chosen = absurd (let no : true ≡ false = chosen in cc)
refused_with a _ (gives (Chooses ws)) plain chosen = absurd (let no : true ≡ false = plain in cc)
refused_with a (choices.Pick i) _ plain chosen = refl
refused_with a choices.Default _ plain chosen = refl
refused_with a choices.Park _ plain chosen = refl

pub choice_is_refused : ChoiceIsRefused
choice_is_refused frame s a choice o plain chosen = ap (leaf (state_of frame s)) (refused_with a choice o plain chosen)

pub select_wants_a_choice : SelectWantsAChoice
select_wants_a_choice frame s a ws = refl

pub ready_has_a_frame : ReadyHasAFrame
ready_has_a_frame frame s p e g runs there status sound none =
    sound (attempt_at_frames frame s p e g runs there status
    ∙ ap (λ (fs : List CodeFrame). leaf (state_of frame s) (act_in p e (goroutine_of frame g) (map frame fs))) none)

pub frame_has_a_deed : FrameHasADeed
frame_has_a_deed frame s p e g f below up plain sound is =
    sound (attempt_is_of_the_deed frame s p e g f below wrong up is
    ∙ ap (λ choice. leaf (state_of frame s) (act_by (actor_of frame p e g f below) choice wrong)) plain)
