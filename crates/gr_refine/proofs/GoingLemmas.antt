-- The steps of a goroutine that reach no further than itself, by what the store contains.
use Rattle.std.proofs.Common.{◌≡◌, ℕ, Bool, true, false, if◌then◌else◌, List, [], ◌∷◌, ◌++◌, Some, None, refl, ◌∙◌, ap}
use Rattle.gr_base.specs.declared.values.Value.{Value}
use Rattle.gr_base.specs.declared.kinds.Fault.TheVariants.{CallDepth}
use Rattle.gr_base.specs.declared.kinds.Kind.TheVariants as kinds
use Rattle.gr_rules.specs.Outcomes.{Outcome}
use Rattle.gr_rules.specs.Frames.{Frame, goes_on}
use Rattle.gr_rules.specs.Goroutines.{Goroutine}
use Rattle.gr_rules.specs.States.{ended, State, put, run_has, go_has, call_of}
use Rattle.gr_rules.specs.Attempts.{Attempt}
use Rattle.gr_rules.specs.Actors.{Actor, with_frames, onward, simply, fault, given}
use Rattle.gr_rules.specs.Steps.{is_deepest, enter, done, finish}
use Rattle.gr_code.specs.CodeFrames.{CodeFrame}
use Rattle.gr_refine.specs.Contents.{Contents, state_of, with_goroutine}
use Rattle.gr_refine.specs.Leaves.{leaf}
use Rattle.gr_refine.specs.Looks.{Ends}
use Rattle.gr_refine.specs.Going.{MovingMoves, EvaluatingFaults, PrintingPrints, EnteringPushes, EnteringTooDeepFaults, EnteringGoesOn, LeavingPops, LeavingGoesOn, FinishingEnds, FinishingEndsTheProgram}
use Rattle.gr_refine.proofs.ChangeLemmas.{goroutine_is_written}
use Rattle.gr_refine.proofs.PerformingLemmas.{same_end_same_step, doing_is_a_step, fault_is_a_step}

module _ (frame : CodeFrame → Frame) (s : Contents) (a : Actor) where
  abbrev t : State
  t = state_of frame s

  pub moving_moves : MovingMoves frame s a
  moving_moves on g is = doing_is_a_step frame s (with_goroutine s a.name (Some g)) a None None kinds.Pure (onward a on) g [] is refl

  pub evaluating_faults : EvaluatingFaults frame s a
  evaluating_faults e g is = fault_is_a_step frame s a None e g is

  pub printing_prints : PrintingPrints frame s a
  printing_prints line g is = record {
    cells = go_has a.name (Some (record (onward a (goes_on a.frame)) { text = a.before.text ++ line ∷ [] })) ∷ [];
    ends = refl;
    after = goroutine_is_written frame s a.name g ∙ ap (λ (x : Goroutine). put (state_of frame s) (go_has a.name (Some x))) is;
  }

  abbrev called_as : Outcome Frame → Attempt
  called_as o = given a o (λ f. simply a kinds.Call (with_frames a (f ∷ a.before.frames)) [])

  entered : (deepest : Bool) (function : ℕ) (vs : List Value) → is_deepest a.before.frames ≡ deepest
      → Ends frame s (enter a function vs) (if deepest then fault a None CallDepth else called_as (call_of a.program function vs))
  entered deepest function vs is = ap (λ b. leaf t (if b then fault a None CallDepth else called_as (call_of a.program function vs))) is

  pub entering_pushes : EnteringPushes frame s a
  entering_pushes function vs first g shallow calls is =
      same_end_same_step frame _ _ s _ _ (entered false function vs shallow ∙ ap (λ o. leaf t (called_as o)) calls)
      (doing_is_a_step frame s (with_goroutine s a.name (Some g)) a None None kinds.Call (with_frames a (first ∷ a.before.frames)) g [] is refl)

  pub entering_too_deep_faults : EnteringTooDeepFaults frame s a
  entering_too_deep_faults function vs g deepest is =
      same_end_same_step frame _ _ s _ _ (entered true function vs deepest) (fault_is_a_step frame s a None CallDepth g is)

  pub entering_goes_on : EnteringGoesOn frame s a
  entering_goes_on function vs sound shallow e = sound (entered false function vs shallow ∙ ap (λ o. leaf t (called_as o)) e)

  abbrev returned : List Frame → Outcome Frame → Attempt
  returned below o = given a o (λ f. simply a kinds.Return (with_frames a (f ∷ below)) [])

  pub leaving_pops : LeavingPops frame s a
  leaving_pops v f on below g resumes is =
      same_end_same_step frame _ _ s _ _ (ap (λ o. leaf t (returned below o)) resumes)
      (doing_is_a_step frame s (with_goroutine s a.name (Some g)) a None None kinds.Return (with_frames a (on ∷ below)) g [] is refl)

  pub leaving_goes_on : LeavingGoesOn frame s a
  leaving_goes_on v f below sound e = sound (ap (λ o. leaf t (returned below o)) e)

  pub finishing_ends : FinishingEnds frame s a
  finishing_ends v n ns g name is =
      same_end_same_step frame _ _ s _ _ (ap (λ m. leaf t (finish a m)) name)
      (doing_is_a_step frame s (with_goroutine s a.name (Some g)) a None None kinds.Return (done a) g [] is refl)

  pub finishing_ends_the_program : FinishingEndsTheProgram frame s a
  finishing_ends_the_program v g name is =
      same_end_same_step frame _ _ s _ _ (ap (λ m. leaf t (finish a m)) name)
      (doing_is_a_step frame s (record (with_goroutine s a.name (Some g)) { run = ended }) a None None kinds.Exit (done a) g (run_has ended ∷ []) is refl)
