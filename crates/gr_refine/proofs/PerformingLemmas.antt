-- A change of what a store contains is the step that an attempt comes to.
use Rattle.std.proofs.Common.{◌≡◌, fold, ℕ, Bool, List, [], ◌∷◌, Option, Some, None, refl, ◌∙◌, ap}
use Rattle.gr_rules.specs.Outcomes.{wrong}
use Rattle.gr_rules.specs.Frames.{Frame}
use Rattle.gr_rules.specs.Goroutines.{Goroutine}
use Rattle.gr_rules.specs.States.{State, Cell, faulted, put, run_has, go_has}
use Rattle.gr_rules.specs.Actors.{Actor, with_frames, onward, does, given}
use Rattle.gr_base.specs.declared.values.Value.{Value}
use Rattle.gr_base.specs.declared.kinds.Kind.{Kind}
use Rattle.gr_rules.specs.Attempts.{Operation}
use Rattle.gr_rules.specs.Deeds.{past}
use Rattle.gr_rules.specs.Communications.{proceeds}
use Rattle.gr_code.specs.CodeFrames.{CodeFrame}
use Rattle.gr_refine.specs.Contents.{Contents, state_of, with_goroutine}
use Rattle.gr_refine.specs.Presence.{Sound}
use Rattle.gr_refine.specs.Leaves.{leaf}
use Rattle.gr_base.specs.declared.kinds.Kind.TheVariants as kinds
use Rattle.gr_refine.specs.Performing.{reported, SameEndSameStep, DoingIsAStep, ProceedingIsAStep, FaultIsAStep, GivenEnds, GivenFaults}
use Rattle.gr_refine.proofs.ChangeLemmas.{goroutine_is_written}

pub same_end_same_step : SameEndSameStep
same_end_same_step frame a b s t report same step = record { cells = step.cells; ends = same ∙ step.ends; after = step.after }

pub doing_is_a_step : DoingIsAStep
doing_is_a_step frame s t a clause operation kind after g cells is written = record {
  cells = go_has a.name (Some after) ∷ cells;
  ends = refl;
  after =
      written
      ∙ ap (λ (x : State). fold put x cells) (goroutine_is_written frame s a.name g)
      ∙ ap (λ (x : Goroutine). fold put (put (state_of frame s) (go_has a.name (Some x))) cells) is;
}

pub given_ends : (A : Type 0) → GivenEnds A
given_ends A frame s a o x k is = ap (λ o. leaf (state_of frame s) (given a o k)) is

pub given_faults : (A : Type 0) → GivenFaults A
given_faults A frame s a o e k is = ap (λ o. leaf (state_of frame s) (given a o k)) is

pub proceeding_is_a_step : ProceedingIsAStep
proceeding_is_a_step frame s t a clause operation kind got on g cells passes is written =
    same_end_same_step frame _ _ s t (reported a clause (Some operation) kind)
    (given_ends Frame frame s a _ on (λ f. does a clause (Some operation) kind (onward a f) cells) passes)
    (doing_is_a_step frame s t a clause (Some operation) kind (onward a on) g cells is written)

pub fault_is_a_step : FaultIsAStep
fault_is_a_step frame s a operation e g is =
    doing_is_a_step frame s (record (with_goroutine s a.name (Some g)) { run = faulted e }) a None operation (kinds.Fault e)
    (with_frames a a.before.frames) g (run_has (faulted e) ∷ []) is refl

-- a communication that proceeds, and is not refused as unsound, is past
pub goes_past : (frame : CodeFrame → Frame) (s : Contents) (a : Actor) (clause : Option ℕ) (operation : Operation) (kind : Kind)
    (got : Option (Value × Bool)) (cells : List Cell)
    → Sound frame s (proceeds a clause operation kind got cells) → past a.frame clause got ≡ wrong → ⊥
goes_past frame s a clause operation kind got cells sound e =
    sound (ap (λ o. leaf (state_of frame s) (given a o (λ f. does a clause (Some operation) kind (onward a f) cells))) e)
