-- When a change of what a store contains is the step that an attempt comes to.
use Rattle.std.specs.Prelude.{◌≡◌, ℕ, ◌+◌, Bool, List, Option, Some, None}
use Rattle.gr_base.specs.declared.values.Value.{Value}
use Rattle.gr_base.specs.declared.kinds.Fault.{Fault}
use Rattle.gr_base.specs.declared.kinds.Kind.{Kind}
use Rattle.gr_base.specs.declared.kinds.Kind.TheVariants as kinds
use Rattle.gr_rules.specs.Outcomes.{Outcome, gives, faults}
use Rattle.gr_rules.specs.Frames.{Frame}
use Rattle.gr_rules.specs.Deeds.{past}
use Rattle.gr_rules.specs.Goroutines.{Goroutine}
use Rattle.gr_rules.specs.States.{faulted, Cell}
use Rattle.gr_rules.specs.Attempts.{Operation, Report, Attempt}
use Rattle.gr_rules.specs.Actors.{Actor, with_frames, onward, does, fault, given}
use Rattle.gr_rules.specs.Communications.{proceeds}
use Rattle.gr_code.specs.CodeFrames.{CodeFrame}
use Rattle.gr_refine.specs.Contents.{Contents, goroutine_of, state_of, with_goroutine}
use Rattle.gr_code.specs.Goroutines.{CodeGoroutine}
use Rattle.gr_refine.specs.Leaves.{Performs}
use Rattle.gr_refine.specs.Changes.{Writes}
use Rattle.gr_refine.specs.Looks.{Ends}

-- what is noted of a step that prints nothing
abbrev pub reported : Actor → Option ℕ → Option Operation → Kind → Report
reported a clause operation kind = record { deed = kind; clause = clause; ordinal = a.before.steps + 1; printed = None; operation = operation }

-- in the contents of a store the attempt is a step with this report to other contents
abbrev pub StepsTo : (CodeFrame → Frame) → Attempt → Contents → Contents → Report → Type 0
StepsTo frame a s t report = Performs a (state_of frame s) (state_of frame t) report

-- attempts that end in the same are the same step
abbrev pub SameEndSameStep : Type 0
SameEndSameStep = (frame : CodeFrame → Frame) (a b : Attempt) (s t : Contents) (report : Report) → Ends frame s a b → StepsTo frame b s t report
    → StepsTo frame a s t report

-- a goroutine takes a step: it is written first, and then the rest
abbrev pub DoingIsAStep : Type 0
DoingIsAStep = (frame : CodeFrame → Frame) (s t : Contents) (a : Actor) (clause : Option ℕ) (operation : Option Operation) (kind : Kind)
    (after : Goroutine) (g : CodeGoroutine) (cells : List Cell)
    → goroutine_of frame g ≡ after → Writes frame (with_goroutine s a.name (Some g)) t cells
    → StepsTo frame (does a clause operation kind after cells) s t (reported a clause operation kind)

-- a communication proceeds
abbrev pub ProceedingIsAStep : Type 0
ProceedingIsAStep = (frame : CodeFrame → Frame) (s t : Contents) (a : Actor) (clause : Option ℕ) (operation : Operation) (kind : Kind)
    (got : Option (Value × Bool)) (on : Frame) (g : CodeGoroutine) (cells : List Cell)
    → past a.frame clause got ≡ gives on → goroutine_of frame g ≡ onward a on → Writes frame (with_goroutine s a.name (Some g)) t cells
    → StepsTo frame (proceeds a clause operation kind got cells) s t (reported a clause (Some operation) kind)

-- a fault stops the program
abbrev pub FaultIsAStep : Type 0
FaultIsAStep = (frame : CodeFrame → Frame) (s : Contents) (a : Actor) (operation : Option Operation) (e : Fault) (g : CodeGoroutine)
    → goroutine_of frame g ≡ with_frames a a.before.frames
    → StepsTo frame (fault a operation e) s (record (with_goroutine s a.name (Some g)) { run = faulted e }) (reported a None operation (kinds.Fault e))

-- what evaluation gives, or faults at
abbrev pub GivenEnds : Type 0 → Type 0
GivenEnds A = (frame : CodeFrame → Frame) (s : Contents) (a : Actor) (o : Outcome A) (x : A) (k : A → Attempt)
    → o ≡ gives x → Ends frame s (given a o k) (k x)

abbrev pub GivenFaults : Type 0 → Type 0
GivenFaults A = (frame : CodeFrame → Frame) (s : Contents) (a : Actor) (o : Outcome A) (e : Fault) (k : A → Attempt)
    → o ≡ faults e → Ends frame s (given a o k) (fault a None e)
