-- Goroutines without where they lie in memory.
use Rattle.std.specs.Prelude.{◌≡◌, ℕ, Bool, true, false, List, [], ◌∷◌, reverse, None, Result, Ok, Err, Vec}
use Rattle.gr_base.specs.declared.values.Value.{Value}
use Rattle.gr_base.specs.declared.kinds.Fault.{Fault}
use Rattle.gr_rules.specs.Outcomes.{Outcome, gives, faults}
use Rattle.gr_rules.specs.Deeds.{Communication, Sending, Receiving, Otherwise}
use Rattle.gr_rules.specs.Goroutines as rules
use Rattle.gr_rules.specs.Goroutines.{ToSend, ToReceive, ready, waiting, finished}
use Rattle.gr_code.specs.CodeFrames.{CodeFrame}
use Rattle.gr_code.specs.Goroutines as goroutines
use Rattle.gr_code.specs.Goroutines.{CodeGoroutine, faulted, started}
use Rattle.gr_goros.specs.declared.wait.Wait.{Wait}
use Rattle.gr_goros.specs.declared.wait.Wait.TheVariants as waits
use Rattle.gr_goros.specs.declared.wait.Status.{Status}
use Rattle.gr_goros.specs.declared.wait.Status.TheVariants as statuses
use Rattle.gr_goros.specs.declared.arrivals.Arrival.{Arrival}
use Rattle.gr_goros.specs.declared.arrivals.Arrival.TheVariants as arrivals
use Rattle.gr_goros.specs.declared.arrivals.Halt.{Halt}
use Rattle.gr_goros.specs.declared.arrivals.Halt.TheVariants as halts
use Rattle.gr_goros.specs.declared.needs.Clause.{Clause}
use Rattle.gr_goros.specs.declared.needs.Clause.TheVariants as clauses

-- what a contract sees of a goroutine: its content, and how many more frames it holds with no memory
pub record Seen : Type 0 where
  pub content : CodeGoroutine
  pub room : ℕ

abbrev pub wait_of : Wait → rules.Wait
wait_of (waits.Send c clause) = ToSend c clause
wait_of (waits.Receive c clause) = ToReceive c clause

abbrev pub waits_of : List Wait → List rules.Wait
waits_of [] = []
waits_of (w ∷ ws) = wait_of w ∷ waits_of ws

abbrev pub status_of : Status → rules.Status
status_of statuses.Ready = ready
status_of (statuses.Sending c) = waiting (ToSend c None ∷ [])
status_of (statuses.Receiving c) = waiting (ToReceive c None ∷ [])
status_of (statuses.Waiting ws) = waiting (waits_of ws.value.items)
status_of statuses.Finished = finished

abbrev pub is_finished : rules.Status → Bool
is_finished ready = false
is_finished (waiting ws) = false
is_finished finished = true

-- the lines that were printed
abbrev pub lines_of : {A : Type 0} → List (Vec ℕ A) → List (List ℕ)
lines_of [] = []
lines_of (l ∷ ls) = l.items ∷ lines_of ls

-- the innermost frame, and those below it, of which the outermost lies first; none of a goroutine that is finished
abbrev pub frames_by : Bool → CodeFrame → List CodeFrame → List CodeFrame
frames_by true top below = []
frames_by false top below = top ∷ reverse below

abbrev pub frames_of : rules.Status → CodeFrame → List CodeFrame → List CodeFrame
frames_of s top below = frames_by (is_finished s) top below

-- a goroutine that is finished has no frames below either
abbrev pub HasNoneBelow : rules.Status → List CodeFrame → Type 0
HasNoneBelow s below = is_finished s ≡ true → below ≡ []

abbrev pub arrival_of : Arrival → goroutines.Arrival
arrival_of (arrivals.Value v) = goroutines.Value v
arrival_of (arrivals.Channel v) = goroutines.Channel v
arrival_of arrivals.Completion = goroutines.Completion
arrival_of arrivals.Child = goroutines.Child
arrival_of (arrivals.Passes clause got) = goroutines.Passes clause got
arrival_of (arrivals.IsMet clause got) = goroutines.IsMet clause got

-- what a goroutine is after it came to an end; out of its outermost frame only where it is ready in that
abbrev pub halted : Halt → CodeGoroutine → CodeGoroutine
halted halts.Finished g = goroutines.finished g
halted halts.Faulted g = faulted g

abbrev pub CanHalt : Halt → CodeGoroutine → Type 0
CanHalt halts.Finished g = (f : CodeFrame) × (g.status ≡ ready) × (g.frames ≡ f ∷ [])
CanHalt halts.Faulted g = Unit {0}

-- a goroutine before its first step, in the frame that this comes to
abbrev pub IsStarted : Outcome CodeFrame → CodeGoroutine → Type 0
IsStarted o g = (f : CodeFrame) × (o ≡ gives f) × (g ≡ started f)

-- the value of a send, or its fault
abbrev pub outcome_of : Result Value Fault → Outcome Value
outcome_of (Ok v) = gives v
outcome_of (Err e) = faults e

abbrev pub communication_of : Clause → Communication
communication_of clauses.Default = Otherwise
communication_of (clauses.Send c v) = Sending c (outcome_of v)
communication_of (clauses.Receive c initial) = Receiving c initial

abbrev pub communications_of : List Clause → List Communication
communications_of [] = []
communications_of (c ∷ cs) = communication_of c ∷ communications_of cs
