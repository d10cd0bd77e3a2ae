-- Goroutines of code: what their next step comes to, and what they are after it.
use Rattle.std.specs.Prelude.{ℕ, ◌+◌, ◌<◌, ◌^◌, nat_le, Bool, true, false, List, [], ◌∷◌, ◌++◌, length, slice_get, option_and_then, Option, Some, None, if◌then◌else◌}
use Rattle.gr_base.specs.declared.values.Value as values
use Rattle.gr_base.specs.declared.kinds.Kind.{Kind}
use Rattle.gr_base.specs.declared.kinds.Kind.TheVariants.{Pure, Call, Return, Fault}
use Rattle.gr_base.specs.declared.kinds.Fault.TheVariants.{CallDepth}
use Rattle.gr_rules.specs.Outcomes.{Outcome, gives, faults, wrong, ◌>>=◌}
use Rattle.gr_rules.specs.Deeds.{Prints, Enters, Leaves}
use Rattle.gr_rules.specs.Goroutines.{Wait, Status, ready, waiting, finished as at_its_end}
use Rattle.gr_rules.specs.Limits.{most_frames}
use Rattle.gr_rules.specs.Parts.{Ask, Calls}
use Rattle.gr_code.specs.Instructions.{Action, AssignsReceived, ClosesChannel, Sends, StartsFunction, Returns, Turns, Instruction, Part, Decide, Perform, Choose}
use Rattle.gr_code.specs.CodeFrames.{ProgramCode, CodeFrame, Task, Steps, Wants, instruction_at, entered, task, after_in, resumed_in, past_in}

-- a goroutine of code: as a goroutine of the rules, with frames of code, the innermost first
pub record CodeGoroutine : Type 0 where
  pub status : Status
  pub frames : List CodeFrame
  pub steps : ℕ
  pub children : ℕ
  pub channels : ℕ
  pub text : List (List ℕ)

-- a goroutine before its first step (Go: Go statements)
abbrev pub started : CodeFrame → CodeGoroutine
started f = record { status = ready; frames = f ∷ []; steps = 0; children = 0; channels = 0; text = [] }

abbrev pub instruction_here : Option Instruction → Outcome Instruction
instruction_here o = elim o [ Some i ↦ gives i | None ↦ wrong ]

-- the instruction of a frame
abbrev pub instruction_in : ProgramCode → CodeFrame → Outcome Instruction
instruction_in code f = instruction_here (instruction_at code f)

-- the line on which its statement begins
abbrev pub line_of : ProgramCode → CodeFrame → Option ℕ
line_of code f = option_and_then (λ c. slice_get c.lines f.number) (slice_get code.functions f.function)

-- the line on which the statement of the innermost of these frames begins
abbrev pub line_in : ProgramCode → List CodeFrame → Option ℕ
line_in code [] = None
line_in code (f ∷ below) = line_of code f

-- what the next instruction of the innermost of these frames comes to
abbrev pub task_in : ProgramCode → List CodeFrame → Outcome Task
task_in code [] = wrong
task_in code (f ∷ below) = instruction_in code f >>= λ i. task f i

abbrev pub task_of : ProgramCode → CodeGoroutine → Outcome Task
task_of code g = task_in code g.frames

-- after a step of its own, with these frames
abbrev pub with_frames : CodeGoroutine → List CodeFrame → CodeGoroutine
with_frames g fs = record g { frames = fs; steps = g.steps + 1 }

-- a fault leaves all but the count of steps (Go: Run-time panics)
abbrev pub faulted : CodeGoroutine → CodeGoroutine
faulted g = record g { steps = g.steps + 1 }

-- whether a goroutine with these frames can have no more: it has at most 1,000
abbrev pub is_deepest : List CodeFrame → Bool
is_deepest fs = nat_le most_frames (length fs)

-- a call pushes a frame (Go: Calls)
abbrev pub enters : ProgramCode → CodeGoroutine → ℕ → List values.Value → List CodeFrame → Outcome (Kind × CodeGoroutine)
enters code g function vs fs =
    if is_deepest fs
    then gives (Fault CallDepth, faulted g)
    else (entered code function vs >>= λ f. gives (Call, with_frames g (f ∷ fs)))

-- the innermost frame is gone, and the one below has its result (Go: Return statements)
abbrev pub leaves : ProgramCode → CodeGoroutine → values.Value → List CodeFrame → Outcome (Kind × CodeGoroutine)
leaves code g v [] = wrong
leaves code g v (f ∷ below) =
    instruction_in code f >>= λ i. resumed_in f i v >>= λ on. gives (Return, with_frames g (on ∷ below))

-- a line is printed to the text of the goroutine (Go: Bootstrapping)
abbrev pub prints : CodeGoroutine → List ℕ → Outcome CodeFrame → List CodeFrame → Outcome (Kind × CodeGoroutine)
prints g line o below = o >>= λ on. gives (Pure, record (with_frames g (on ∷ below)) { text = g.text ++ line ∷ [] })

abbrev pub printing : ProgramCode → CodeGoroutine → List ℕ → List CodeFrame → Outcome (Kind × CodeGoroutine)
printing code g line [] = wrong
printing code g line (f ∷ below) = instruction_in code f >>= λ i. prints g line (after_in f i) below

-- the step that a task is, if it is local to the goroutine, whose innermost frame is at this instruction
abbrev pub local_task : ProgramCode → CodeGoroutine → CodeFrame → List CodeFrame → Instruction → Task → Outcome (Kind × CodeGoroutine)
local_task code g f below i (Steps on) = gives (Pure, with_frames g (on ∷ below))
local_task code g f below i (Wants (Prints line)) = prints g line (after_in f i) below
local_task code g f below i (Wants (Enters function vs)) = enters code g function vs (f ∷ below)
local_task code g f below i (Wants (Leaves v)) = leaves code g v below
local_task code g f below i (Wants deed) = wrong

-- what a task comes to, which may be a fault
abbrev pub local_by : CodeGoroutine → (Task → Outcome (Kind × CodeGoroutine)) → Outcome Task → Outcome (Kind × CodeGoroutine)
local_by g k (gives t) = k t
local_by g k (faults e) = gives (Fault e, faulted g)
local_by g k wrong = wrong

abbrev pub local_in : ProgramCode → CodeGoroutine → List CodeFrame → Outcome (Kind × CodeGoroutine)
local_in code g [] = wrong
local_in code g (f ∷ below) = instruction_in code f >>= λ i. local_by g (local_task code g f below i) (task f i)

-- the step of a goroutine that is local to it: its kind, and the goroutine after it
abbrev pub local : ProgramCode → CodeGoroutine → Outcome (Kind × CodeGoroutine)
local code g = local_in code g g.frames

-- whether there is another frame
abbrev pub has_caller : List CodeFrame → Bool
has_caller [] = false
has_caller (f ∷ below) = true

abbrev pub is_call : Ask → Bool
is_call ask = elim ask [ Calls f arguments ↦ true | _ ↦ false ]

-- whether the action asks for nothing beyond its goroutine, in which the frame has a caller or not
abbrev pub is_local_action : Bool → Action → Bool
is_local_action caller (AssignsReceived initial value ok on) = false
is_local_action caller (ClosesChannel on) = false
is_local_action caller (Sends on) = false
is_local_action caller (StartsFunction f on) = false
is_local_action caller (Turns slot body after) = false
is_local_action caller Returns = caller
is_local_action caller _ = true

-- whether the instruction asks for nothing beyond its goroutine, in which the frame has a caller or not
abbrev pub is_local_instruction : Bool → Instruction → Bool
is_local_instruction caller (Part ask slot on) = is_call ask
is_local_instruction caller (Decide op left slot settled right) = true
is_local_instruction caller (Perform action operands) = is_local_action caller action
is_local_instruction caller (Choose arms) = false

abbrev pub is_local_here : Bool → Outcome Instruction → Bool
is_local_here caller o = elim o [ gives i ↦ is_local_instruction caller i | _ ↦ false ]

abbrev pub is_local_in : ProgramCode → List CodeFrame → Bool
is_local_in code [] = false
is_local_in code (f ∷ below) = is_local_here (has_caller below) (instruction_in code f)

-- whether the next instruction asks for nothing beyond its goroutine
abbrev pub is_local : ProgramCode → CodeGoroutine → Bool
is_local code g = is_local_in code g.frames

-- what arrives for the instruction of a goroutine
pub data Arrival : Type 0 where
  -- of `len` and `cap`
  Value : (v : values.Value) → Arrival
  -- of `make`
  Channel : (v : values.Value) → Arrival
  -- of `close`
  Completion : Arrival
  -- of `go`
  Child : Arrival
  -- its own communication, of a clause of its select, with what it got
  Passes : (clause : Option ℕ) (got : Option (values.Value × Bool)) → Arrival
  -- the communication of a partner
  IsMet : (clause : Option ℕ) (got : Option (values.Value × Bool)) → Arrival

-- the innermost frame past its instruction
abbrev pub past_arrival : Arrival → CodeFrame → Instruction → Outcome CodeFrame
past_arrival (Value v) f i = resumed_in f i v
past_arrival (Channel v) f i = resumed_in f i v
past_arrival Completion f i = after_in f i
past_arrival Child f i = after_in f i
past_arrival (Passes clause got) f i = past_in f i clause got
past_arrival (IsMet clause got) f i = past_in f i clause got

-- the frames past what arrived
abbrev pub frames_past : ProgramCode → Arrival → List CodeFrame → Outcome (List CodeFrame)
frames_past code a [] = wrong
frames_past code a (f ∷ below) = instruction_in code f >>= λ i. past_arrival a f i >>= λ on. gives (on ∷ below)

-- the goroutine with the frames past what arrived; one that is met took no step, and is ready
abbrev pub with_arrival : Arrival → CodeGoroutine → List CodeFrame → CodeGoroutine
with_arrival (Value v) g fs = with_frames g fs
with_arrival (Channel v) g fs = record (with_frames g fs) { channels = g.channels + 1 }
with_arrival Completion g fs = with_frames g fs
with_arrival Child g fs = record (with_frames g fs) { children = g.children + 1 }
with_arrival (Passes clause got) g fs = with_frames g fs
with_arrival (IsMet clause got) g fs = record g { status = ready; frames = fs }

abbrev pub arrived : ProgramCode → Arrival → CodeGoroutine → Outcome CodeGoroutine
arrived code a g = frames_past code a g.frames >>= λ fs. gives (with_arrival a g fs)

-- the counts that what arrives raises are below the greatest of 64 bits, and of 32
abbrev pub CanCount : Arrival → CodeGoroutine → Type 0
CanCount (Value v) g = g.steps + 1 < 2 ^ 64
CanCount (Channel v) g = (g.steps + 1 < 2 ^ 64) × (g.channels + 1 < 2 ^ 32)
CanCount Completion g = g.steps + 1 < 2 ^ 64
CanCount Child g = (g.steps + 1 < 2 ^ 64) × (g.children + 1 < 2 ^ 32)
CanCount (Passes clause got) g = g.steps + 1 < 2 ^ 64
CanCount (IsMet clause got) g = Unit {0}

-- it waits for one of these
abbrev pub parked : List Wait → CodeGoroutine → CodeGoroutine
parked ws g = record g { status = waiting ws; steps = g.steps + 1 }

-- out of its outermost frame, or at the end of the program (Go: Program execution)
abbrev pub finished : CodeGoroutine → CodeGoroutine
finished g = record g { status = at_its_end; frames = []; steps = g.steps + 1 }

-- ready at its instruction again
abbrev pub retried : CodeGoroutine → CodeGoroutine
retried g = record g { status = ready }
