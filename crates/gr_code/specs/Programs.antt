-- Code of whole programs: what its instructions may name, when it is the code of a program, and the frames of the rules that
-- frames of code mean.
use Rattle.std.specs.Prelude.{◌≡◌, ◌<◌, ◌≤◌, ℕ, Bool, List, [], ◌∷◌, map, length, slice_get, Option, Some, None, option_and_then}
use Rattle.std.specs.Option.{option_map_or}
use Rattle.gr_base.specs.declared.values.Value.{Value}
use Rattle.gr_program.specs.Programs.{Function, FunctionIs, Program, ProgramIs}
use Rattle.gr_rules.specs.Outcomes.{Outcome, gives, ◌>>=◌}
use Rattle.gr_rules.specs.Parts.{Ask, Calls, Receives, CountsItems, CountsPlaces, Decides}
use Rattle.gr_rules.specs.Parts as parts
use Rattle.gr_rules.specs.Points.{closing, Point, onto, point_after}
use Rattle.gr_rules.specs.Frames.{Frame, variable_of}
use Rattle.gr_rules.specs.Deeds.{Deed, Moves}
use Rattle.gr_rules.specs.States.{main_of}
use Rattle.gr_code.specs.Filling.{Temporaries, ClearAll}
use Rattle.gr_code.specs.Bounds.{Below, AllBelow, NoneBelow}
use Rattle.gr_code.specs.Instructions.{Arm, DefaultArm, SendArm, ReceiveArm, Action, Assigns, AssignsReceived, Updates, ClosesChannel, PrintsLine, Sends, StartsFunction, Returns, GoesOn, Fails, Tests, Ranges, Turns, Instruction, Part, Decide, Perform, Choose, Spot}
use Rattle.gr_code.specs.Code.{Meanings, IsCode, IsClear, IfGiven, frame_at}
use Rattle.gr_code.specs.Vectors.{spot_in, TargetsBelow}
use Rattle.gr_code.specs.CodeFrames.{FunctionCode, ProgramCode, CodeFrame, Task, Steps, Wants, task, after_in, resumed_in, past_in}

-- the variables and temporaries that a part reads are below a number
abbrev pub AskBelow : ℕ → Ask → Type 0
AskBelow m (Calls f arguments) = AllBelow m arguments
AskBelow m (Receives channel initial) = Below m channel
AskBelow m (parts.Makes size) = Below m size
AskBelow m (CountsItems channel) = Below m channel
AskBelow m (CountsPlaces channel) = Below m channel
AskBelow m (Decides op left) = Below m left

-- a temporary: past the n variables, among the m cells
abbrev pub IsSlot : ℕ → ℕ → ℕ → Type 0
IsSlot n m d = (n ≤ d) × (d < m)

-- a temporary, if there is one; and two temporaries, if there are two
abbrev pub IsSlotIfAny : ℕ → ℕ → Option ℕ → Type 0
IsSlotIfAny n m slot = elim slot [ Some d ↦ IsSlot n m d | None ↦ Unit {0} ]

abbrev pub AreSlotsIfAny : ℕ → ℕ → Option (ℕ × ℕ) → Type 0
AreSlotsIfAny n m into = elim into [ Some slots ↦ IsSlot n m slots.0 × IsSlot n m slots.1 | None ↦ Unit {0} ]

-- the bounds of an instruction in a function with n variables, m cells and this many instructions: it names only variables,
-- temporaries and instructions that exist
module _ (n m count : ℕ) where
  abbrev pub ActionInBounds : Action → Type 0
  ActionInBounds (Assigns targets on) = TargetsBelow n targets × (on < count)
  ActionInBounds (AssignsReceived initial value ok on) = IsSlot n m value × IsSlot n m ok × (on < count)
  ActionInBounds (Updates x op on) = (x < n) × (on < count)
  ActionInBounds (ClosesChannel on) = on < count
  ActionInBounds (PrintsLine pieces on) = on < count
  ActionInBounds (Sends on) = on < count
  ActionInBounds (StartsFunction function on) = on < count
  ActionInBounds Returns = Unit {0}
  ActionInBounds (GoesOn on) = on < count
  ActionInBounds Fails = Unit {0}
  ActionInBounds (Tests holds fails) = (holds < count) × (fails < count)
  ActionInBounds (Ranges slot on) = IsSlot n m slot × (on < count)
  ActionInBounds (Turns slot body after) = IsSlot n m slot × (body < count) × (after < count)

  abbrev pub ArmInBounds : Arm → Type 0
  ArmInBounds (DefaultArm on) = on < count
  ArmInBounds (SendArm channel value on) = Below m channel × Below m value × (on < count)
  ArmInBounds (ReceiveArm channel initial into on) = Below m channel × AreSlotsIfAny n m into × (on < count)

  abbrev pub ArmsInBounds : List Arm → Type 0
  ArmsInBounds [] = Unit {0}
  ArmsInBounds (arm ∷ arms) = ArmInBounds arm × ArmsInBounds arms

  abbrev pub InBounds : Instruction → Type 0
  InBounds (Part ask slot on) = AskBelow m ask × IsSlotIfAny n m slot × (on < count)
  InBounds (Decide op left slot settled right) = Below m left × IsSlot n m slot × (settled < count) × (right < count)
  InBounds (Perform action operands) = AllBelow m operands × ActionInBounds action
  InBounds (Choose arms) = ArmsInBounds arms

-- the variables of a function's parameters; none for the blank identifier
abbrev pub parameter_variables : Function → List (Option ℕ)
parameter_variables (FunctionIs name parameters result variables body last) = map variable_of parameters

-- how many variables a function has
abbrev pub variable_count : Function → ℕ
variable_count (FunctionIs name parameters result variables body last) = length variables

-- where a call of a function begins
abbrev pub first_point : Function → Point
first_point (FunctionIs name parameters result variables body last) = point_after (onto body (closing last))

-- The code of a function, whose instructions mean these points. A call begins with the first. Each does what the rules do
-- at its point, and stays in bounds.
pub record FunctionFits (means : Meanings) (function : Function) (code : FunctionCode) : Type 0 where
  pub parameters : code.parameters ≡ parameter_variables function
  pub takes : TargetsBelow code.variables code.parameters
  pub variables : code.variables ≡ variable_count function
  pub cells : code.variables ≤ code.cells
  pub begins : means 0 ≡ first_point function
  pub clear : (ts : Temporaries) → NoneBelow code.variables ts → ClearAll ts (means 0).operands
  pub fits : IsCode code.variables means (slice_get code.instructions)
  pub some : 0 < length code.instructions
  pub bounds : (k : ℕ) (i : Instruction) → slice_get code.instructions k ≡ Some i
      → InBounds code.variables code.cells (length code.instructions) i
  pub each : length code.lines ≡ length code.instructions
  pub lines : (k : ℕ) → k < length code.instructions → slice_get code.lines k ≡ Some ((means k).place.line)

-- none, or a clause of a select, which has a number from 1 on
abbrev pub IsClause : Option ℕ → Type 0
IsClause clause = elim clause [ Some number ↦ 0 < number | None ↦ Unit {0} ]

-- the functions of a program by their numbers
abbrev pub functions_in : Program → List Function
functions_in (ProgramIs functions main) = functions

-- the code of a program, by what the instructions of its functions mean
pub record ProgramFits (means : ℕ → Meanings) (p : Program) (code : ProgramCode) : Type 0 where
  pub main : code.main ≡ main_of p
  pub each : length code.functions ≡ length (functions_in p)
  pub functions : (number : ℕ) (function : Function) (c : FunctionCode) → slice_get (functions_in p) number ≡ Some function
      → slice_get code.functions number ≡ Some c → FunctionFits (means number) function c

-- how many variables a function has, by its code; none where there is none
abbrev pub variables_in : ProgramCode → ℕ → ℕ
variables_in code number = option_map_or (λ c. c.variables) (slice_get code.functions number) 0

-- how many instructions a function has, by its code; none where there is none
abbrev pub instructions_in : ProgramCode → ℕ → ℕ
instructions_in code number = option_map_or (λ c. length c.instructions) (slice_get code.functions number) 0

-- the line on which the statement of a frame's instruction begins
abbrev pub line_at : ProgramCode → CodeFrame → Option ℕ
line_at code f = option_and_then (λ c. slice_get c.lines f.number) (slice_get code.functions f.function)

-- where a frame of code stands
abbrev pub spot_of : ProgramCode → CodeFrame → Spot
spot_of code f = spot_in (variables_in code f.function) f.cells f.number

-- the frame stands at an instruction of its function, with cells as that wants them
pub record Stands (means : ℕ → Meanings) (code : ProgramCode) (f : CodeFrame) : Type 0 where
  pub function : FunctionCode
  pub is : slice_get code.functions f.function ≡ Some function
  pub within : f.number < length function.instructions
  pub cells : length f.cells ≡ function.cells
  pub clear : IsClear (means f.function) (spot_of code f)

module _ (means : ℕ → Meanings) (code : ProgramCode) where
  -- the frame of the rules that a frame of code means
  abbrev pub frame_of : CodeFrame → Frame
  frame_of f = frame_at (means f.function) f.function (spot_of code f)

  -- the frame of the rules that a frame of code means, where there is one
  abbrev pub frame_meant : Outcome CodeFrame → Outcome Frame
  frame_meant o = o >>= λ f. gives (frame_of f)

  -- the deed of the rules that a frame's task means
  abbrev pub deed_of : Task → Deed
  deed_of (Steps on) = Moves (frame_of on)
  deed_of (Wants deed) = deed

  abbrev pub deed_meant : Outcome Task → Outcome Deed
  deed_meant o = o >>= λ t. gives (deed_of t)

  -- the frames that an instruction leads to stand
  abbrev pub TaskStands : Task → Type 0
  TaskStands (Steps on) = Stands means code on
  TaskStands (Wants deed) = Unit {0}

  pub record KeepsStanding (f : CodeFrame) (i : Instruction) : Type 0 where
    pub does : IfGiven TaskStands (task f i)
    pub after : IfGiven (Stands means code) (after_in f i)
    pub resumes : (v : Value) → IfGiven (Stands means code) (resumed_in f i v)
    pub passes : (clause : Option ℕ) (got : Option (Value × Bool)) → IfGiven (Stands means code) (past_in f i clause got)
