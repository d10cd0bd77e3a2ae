-- The variables that steps gave values, by their names: what an instruction gives values, and where the goroutine of a step
-- stood.
use Rattle.std.specs.Prelude.{◌≡◌, ℕ, Bool, false, ◌&&◌, find, reverse, List, [], ◌∷◌, slice_get, Option, Some, None, option_map, option_and_then, if◌then◌else◌}
use Rattle.std.specs.Option.{option_map_or, option_or}
use Rattle.std.specs.List.{list_any}
use Rattle.gr_base.specs.declared.names.StepId.{StepId}
use Rattle.gr_program.specs.Programs.{Declared, Program}
use Rattle.gr_rules.specs.Assigned.{names_of, names_in, parameters_of, given_by, same_variable}
use Rattle.gr_rules.specs.Deeds.{Deed, deed}
use Rattle.gr_rules.specs.Frames.{Frame}
use Rattle.gr_rules.specs.Outcomes.{gives}
use Rattle.gr_rules.specs.Parts.{Calls}
use Rattle.gr_rules.specs.States.{same_go}
use Rattle.gr_rules.specs.Steps.{is_deepest}
use Rattle.gr_rules.specs.Tells.{function_of}
use Rattle.gr_code.specs.Code.{Meanings}
use Rattle.gr_code.specs.CodeFrames.{ProgramCode, CodeFrame, instruction_at}
use Rattle.gr_code.specs.Instructions.{Action, Assigns, Updates, Instruction, Part, Perform}
use Rattle.gr_code.specs.Programs.{ProgramFits, Stands, frame_of}
use Rattle.gr_goros.specs.Before.{spot_in}
use Rattle.gr_goros.specs.declared.undo.Spot.{Spot}
use Rattle.gr_goros.specs.declared.undo.GoUndo.{GoUndo}
use Rattle.gr_record.specs.declared.record.Record.{Record}
use Rattle.gr_record.specs.Records.{goroutines_changed}
use Rattle.gr_depend.specs.Histories.{is_fault}

-- the parameters of a function
abbrev pub parameters_named : Program → ℕ → List (List ℕ)
parameters_named p function = names_in (function_of p function) (parameters_of (function_of p function))

-- the targets of an assignment in a function
abbrev pub assigned_by : Program → ℕ → Action → List (List ℕ)
assigned_by p function (Assigns targets on) = names_in (function_of p function) targets
assigned_by p function (Updates x op on) = names_in (function_of p function) (Some x ∷ [])
assigned_by p function action = []

-- What an instruction of a function gives values, where its step is no fault: the targets of an assignment, or the parameters
-- of the function that it calls.
abbrev pub given_at : Program → ℕ → Instruction → List (List ℕ)
given_at p function (Part (Calls callee arguments) slot on) = parameters_named p callee
given_at p function (Perform action operands) = assigned_by p function action
given_at p function i = []

-- That is what the rules say of the frame that a frame of code means, at the instruction at which it stands, unless the step
-- is a fault. A call is a fault where there are too many frames.
abbrev pub GivenByInstruction : Type 0
GivenByInstruction = (means : ℕ → Meanings) (p : Program) (code : ProgramCode) (f : CodeFrame) (i : Instruction) (fs : List Frame) (d : Deed)
    → ProgramFits means p code → Stands means code f → instruction_at code f ≡ Some i → is_deepest fs ≡ false
    → deed (frame_of means code f) ≡ gives d
    → given_by p fs (frame_of means code f) (gives d) ≡ given_at p f.function i

-- where the innermost frame of a goroutine stood before changes of goroutines, by the first of its own that keeps it
abbrev pub spot_before : List ℕ → List (List ℕ × GoUndo) → Option Spot
spot_before n [] = None
spot_before n (e ∷ es) = if same_go n e.0 then option_or (spot_in e.1) (spot_before n es) else spot_before n es

-- the instruction there
abbrev pub instruction_there : ProgramCode → Spot → Option Instruction
instruction_there code s = option_and_then (λ c. slice_get c.instructions s.number) (slice_get code.functions s.function)

-- what is given values from there
abbrev pub given_there : Program → ProgramCode → Spot → List (List ℕ)
given_there p code s = option_map_or (given_at p s.function) (instruction_there code s) []

abbrev pub given_from : Program → ProgramCode → Option Spot → List (List ℕ)
given_from p code spot = option_map_or (given_there p code) spot []

-- where the goroutine of a record's step stood, and what the step gave values
abbrev pub stood : Record → Option Spot
stood r = spot_before r.id.go (goroutines_changed r.id.go r.change)

abbrev pub gave : Program → ProgramCode → Record → List (List ℕ)
gave p code r = if is_fault r.change.kind then [] else given_from p code (stood r)

-- whether the variable with this number has this name; none is the blank identifier
abbrev pub is_called : List ℕ → List Declared → Option ℕ → Bool
is_called x ds k = list_any (same_variable x) (names_of ds (k ∷ []))

-- whether one of them has this name
abbrev pub any_called : List ℕ → List (List ℕ) → Bool
any_called x names = list_any (same_variable x) names

-- whether it is a step of the goroutine that gave such a variable a value
abbrev pub gave_to : Program → ProgramCode → List ℕ → List ℕ → Record → Bool
gave_to p code g x r = same_go g r.id.go && any_called x (gave p code r)

-- the name of the last of these steps that is one
abbrev pub last_given : Program → ProgramCode → List ℕ → List ℕ → List Record → Option StepId
last_given p code g x rs = option_map (λ r. r.id) (find (gave_to p code g x) (reverse rs))
