-- The code of functions and programs, and the points that it means. A function's last instruction is its closing brace.
use Rattle.std.specs.Prelude.{ℕ, ◌+◌, List, [], ◌∷◌, ◌++◌, map, length, max, slice_get, Some, unwrap_or}
use Rattle.std.specs.Option.{option_map_or}
use Rattle.gr_scan.specs.declared.token.Place.{Place}
use Rattle.gr_program.specs.Programs.{Stmts, Function, FunctionIs, Program, ProgramIs}
use Rattle.gr_rules.specs.Operands.{nothing}
use Rattle.gr_rules.specs.Points.{closing, Return, Point, at}
use Rattle.gr_rules.specs.Frames.{variable_of}
use Rattle.gr_code.specs.Instructions.{Arm, ReceiveArm, Action, AssignsReceived, Returns, Ranges, Turns, Instruction, Part, Decide, Perform, Choose}
use Rattle.gr_code.specs.Bounds.{nowhere}
use Rattle.gr_code.specs.Code.{Meanings}
use Rattle.gr_code.specs.CodeFrames.{FunctionCode, ProgramCode}
use Rattle.gr_lower.specs.Sizes.{size_in}
use Rattle.gr_lower.specs.StatementCode.{stmts_code}
use Rattle.gr_lower.specs.StatementPoints.{stmts_points}
use Rattle.gr_lower.specs.Lines.{stmts_lines}

-- how many cells a frame needs for the temporaries that an instruction gives values
abbrev pub action_cells : Action → ℕ
action_cells (AssignsReceived initial value ok on) = max (value + 1) (ok + 1)
action_cells (Ranges slot on) = slot + 1
action_cells (Turns slot body after) = slot + 1
action_cells action = 0

abbrev pub arm_cells : Arm → ℕ
arm_cells (ReceiveArm channel initial (Some slots) on) = max (slots.0 + 1) (slots.1 + 1)
arm_cells arm = 0

-- how many cells a frame needs for the temporaries that the arms of a select give values, and no fewer than n
abbrev pub arms_cells : ℕ → List Arm → ℕ
arms_cells n [] = n
arms_cells n (a ∷ rest) = arms_cells (max n (arm_cells a)) rest

abbrev pub cells_for : Instruction → ℕ
cells_for (Part ask slot on) = option_map_or (λ d. d + 1) slot 0
cells_for (Decide op left slot settled right) = slot + 1
cells_for (Perform action operands) = action_cells action
cells_for (Choose arms) = arms_cells 0 arms

-- the cells of the variables, and of all temporaries
abbrev pub cells_of : ℕ → List Instruction → ℕ
cells_of n [] = n
cells_of n (i ∷ rest) = cells_of (max n (cells_for i)) rest

-- the code of a body in a function with this many variables, and the points that it means
abbrev pub body_code : ℕ → Stmts → List Instruction
body_code n body = stmts_code body n 0 (size_in body) [] ++ Perform Returns nothing ∷ []

abbrev pub end_of : Place → Point
end_of last = at last Return nothing (closing last)

abbrev pub body_points : ℕ → Stmts → Place → List Point
body_points n body last = stmts_points body (closing last) n ++ end_of last ∷ []

abbrev pub body_lines : Stmts → Place → List ℕ
body_lines body last = stmts_lines body ++ last.line ∷ []

abbrev pub lowered_function : Function → FunctionCode
lowered_function (FunctionIs name parameters result variables body last) = record {
  parameters = map variable_of parameters;
  variables = length variables;
  cells = cells_of (length variables) (body_code (length variables) body);
  instructions = body_code (length variables) body;
  lines = body_lines body last;
}

abbrev pub lowered : Program → ProgramCode
lowered (ProgramIs functions main) = record { functions = map lowered_function functions; main = main }

-- beyond the end of the code, and in no function, nothing more is meant
abbrev pub function_meaning : Function → Meanings
function_meaning (FunctionIs name parameters result variables body last) =
    λ on. unwrap_or (slice_get (body_points (length variables) body last) on) (end_of last)

abbrev pub meaning : Program → ℕ → Meanings
meaning (ProgramIs functions main) f = option_map_or function_meaning (slice_get functions f) (λ on. end_of nowhere)
