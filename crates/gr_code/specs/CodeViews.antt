-- Code of the program, without where it lies in memory.
use Rattle.std.specs.Prelude.{List, [], ◌∷◌}
use Rattle.gr_code.specs.declared.code.Operand as code_operand
use Rattle.gr_code.specs.declared.code.Operand.TheVariants as operands
use Rattle.gr_code.specs.declared.code.Ask as code_ask
use Rattle.gr_code.specs.declared.code.Ask.TheVariants as asks
use Rattle.gr_code.specs.declared.code.Piece as code_piece
use Rattle.gr_code.specs.declared.code.Piece.TheVariants as code_pieces
use Rattle.gr_code.specs.declared.code.Action as code_action
use Rattle.gr_code.specs.declared.code.Action.TheVariants as actions
use Rattle.gr_code.specs.declared.code.Arm as code_arm
use Rattle.gr_code.specs.declared.code.Arm.TheVariants as arms
use Rattle.gr_code.specs.declared.code.Instruction as code_instruction
use Rattle.gr_code.specs.declared.code.Instruction.TheVariants as instructions
use Rattle.gr_code.specs.declared.code.FunctionCode as code_function
use Rattle.gr_code.specs.declared.code.Code as code_program
use Rattle.gr_program.specs.TypeViews.{literal_of}
use Rattle.gr_rules.specs.Operands.{Operand, Operands, Done, Variable, Unary, Binary, Decided, nothing, also, value_of}
use Rattle.gr_rules.specs.Parts as parts
use Rattle.gr_rules.specs.Parts.{Ask}
use Rattle.gr_rules.specs.Points.{Piece, OfText, OfValue}
use Rattle.gr_code.specs.Instructions.{Arm, DefaultArm, SendArm, ReceiveArm, Action, Assigns, AssignsReceived, Updates, ClosesChannel, PrintsLine, Sends, StartsFunction, Returns, GoesOn, Fails, Tests, Ranges, Turns, Instruction, Part, Decide, Perform, Choose}
use Rattle.gr_code.specs.CodeFrames.{FunctionCode, ProgramCode}

abbrev pub operand_of : code_operand.Operand → Operand
operand_of (operands.Literal value) = Done (value_of (literal_of value))
operand_of (operands.Variable x) = Variable x
operand_of (operands.Unary' op p a) = Unary op (operand_of a)
operand_of (operands.Binary' op p a q b) = Binary op (operand_of a) (operand_of b)
operand_of (operands.Decided' op x p b) = Decided op x (operand_of b)

abbrev pub operands_of : List code_operand.Operand → Operands
operands_of [] = nothing
operands_of (a ∷ rest) = also (operand_of a) (operands_of rest)

abbrev pub ask_of : code_ask.Ask → Ask
ask_of (asks.Call function arguments) = parts.Calls function (operands_of arguments.items)
ask_of (asks.Receive channel initial) = parts.Receives (operand_of channel) (value_of (literal_of initial))
ask_of (asks.Make size) = parts.Makes (operand_of size)
ask_of (asks.Len channel) = parts.CountsItems (operand_of channel)
ask_of (asks.Cap channel) = parts.CountsPlaces (operand_of channel)

abbrev pub piece_of : code_piece.Piece → Piece
piece_of (code_pieces.Text bytes) = OfText bytes.items
piece_of code_pieces.Value = OfValue

abbrev pub pieces_of : List code_piece.Piece → List Piece
pieces_of [] = []
pieces_of (p ∷ ps) = piece_of p ∷ pieces_of ps

abbrev pub action_of : code_action.Action → Action
action_of (actions.Assign targets on) = Assigns targets.items on
action_of (actions.AssignReceived initial value ok on) = AssignsReceived (value_of (literal_of initial)) value ok on
action_of (actions.Update variable op on) = Updates variable op on
action_of (actions.Close on) = ClosesChannel on
action_of (actions.Print pieces on) = PrintsLine (pieces_of pieces.items) on
action_of (actions.Send on) = Sends on
action_of (actions.Start function on) = StartsFunction function on
action_of actions.Return = Returns
action_of (actions.GoOn on) = GoesOn on
action_of actions.Fail = Fails
action_of (actions.Test holds fails) = Tests holds fails
action_of (actions.Range slot on) = Ranges slot on
action_of (actions.Turn slot body after) = Turns slot body after

abbrev pub arm_of : code_arm.Arm → Arm
arm_of (arms.Default on) = DefaultArm on
arm_of (arms.Send channel value on) = SendArm (operand_of channel) (operand_of value) on
arm_of (arms.Receive channel initial into on) = ReceiveArm (operand_of channel) (value_of (literal_of initial)) into on

abbrev pub arms_of : List code_arm.Arm → List Arm
arms_of [] = []
arms_of (a ∷ rest) = arm_of a ∷ arms_of rest

abbrev pub instruction_of : code_instruction.Instruction → Instruction
instruction_of (instructions.Part ask slot on) = Part (ask_of ask) slot on
instruction_of (instructions.Decide op left slot settled right) = Decide op (operand_of left) slot settled right
instruction_of (instructions.Perform action operands) = Perform (action_of action) (operands_of operands.items)
instruction_of (instructions.Choose arms) = Choose (arms_of arms.items)

abbrev pub instructions_of : List code_instruction.Instruction → List Instruction
instructions_of [] = []
instructions_of (i ∷ rest) = instruction_of i ∷ instructions_of rest

abbrev pub function_code_of : code_function.FunctionCode → FunctionCode
function_code_of f = record {
  parameters = f.parameters.items;
  variables = f.variables;
  cells = f.cells;
  instructions = instructions_of f.instructions.items;
  lines = f.lines.items;
}

abbrev pub function_codes_of : List code_function.FunctionCode → List FunctionCode
function_codes_of [] = []
function_codes_of (f ∷ fs) = function_code_of f ∷ function_codes_of fs

abbrev pub program_code_of : code_program.Code → ProgramCode
program_code_of c = record { functions = function_codes_of c.functions.items; main = c.main }
