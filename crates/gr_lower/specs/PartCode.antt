-- The code of a statement's parts, and the operands that are left when they are done, with temporaries in place of the parts. The
-- first part has the first free temporary `d` and the instruction with the number `o`, and each other part the next ones.
use Rattle.std.specs.Prelude.{ℕ, zero, suc, ◌+◌, Bool, false, List, [], ◌∷◌, ◌++◌, Some, if◌then◌else◌}
use Rattle.gr_tree.specs.declared.expr.BinaryOp.{BinaryOp}
use Rattle.gr_rules.specs.Operands.{Operand, Done, Variable, Unary, Binary, Receive, Call, Len, Cap, Make, Decided, Operands, nothing, also}
use Rattle.gr_rules.specs.Parts.{Ask, Calls, Receives, CountsItems, CountsPlaces, is_logical}
use Rattle.gr_rules.specs.Parts as ask
use Rattle.gr_code.specs.Passing.{parts, parts_in}
use Rattle.gr_code.specs.Instructions.{Instruction, Part, Decide}

-- `&&` and `||` decide where the right operand has parts (Go: Logical operators)
abbrev pub decides : BinaryOp → ℕ → Bool
decides op zero = false
decides op (suc n) = is_logical op

-- what is left of `&&`, `||` or another operator; what is left of the right operand has that first temporary
abbrev pub left_binary : BinaryOp → Operand → ℕ → ℕ → (ℕ → Operand) → Operand
left_binary op a n d right = if decides op n then Decided op d (right (d + 1)) else Binary op a (right d)

abbrev mutual
  pub left : Operand → ℕ → Operand
  left (Done v) d = Done v
  left (Variable x) d = Variable x
  left (Unary op a) d = Unary op (left a d)
  left (Binary op a b) d = left_binary op (left a d) (parts b) (d + parts a) (left b)
  left (Receive c initial) d = Variable (d + parts c)
  left (Call f arguments) d = Variable (d + parts_in arguments)
  left (Len c) d = Variable (d + parts c)
  left (Cap c) d = Variable (d + parts c)
  left (Make n) d = Variable (d + parts n)
  left (Decided op x b) d = Decided op x (left b d)

  pub left_in : Operands → ℕ → Operands
  left_in nothing d = nothing
  left_in (also a others) d = also (left a d) (left_in others (d + parts a))

-- the parts of a right operand, after their decision; where that settles, all of them are skipped
abbrev pub right_code : BinaryOp → Operand → ℕ → ℕ → ℕ → (ℕ → ℕ → List Instruction) → List Instruction
right_code op a n d o right = if decides op n then Decide op a d (o + 1 + n) (o + 1) ∷ right (d + 1) (o + 1) else right d o

-- a part after those of its operands
abbrev pub then_part : List Instruction → ℕ → ℕ → ℕ → Ask → List Instruction
then_part before n d o ask = before ++ Part ask (Some (d + n)) (o + n + 1) ∷ []

abbrev mutual
  pub code : Operand → ℕ → ℕ → List Instruction
  code (Done v) d o = []
  code (Variable x) d o = []
  code (Unary op a) d o = code a d o
  code (Binary op a b) d o = code a d o ++ right_code op (left a d) (parts b) (d + parts a) (o + parts a) (code b)
  code (Receive c initial) d o = then_part (code c d o) (parts c) d o (Receives (left c d) initial)
  code (Call f arguments) d o = then_part (code_in arguments d o) (parts_in arguments) d o (Calls f (left_in arguments d))
  code (Len c) d o = then_part (code c d o) (parts c) d o (CountsItems (left c d))
  code (Cap c) d o = then_part (code c d o) (parts c) d o (CountsPlaces (left c d))
  code (Make n) d o = then_part (code n d o) (parts n) d o (ask.Makes (left n d))
  code (Decided op x b) d o = code b d o

  pub code_in : Operands → ℕ → ℕ → List Instruction
  code_in nothing d o = []
  code_in (also a others) d o = code a d o ++ code_in others (d + parts a) (o + parts a)
