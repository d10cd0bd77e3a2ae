-- Expressions as a running program has them: parts that are done are replaced by their values.
use Rattle.std.specs.Prelude.{ℕ, pos, None}
use Rattle.gr_tree.specs.declared.expr.UnaryOp.{UnaryOp}
use Rattle.gr_tree.specs.declared.expr.BinaryOp.{BinaryOp}
use Rattle.gr_base.specs.declared.values.Value.{Value}
use Rattle.gr_base.specs.declared.values.Value.TheVariants as values
use Rattle.gr_program.specs.Programs as program
use Rattle.gr_program.specs.Programs.{Literal, Number, Truth, Empty, Nil, Expr, Exprs, none, more}

mutual
  pub data Operand : Type 0 where
    Done : (value : Value) → Operand
    Variable : (number : ℕ) → Operand
    Unary : (op : UnaryOp) (operand : Operand) → Operand
    Binary : (op : BinaryOp) (left right : Operand) → Operand
    Receive : (channel : Operand) (zero : Value) → Operand
    Call : (function : ℕ) (arguments : Operands) → Operand
    Len : (channel : Operand) → Operand
    Cap : (channel : Operand) → Operand
    Make : (size : Operand) → Operand
    -- in code alone: the left operand of `&&` or `||` is decided, and stands in the variable
    Decided : (op : BinaryOp) (left : ℕ) (right : Operand) → Operand

  pub data Operands : Type 0 where
    nothing : Operands
    also : (first : Operand) (others : Operands) → Operands

abbrev pub value_of : Literal → Value
value_of (Number n) = values.Int n
value_of (Truth b) = values.Bool b
value_of Empty = values.Unit
value_of Nil = values.Chan None

-- an expression before any part of it is done; without a size `make` takes 0 (Go: Making slices, maps and channels)
abbrev mutual
  pub operand_of : Expr → Operand
  operand_of (program.Literally v) = Done (value_of v)
  operand_of (program.Variable x) = Variable x
  operand_of (program.Unary op a) = Unary op (operand_of a)
  operand_of (program.Binary op a b) = Binary op (operand_of a) (operand_of b)
  operand_of (program.Receive c zero) = Receive (operand_of c) (value_of zero)
  operand_of (program.Call f rest) = Call f (operands_of rest)
  operand_of (program.Len c) = Len (operand_of c)
  operand_of (program.Cap c) = Cap (operand_of c)
  operand_of program.Make = Make (Done (values.Int (pos 0)))
  operand_of (program.MakeSized n) = Make (operand_of n)

  pub operands_of : Exprs → Operands
  operands_of none = nothing
  operands_of (more a rest) = also (operand_of a) (operands_of rest)

-- one expression, and two
abbrev pub one : Operand → Operands
one a = also a nothing

abbrev pub two : Operand → Operand → Operands
two a b = also a (one b)
