-- The next part of an expression. Its parts are its calls, receives, `make`, `len` and `cap`, and its `&&` and `||` whose
-- right operand has a part. The next one is the first, operands before operators and from left to right (Go: Order of
-- evaluation).
use Rattle.std.specs.Prelude.{ℕ, Bool, true, false, if◌then◌else◌}
use Rattle.gr_tree.specs.declared.expr.BinaryOp.{BinaryOp}
use Rattle.gr_tree.specs.declared.expr.BinaryOp.TheVariants.{LogicalAnd, LogicalOr}
use Rattle.gr_base.specs.declared.values.Value.{Value}
use Rattle.gr_rules.specs.Operators.{settles}
use Rattle.gr_rules.specs.Operands.{Operand, Done, Variable, Unary, Binary, Receive, Call, Len, Cap, Make, Decided, Operands, nothing, also}

-- what the next part asks for, its operands having no parts
pub data Ask : Type 0 where
  Calls : (function : ℕ) (arguments : Operands) → Ask
  Receives : (channel : Operand) (zero : Value) → Ask
  Makes : (size : Operand) → Ask
  CountsItems : (channel : Operand) → Ask
  CountsPlaces : (channel : Operand) → Ask
  Decides : (op : BinaryOp) (left : Operand) → Ask

-- the next part, and what stands in place of the whole once it has its value
pub data Next (A : Type 0) : Type 0 where
  Plain : Next A
  Asks : (ask : Ask) (with : Value → A) → Next A

-- the part of an operand is one of the whole, and comes before the other
abbrev pub within : {A B : Type 0} → (A → B) → Next A → Next B → Next B
within f Plain other = other
within f (Asks ask k) other = Asks ask (λ v. f (k v))

abbrev pub is_logical : BinaryOp → Bool
is_logical LogicalAnd = true
is_logical LogicalOr = true
is_logical _ = false

-- the right operand of `&&` and `||` is not entered before the left side is known (Go: Logical operators)
abbrev pub on_right : BinaryOp → Operand → Operand → Next Operand → Next Operand
on_right op a b Plain = Plain
on_right op a b (Asks ask k) =
    if is_logical op then Asks (Decides op a) (λ v. if settles op v then Done v else b) else Asks ask (λ v. Binary op a (k v))

abbrev mutual
  pub next : Operand → Next Operand
  next (Done v) = Plain
  next (Variable x) = Plain
  next (Unary op a) = within (Unary op) (next a) Plain
  next (Binary op a b) = within (λ x. Binary op x b) (next a) (on_right op a b (next b))
  next (Receive c zero) = within (λ x. Receive x zero) (next c) (Asks (Receives c zero) Done)
  next (Call f arguments) = within (Call f) (next_of arguments) (Asks (Calls f arguments) Done)
  next (Len c) = within Len (next c) (Asks (CountsItems c) Done)
  next (Cap c) = within Cap (next c) (Asks (CountsPlaces c) Done)
  next (Make n) = within Make (next n) (Asks (Makes n) Done)
  next (Decided op x b) = within (Decided op x) (next b) Plain

  pub next_of : Operands → Next Operands
  next_of nothing = Plain
  next_of (also a rest) = within (λ x. also x rest) (next a) (within (also a) (next_of rest) Plain)
