-- Values at the limits.
use Rattle.std.specs.Prelude.{◌≡◌, ℤ, pos, negsuc, ◌-◌, ◌^◌, false, Some, None, []}
use Rattle.gr_tree.specs.declared.expr.UnaryOp.TheVariants.{Negate}
use Rattle.gr_tree.specs.declared.expr.BinaryOp.{BinaryOp}
use Rattle.gr_tree.specs.declared.expr.BinaryOp.TheVariants.{Divide, Remainder, ShiftLeft, ShiftRight, Add, Multiply, Equal, LogicalAnd}
use Rattle.gr_base.specs.declared.values.Value.TheVariants.{Int, Bool as Truth, Chan}
use Rattle.gr_base.specs.declared.kinds.Fault.{Fault}
use Rattle.gr_base.specs.declared.kinds.Fault.TheVariants.{DivideByZero, NegativeShift}
use Rattle.gr_rules.specs.Outcomes.{gives, faults}
use Rattle.gr_rules.specs.Operands.{Done, Unary, Binary}
use Rattle.gr_rules.specs.Evaluation.{evaluate}

abbrev pub least : ℤ
least = negsuc (2 ^ 63 - 1)

abbrev pub greatest : ℤ
greatest = pos (2 ^ 63 - 1)

abbrev Gives : BinaryOp → ℤ → ℤ → ℤ → Type 0
Gives op x y z = evaluate [] (Binary op (Done (Int x)) (Done (Int y))) ≡ gives (Int z)

abbrev Faults : BinaryOp → ℤ → ℤ → Fault → Type 0
Faults op x y e = evaluate [] (Binary op (Done (Int x)) (Done (Int y))) ≡ faults e

-- Go: Integer operators: the least value divided by -1 is itself, with remainder 0
abbrev pub AtTheLimits : Type 0
AtTheLimits = Gives Divide least (negsuc 0) least × Gives Remainder least (negsuc 0) (pos 0) × Gives Add greatest (pos 1) least
    × Gives Multiply greatest greatest (pos 1) × (evaluate [] (Unary Negate (Done (Int least))) ≡ gives (Int least))

-- Go: Integer operators: a quotient is rounded toward zero, and the remainder has the sign of the dividend
abbrev pub Quotients : Type 0
Quotients = Gives Divide (negsuc 6) (pos 2) (negsuc 2) × Gives Remainder (negsuc 6) (pos 2) (negsuc 0)
    × Gives Divide (pos 7) (negsuc 1) (negsuc 2) × Gives Remainder (pos 7) (negsuc 1) (pos 1)

-- Go: Arithmetic operators
abbrev pub Shifts : Type 0
Shifts = Gives ShiftLeft (pos 1) (pos 63) least × Gives ShiftLeft (pos 1) (pos 64) (pos 0) × Gives ShiftRight (negsuc 4) (pos 100) (negsuc 0)
    × Gives ShiftRight (pos 5) (pos 100) (pos 0) × Faults ShiftLeft (pos 1) (negsuc 0) NegativeShift

-- Go: Run-time panics, Logical operators: the right operand is left alone where the left one decides
abbrev pub Zeros : Type 0
Zeros = Faults Divide (pos 1) (pos 0) DivideByZero
    × (evaluate [] (Binary LogicalAnd (Done (Truth false)) (Binary Equal (Binary Divide (Done (Int (pos 1))) (Done (Int (pos 0)))) (Done (Int (pos 1))))) ≡ gives (Truth false))
    × (evaluate [] (Binary Equal (Done (Chan (Some (record { go = []; n = 1 })))) (Done (Chan None))) ≡ gives (Truth false))
