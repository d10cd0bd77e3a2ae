-- Constants and their operators (Go: Constants, Constant expressions). Values are exact.
use Rattle.std.specs.Prelude.{ℕ, ℤ, pos, negsuc, ◌+ℤ◌, ◌-ℤ◌, ◌*ℤ◌, neg_ℤ, int_div, int_rem, int_lt, Bool, true, false, not, Option, Some, None, if◌then◌else◌, ◌&&◌, ◌||◌}
use Rattle.std.specs.Ordering.{int_eq}
use Rattle.gr_tree.specs.declared.UnaryOp.{UnaryOp}
use Rattle.gr_tree.specs.declared.UnaryOp.TheVariants.{Plus, Negate, Not, Complement}
use Rattle.gr_tree.specs.declared.BinaryOp.{BinaryOp}
use Rattle.gr_tree.specs.declared.BinaryOp.TheVariants.{Multiply, Divide, Remainder, ShiftLeft, ShiftRight, BitAnd, AndNot, Add, Subtract, BitOr, BitXor, Equal, NotEqual, Less, LessEqual, Greater, GreaterEqual, LogicalAnd, LogicalOr}
use Rattle.gr_const.specs.declared.constant.Constant.{Constant}
use Rattle.gr_const.specs.declared.constant.Constant.TheVariants.{Whole, Truth}
use Rattle.gr_const.specs.Parts.{is_part, is_int}
use Rattle.gr_const.specs.Bits.{shift_left, shift_right, complement, both, either, differing}

-- a number as a constant, where it may be a part of a constant expression
abbrev pub part : ℤ → Option Constant
part x = if is_part x then Some (Whole x) else None

-- a literal (Go: Integer literals)
abbrev pub number : ℕ → Option Constant
number n = part (pos n)

-- the number of a constant expression as a whole, which must fit `int` (Go: Constant expressions)
abbrev pub whole : Constant → Option ℤ
whole (Whole x) = if is_int x then Some x else None
whole (Truth b) = None

-- the operator on a constant (Go: Arithmetic operators, Integer operators, Logical operators)
abbrev pub unary : UnaryOp → Constant → Option Constant
unary Plus (Whole x) = part x
unary Negate (Whole x) = part (neg_ℤ x)
unary Complement (Whole x) = part (complement x)
unary Not (Truth b) = Some (Truth (not b))
unary _ _ = None

-- Go: Integer operators. By zero there is no quotient and no remainder.
abbrev pub divided : (ℤ → ℤ → ℤ) → ℤ → ℤ → Option Constant
divided divide x y = if int_eq y (pos 0) then None else part (divide x y)

-- Go: Arithmetic operators. A count isn't negative, and has no upper limit.
abbrev pub shifted : (ℤ → ℕ → ℤ) → ℤ → ℤ → Option Constant
shifted shift x (pos n) = part (shift x n)
shifted shift x (negsuc n) = None

-- Go: Arithmetic operators, Comparison operators. `int_div` rounds toward zero, and `int_rem` is what it leaves, with the
-- sign of x (`law_of_division`).
abbrev pub on_wholes : BinaryOp → ℤ → ℤ → Option Constant
on_wholes Multiply x y = part (x *ℤ y)
on_wholes Divide x y = divided int_div x y
on_wholes Remainder x y = divided int_rem x y
on_wholes ShiftLeft x y = shifted shift_left x y
on_wholes ShiftRight x y = shifted shift_right x y
on_wholes BitAnd x y = part (both x y)
on_wholes AndNot x y = part (both x (complement y))
on_wholes Add x y = part (x +ℤ y)
on_wholes Subtract x y = part (x -ℤ y)
on_wholes BitOr x y = part (either x y)
on_wholes BitXor x y = part (differing x y)
on_wholes Equal x y = Some (Truth (int_eq x y))
on_wholes NotEqual x y = Some (Truth (not (int_eq x y)))
on_wholes Less x y = Some (Truth (int_lt x y))
on_wholes LessEqual x y = Some (Truth (not (int_lt y x)))
on_wholes Greater x y = Some (Truth (int_lt y x))
on_wholes GreaterEqual x y = Some (Truth (not (int_lt x y)))
on_wholes LogicalAnd x y = None
on_wholes LogicalOr x y = None

-- whether two truth values are equal
abbrev pub same : Bool → Bool → Bool
same true b = b
same false b = not b

-- Go: Comparison operators, Logical operators
abbrev pub on_truths : BinaryOp → Bool → Bool → Option Constant
on_truths LogicalAnd a b = Some (Truth (a && b))
on_truths LogicalOr a b = Some (Truth (a || b))
on_truths Equal a b = Some (Truth (same a b))
on_truths NotEqual a b = Some (Truth (not (same a b)))
on_truths _ a b = None

-- the operator on two constants
abbrev pub binary : BinaryOp → Constant → Constant → Option Constant
binary op (Whole x) (Whole y) = on_wholes op x y
binary op (Truth a) (Truth b) = on_truths op a b
binary op _ _ = None

-- whether the operator is for such a constant: for a whole number, or for a truth value
abbrev pub suits : UnaryOp → Constant → Bool
suits Plus (Whole x) = true
suits Negate (Whole x) = true
suits Complement (Whole x) = true
suits Not (Truth b) = true
suits _ _ = false

abbrev pub is_for_wholes : BinaryOp → Bool
is_for_wholes LogicalAnd = false
is_for_wholes LogicalOr = false
is_for_wholes _ = true

abbrev pub is_for_truths : BinaryOp → Bool
is_for_truths LogicalAnd = true
is_for_truths LogicalOr = true
is_for_truths Equal = true
is_for_truths NotEqual = true
is_for_truths _ = false

-- whether the operator is for two such constants, which are of one kind
abbrev pub suits_both : BinaryOp → Constant → Constant → Bool
suits_both op (Whole x) (Whole y) = is_for_wholes op
suits_both op (Truth a) (Truth b) = is_for_truths op
suits_both op _ _ = false
