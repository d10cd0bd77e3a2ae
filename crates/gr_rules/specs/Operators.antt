-- Operators on values of a running program (Go: Arithmetic operators, Comparison operators, Logical operators).
use Rattle.std.specs.Prelude.{ℕ, ℤ, pos, negsuc, ◌-◌, ◌%◌, ◌^◌, ◌+ℤ◌, ◌-ℤ◌, ◌*ℤ◌, neg_ℤ, int_div, int_rem, int_lt, nat_eq, nat_lt, Bool, true, false, not, ◌&&◌, ◌||◌, ◌==◌, if◌then◌else◌}
use Rattle.std.specs.Option.{option_eq}
use Rattle.std.specs.Ordering.{int_eq}
use Rattle.std.specs.Cmp.Lexicographic.{pointwise}
use Rattle.gr_tree.specs.declared.expr.UnaryOp.{UnaryOp}
use Rattle.gr_tree.specs.declared.expr.UnaryOp.TheVariants.{Plus, Negate, Not, Complement}
use Rattle.gr_tree.specs.declared.expr.BinaryOp.{BinaryOp}
use Rattle.gr_tree.specs.declared.expr.BinaryOp.TheVariants.{Multiply, Divide, Remainder, ShiftLeft, ShiftRight, BitAnd, AndNot, Add, Subtract, BitOr, BitXor, Equal, NotEqual, Less, LessEqual, Greater, GreaterEqual, LogicalAnd, LogicalOr}
use Rattle.gr_const.specs.Bits.{shift_left, shift_right, complement, both, either, differing}
use Rattle.gr_const.specs.Constants.{same}
use Rattle.gr_base.specs.declared.names.ChName.{ChName}
use Rattle.gr_base.specs.declared.values.Value.{Value}
use Rattle.gr_base.specs.declared.values.Value.TheVariants.{Int, Bool as Truth, Unit as Empty, Chan}
use Rattle.gr_base.specs.declared.kinds.Fault.TheVariants.{DivideByZero, NegativeShift}
use Rattle.gr_rules.specs.Outcomes.{Outcome, gives, faults, wrong}

-- a number from 0 to 2^64 - 1 that differs from x by a multiple of 2^64; `negsuc a` is -a-1
abbrev pub residue : ℤ → ℕ
residue (pos a) = a % 2 ^ 64
residue (negsuc a) = 2 ^ 64 - 1 - a % 2 ^ 64

-- what is left of a number in the 64 bits of an `int` (Go: Integer overflow)
abbrev pub wrapped : ℤ → ℤ
wrapped x = if nat_lt (residue x) (2 ^ 63) then pos (residue x) else negsuc (2 ^ 64 - 1 - residue x)

abbrev pub int : ℤ → Outcome Value
int x = gives (Int (wrapped x))

abbrev pub truth : Bool → Outcome Value
truth b = gives (Truth b)

-- whether two names are one
abbrev pub same_channel : ChName → ChName → Bool
same_channel c d = pointwise nat_eq c.go d.go && (c.n == d.n)

-- Go: Integer operators
abbrev pub divided : (ℤ → ℤ → ℤ) → ℤ → ℤ → Outcome Value
divided divide x y = if int_eq y (pos 0) then faults DivideByZero else int (divide x y)

-- Go: Arithmetic operators: a shift by n is n shifts by 1
abbrev pub shifted : (ℤ → ℕ → ℤ) → ℤ → ℤ → Outcome Value
shifted shift x (pos n) = int (shift x n)
shifted shift x (negsuc n) = faults NegativeShift

abbrev pub on_ints : BinaryOp → ℤ → ℤ → Outcome Value
on_ints Multiply x y = int (x *ℤ y)
on_ints Divide x y = divided int_div x y
on_ints Remainder x y = divided int_rem x y
on_ints ShiftLeft x y = shifted shift_left x y
on_ints ShiftRight x y = shifted shift_right x y
on_ints BitAnd x y = int (both x y)
on_ints AndNot x y = int (both x (complement y))
on_ints Add x y = int (x +ℤ y)
on_ints Subtract x y = int (x -ℤ y)
on_ints BitOr x y = int (either x y)
on_ints BitXor x y = int (differing x y)
on_ints Equal x y = truth (int_eq x y)
on_ints NotEqual x y = truth (not (int_eq x y))
on_ints Less x y = truth (int_lt x y)
on_ints LessEqual x y = truth (not (int_lt y x))
on_ints Greater x y = truth (int_lt y x)
on_ints GreaterEqual x y = truth (not (int_lt x y))
on_ints _ x y = wrong

-- `==` and `!=`, by whether the operands are equal
abbrev pub compared : BinaryOp → Bool → Outcome Value
compared Equal b = truth b
compared NotEqual b = truth (not b)
compared _ b = wrong

abbrev pub on_truths : BinaryOp → Bool → Bool → Outcome Value
on_truths LogicalAnd a b = truth (a && b)
on_truths LogicalOr a b = truth (a || b)
on_truths op a b = compared op (same a b)

-- a binary operator on two values; two channels are equal where one `make` made them, or both are nil (Go: Comparison
-- operators)
abbrev pub operate : BinaryOp → Value → Value → Outcome Value
operate op (Int x) (Int y) = on_ints op x y
operate op (Truth a) (Truth b) = on_truths op a b
operate op Empty Empty = compared op true
operate op (Chan c) (Chan d) = compared op (option_eq same_channel c d)
operate op _ _ = wrong

-- a unary operator on a value
abbrev pub apply : UnaryOp → Value → Outcome Value
apply Plus (Int x) = int x
apply Negate (Int x) = int (neg_ℤ x)
apply Complement (Int x) = int (complement x)
apply Not (Truth b) = truth (not b)
apply _ _ = wrong

-- whether the left operand alone decides (Go: Logical operators)
abbrev pub settles : BinaryOp → Value → Bool
settles LogicalAnd (Truth b) = not b
settles LogicalOr (Truth b) = b
settles _ _ = false
