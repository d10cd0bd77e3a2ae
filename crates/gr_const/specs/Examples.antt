-- Go's own examples, and some at the limits.
use Rattle.std.specs.Prelude.{ℕ, ℤ, pos, neg_ℤ, ◌^◌, true, false, Some, None, ◌≡◌}
use Rattle.gr_tree.specs.declared.UnaryOp.TheVariants.{Negate, Complement, Not}
use Rattle.gr_tree.specs.declared.BinaryOp.{BinaryOp}
use Rattle.gr_tree.specs.declared.BinaryOp.TheVariants.{Multiply, Divide, Remainder, ShiftLeft, ShiftRight, BitAnd, AndNot, Add, BitOr, BitXor, Equal}
use Rattle.gr_const.specs.declared.constant.Constant.TheVariants.{Whole, Truth}
use Rattle.gr_const.specs.Constants.{unary, binary, whole}

abbrev minus : ℕ → ℤ
minus n = neg_ℤ (pos n)

abbrev Gives : BinaryOp → ℤ → ℤ → ℤ → Type 0
Gives op x y z = binary op (Whole x) (Whole y) ≡ Some (Whole z)

abbrev GivesNone : BinaryOp → ℤ → ℤ → Type 0
GivesNone op x y = binary op (Whole x) (Whole y) ≡ None

-- Go: Integer operators, the first table
abbrev pub Quotients : Type 0
Quotients = Gives Divide (pos 5) (pos 3) (pos 1) × Gives Divide (minus 5) (pos 3) (minus 1) × Gives Divide (pos 5) (minus 3) (minus 1) × Gives Divide (minus 5) (minus 3) (pos 1) × GivesNone Divide (pos 5) (pos 0)

abbrev pub Remainders : Type 0
Remainders = Gives Remainder (pos 5) (pos 3) (pos 2) × Gives Remainder (minus 5) (pos 3) (minus 2) × Gives Remainder (pos 5) (minus 3) (pos 2) × Gives Remainder (minus 5) (minus 3) (minus 2) × GivesNone Remainder (pos 5) (pos 0)

-- Go: Integer operators, the second table, which has 11 and -11
abbrev pub Elevens : Type 0
Elevens = Gives Divide (pos 11) (pos 4) (pos 2) × Gives Remainder (pos 11) (pos 4) (pos 3) × Gives ShiftRight (pos 11) (pos 2) (pos 2) × Gives BitAnd (pos 11) (pos 3) (pos 3)

abbrev pub MinusElevens : Type 0
MinusElevens = Gives Divide (minus 11) (pos 4) (minus 2) × Gives Remainder (minus 11) (pos 4) (minus 3) × Gives ShiftRight (minus 11) (pos 2) (minus 3) × Gives BitAnd (minus 11) (pos 3) (pos 1)

-- bits of negative numbers: `^5` is -6, and `x ^ -1` is `^x`
abbrev pub Negatives : Type 0
Negatives = (unary Complement (Whole (pos 5)) ≡ Some (Whole (minus 6))) × Gives BitXor (pos 5) (minus 1) (minus 6) × Gives BitOr (minus 12) (pos 5) (minus 11) × Gives AndNot (minus 1) (pos 5) (minus 6)

-- 2^63 is a part, but no `int`
abbrev pub Limits : Type 0
Limits = Gives ShiftLeft (pos 1) (pos 63) (pos (2 ^ 63)) × GivesNone ShiftLeft (pos 1) (pos 64) × GivesNone ShiftLeft (pos 1) (minus 1) × GivesNone Add (pos (2 ^ 63)) (pos 1) × Gives Multiply (pos (2 ^ 62)) (minus 2) (minus (2 ^ 63)) × (unary Negate (Whole (pos (2 ^ 63))) ≡ Some (Whole (minus (2 ^ 63)))) × (unary Complement (Whole (pos (2 ^ 63))) ≡ None) × (whole (Whole (pos (2 ^ 63))) ≡ None) × (whole (Whole (minus (2 ^ 63))) ≡ Some (minus (2 ^ 63)))

-- comparisons need no `int`, and are constants
abbrev pub Comparisons : Type 0
Comparisons = (binary Equal (Whole (pos (2 ^ 63))) (Whole (pos 1)) ≡ Some (Truth false)) × (unary Not (Truth false) ≡ Some (Truth true)) × (binary Equal (Truth true) (Whole (pos 1)) ≡ None)
