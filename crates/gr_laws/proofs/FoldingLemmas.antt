-- Folding a constant expression is evaluating it, and what evaluates to an `int` is the exact number, wrapped.
use Rattle.std.proofs.Common.{◌≡◌, ℕ, ℤ, pos, negsuc, ◌+◌, ◌-◌, ◌%◌, ◌^◌, ◌<◌, nat_lt, arith, Bool, true, if◌then◌else◌, Option, Some, None, refl, ◌∙◌, ap, inl, inr}
use Rattle.gr_tree.specs.declared.expr.UnaryOp.{UnaryOp}
use Rattle.gr_tree.specs.declared.expr.UnaryOp.TheVariants.{Plus, Negate, Not, Complement, Receive}
use Rattle.gr_tree.specs.declared.expr.BinaryOp.{BinaryOp}
use Rattle.gr_tree.specs.declared.expr.BinaryOp.TheVariants.{Multiply, Divide, Remainder, ShiftLeft, ShiftRight, BitAnd, AndNot, Add, Subtract, BitOr, BitXor, Equal, NotEqual, LogicalAnd, LogicalOr}
use Rattle.std.specs.Prelude.{int_div, int_rem}
use Rattle.std.proofs.lemmas.Bool.{ltb-true}
use Rattle.std.proofs.Math.Nat.{mod-eq_of_lt}
use Rattle.std.specs.Ordering.{int_eq}
use Rattle.gr_base.specs.declared.values.Value.{Value}
use Rattle.gr_const.specs.declared.constant.Constant.{Constant}
use Rattle.gr_const.specs.declared.constant.Constant.TheVariants.{Whole, Truth}
use Rattle.gr_const.specs.Constants.{part, unary, binary, on_wholes, on_truths}
use Rattle.gr_const.specs.Constants as exact
use Rattle.gr_const.specs.Bits.{shift_left, shift_right}
use Rattle.gr_const.specs.Parts.{is_part, is_int}
use Rattle.gr_causal.proofs.ListLemmas.{true_or_false, some_is, none_not}
use Rattle.gr_rules.specs.Outcomes.{Outcome, gives}
use Rattle.gr_rules.specs.Operators.{wrapped, int, divided, shifted, on_ints, operate, apply}
use Rattle.gr_rules.specs.Operators as running
use Rattle.gr_laws.specs.Folding.{as_value, wrapped_value}

-- the outcome is the constant's, wrapped
abbrev Folds : Option Constant → Outcome Value → Type 0
Folds exact running = (c : Constant) → exact ≡ Some c → running ≡ gives (wrapped_value c)

of_part : (x : ℤ) → Folds (part x) (int x)
of_part x c e = elim (true_or_false (is_part x)) [
  | inl t ↦ ap (λ c. gives (wrapped_value c)) (some_is _ _ (rw t at e))
  | inr f ↦ absurd (none_not _ (rw f at e))
]

of_truth : (b : Bool) → Folds (Some (Truth b)) (running.truth b)
of_truth b c e = ap (λ c. gives (wrapped_value c)) (some_is _ _ e)

of_division : (divide : ℤ → ℤ → ℤ) (x y : ℤ) → Folds (exact.divided divide x y) (divided divide x y)
of_division divide x y c e = elim (true_or_false (int_eq y (pos 0))) [
  | inl t ↦ absurd (none_not _ (rw t at e))
  | inr f ↦ rw f (of_part (divide x y) c (rw f at e))
]

of_shift : (shift : ℤ → ℕ → ℤ) (x y : ℤ) → Folds (exact.shifted shift x y) (shifted shift x y)
of_shift shift x (pos n) c e = of_part (shift x n) c e
of_shift shift x (negsuc n) c e = absurd (none_not _ e)

none_folds : (o : Outcome Value) → Folds None o
none_folds o c e = absurd (none_not _ e)

of_wholes : (op : BinaryOp) (x y : ℤ) → Folds (on_wholes op x y) (on_ints op x y)
of_wholes Multiply x y = of_part _
of_wholes Divide x y = of_division int_div x y
of_wholes Remainder x y = of_division int_rem x y
of_wholes ShiftLeft x y = of_shift shift_left x y
of_wholes ShiftRight x y = of_shift shift_right x y
of_wholes BitAnd x y = of_part _
of_wholes AndNot x y = of_part _
of_wholes Add x y = of_part _
of_wholes Subtract x y = of_part _
of_wholes BitOr x y = of_part _
of_wholes BitXor x y = of_part _
of_wholes LogicalAnd x y = none_folds _
of_wholes LogicalOr x y = none_folds _
of_wholes _ x y = of_truth _

of_truths : (op : BinaryOp) (a b : Bool) → Folds (on_truths op a b) (running.on_truths op a b)
of_truths LogicalAnd a b = of_truth _
of_truths LogicalOr a b = of_truth _
of_truths Equal a b = of_truth _
of_truths NotEqual a b = of_truth _
of_truths _ a b = none_folds _

pub binary_folds : (op : BinaryOp) (x y z : Constant) → binary op x y ≡ Some z
    → operate op (as_value x) (as_value y) ≡ gives (wrapped_value z)
binary_folds op (Whole x) (Whole y) = of_wholes op x y
binary_folds op (Truth a) (Truth b) = of_truths op a b
binary_folds op (Whole x) (Truth b) = none_folds _
binary_folds op (Truth a) (Whole y) = none_folds _

pub unary_folds : (op : UnaryOp) (x z : Constant) → unary op x ≡ Some z → apply op (as_value x) ≡ gives (wrapped_value z)
unary_folds Plus (Whole x) = of_part _
unary_folds Negate (Whole x) = of_part _
unary_folds Complement (Whole x) = of_part _
unary_folds Not (Truth b) = of_truth _
unary_folds Not (Whole x) = none_folds _
unary_folds Receive (Whole x) = none_folds _
unary_folds _ (Truth b) = none_folds _

-- with h for 2^63, m for 2^64 and k for 2^64 - 1
fits_pos : (h m k a : ℕ) → h + h ≡ m → nat_lt a h ≡ true → (if nat_lt (a % m) h then pos (a % m) else negsuc (k - a % m)) ≡ pos a
fits_pos h m k a double t =
    let less : a < h = ltb-true a h t in
    let same : a % m ≡ a = mod-eq_of_lt (omega arith) in
    ap (λ n. if nat_lt n h then pos n else negsuc (k - n)) same ∙ ap (λ b. if b then pos a else negsuc (k - a)) t

fits_negsuc : (h m k a : ℕ) → h + h ≡ m → k + 1 ≡ m → nat_lt a h ≡ true
    → (if nat_lt (k - a % m) h then pos (k - a % m) else negsuc (k - (k - a % m))) ≡ negsuc a
fits_negsuc h m k a double one t =
    let less : a < h = ltb-true a h t in
    let same : a % m ≡ a = mod-eq_of_lt (omega arith) in
    ap (λ n. if nat_lt (k - n) h then pos (k - n) else negsuc (k - (k - n))) same ∙ elim (true_or_false (nat_lt (k - a) h)) [
      | inl u ↦ let small : k - a < h = ltb-true (k - a) h u in absurd (omega arith)
      | inr u ↦ ap (λ b. if b then pos (k - a) else negsuc (k - (k - a))) u ∙ ap negsuc (let e : k - (k - a) ≡ a = omega arith in e)
    ]

pub int_fits : (x : ℤ) → is_int x ≡ true → wrapped x ≡ x
int_fits (pos a) t = fits_pos (2 ^ 63) (2 ^ 64) (2 ^ 64 - 1) a refl t
int_fits (negsuc a) t = fits_negsuc (2 ^ 63) (2 ^ 64) (2 ^ 64 - 1) a refl refl t
