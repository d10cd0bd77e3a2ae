-- What an expression is (Go: Expressions, Calls, Operators, Constant expressions, Making channels, Length and capacity, Receive
-- operator).
use Rattle.std.specs.Prelude.{◌≡◌, ℕ, zero, ℤ, pos, negsuc, Bool, true, false, ◌||◌, List, [], ◌∷◌, Option, Some, None, if◌then◌else◌, codes}
use Rattle.gr_tree.specs.declared.expr.Direction.{Direction}
use Rattle.gr_tree.specs.declared.expr.UnaryOp.{UnaryOp}
use Rattle.gr_tree.specs.declared.expr.UnaryOp.TheVariants as unaries
use Rattle.gr_tree.specs.declared.expr.BinaryOp.{BinaryOp}
use Rattle.gr_tree.specs.declared.expr.BinaryOp.TheVariants as binaries
use Rattle.gr_tree.specs.Exprs as tree
use Rattle.gr_tree.specs.Exprs.{WrittenType, Tree, Trees}
use Rattle.gr_const.specs.declared.constant.Constant.{Constant}
use Rattle.gr_const.specs.declared.constant.Constant.TheVariants as constants
use Rattle.gr_const.specs.Constants as constant
use Rattle.gr_const.specs.Constants.{whole}
use Rattle.gr_program.specs.Types.{Ty, IntType, BoolType, UnitType, ChanType}
use Rattle.gr_typing.specs.Types.{type_written, assignable, may_receive}
use Rattle.gr_program.specs.Programs.{Number, Truth, Empty, Nil, zero_of, Expr, Literally, Variable, Unary, Binary, Receive, Call, Len, Cap, Make, MakeSized, Exprs, none, more}
use Rattle.gr_typing.specs.Scopes.{Scope, variable_named, type_of_variable, Signature, Sign, function_in, signature}

-- what an expression is: a constant, `nil`, or a value of a type that is known when the program runs
pub data Value : Type 0 where
  Known : (c : Constant) → Value
  NilValue : Value
  Made : (type : Ty) (term : Expr) → Value

-- a value has this type of its own; a constant number is whole, and must fit `int`
pub data HasType : Value → Ty → Expr → Type 0 where
  has_int : {c : Constant} {n : ℤ} → whole c ≡ Some n → HasType (Known c) IntType (Literally (Number n))
  has_truth : {b : Bool} → HasType (Known (constants.Truth b)) BoolType (Literally (Truth b))
  has_made : {t : Ty} {p : Expr} → HasType (Made t p) t p

-- a value may be given to a place of this type (Go: Assignability)
pub data Fits : Value → Ty → Expr → Type 0 where
  of_type : {v : Value} {t u : Ty} {p : Expr} → HasType v t p → assignable t u ≡ true → Fits v u p
  nil_channel : {d : Direction} {t : Ty} → Fits NilValue (ChanType d t) (Literally Nil)

-- the type of an operator's value on an operand that is no constant
abbrev pub unary_type : UnaryOp → Ty → Option Ty
unary_type unaries.Plus IntType = Some IntType
unary_type unaries.Negate IntType = Some IntType
unary_type unaries.Complement IntType = Some IntType
unary_type unaries.Not BoolType = Some BoolType
unary_type _ _ = None

-- `==` and `!=` are for two values if one may be given to a place of the other's type
abbrev pub compared : Ty → Ty → Option Ty
compared t u = if assignable t u || assignable u t then Some BoolType else None

abbrev pub if_ints : Ty → Ty → Ty → Option Ty
if_ints IntType IntType t = Some t
if_ints _ _ t = None

abbrev pub if_truths : Ty → Ty → Option Ty
if_truths BoolType BoolType = Some BoolType
if_truths _ _ = None

abbrev pub binary_type : BinaryOp → Ty → Ty → Option Ty
binary_type binaries.Equal t u = compared t u
binary_type binaries.NotEqual t u = compared t u
binary_type binaries.Less t u = if_ints t u BoolType
binary_type binaries.LessEqual t u = if_ints t u BoolType
binary_type binaries.Greater t u = if_ints t u BoolType
binary_type binaries.GreaterEqual t u = if_ints t u BoolType
binary_type binaries.LogicalAnd t u = if_truths t u
binary_type binaries.LogicalOr t u = if_truths t u
binary_type op t u = if_ints t u IntType

abbrev pub is_comparison : BinaryOp → Bool
is_comparison binaries.Equal = true
is_comparison binaries.NotEqual = true
is_comparison _ = false

abbrev pub is_zero : ℤ → Bool
is_zero (pos zero) = true
is_zero _ = false

abbrev pub is_negative : ℤ → Bool
is_negative (pos n) = false
is_negative (negsuc n) = true

-- a constant divisor is not 0, a constant shift count and a constant size are not negative
abbrev pub may_stand_right : BinaryOp → Value → Bool
may_stand_right binaries.Divide (Known (constants.Whole n)) = if is_zero n then false else true
may_stand_right binaries.Remainder (Known (constants.Whole n)) = if is_zero n then false else true
may_stand_right binaries.ShiftLeft (Known (constants.Whole n)) = if is_negative n then false else true
may_stand_right binaries.ShiftRight (Known (constants.Whole n)) = if is_negative n then false else true
may_stand_right op v = true

abbrev pub may_be_size : Value → Bool
may_be_size (Known (constants.Whole n)) = if is_negative n then false else true
may_be_size v = true

abbrev pub both_known : Value → Value → Bool
both_known (Known c) (Known d) = true
both_known u v = false

-- no declaration of the program hides a name of the language's own
pub record IsPredeclared (fs : List Signature) (s : Scope) (x : List ℕ) : Type 0 where
  pub no_variable : variable_named s x ≡ None
  pub no_function : function_in fs x ≡ None

-- what an expression is in a scope, among these functions
mutual
  pub data IsValue (fs : List Signature) (s : Scope) : Tree → Value → Type 0 where
    number : {n : ℕ} {c : Constant} → constant.number n ≡ Some c → IsValue fs s (tree.Number n) (Known c)
    variable : {x : List ℕ} {k : ℕ} {t : Ty}
        → variable_named s x ≡ Some k
        → type_of_variable s k ≡ Some t
        → IsValue fs s (tree.Name x) (Made t (Variable k))
    true_name : {x : List ℕ} → IsPredeclared fs s x → x ≡ codes "true"
        → IsValue fs s (tree.Name x) (Known (constants.Truth true))
    false_name : {x : List ℕ} → IsPredeclared fs s x → x ≡ codes "false"
        → IsValue fs s (tree.Name x) (Known (constants.Truth false))
    nil_name : {x : List ℕ} → IsPredeclared fs s x → x ≡ codes "nil" → IsValue fs s (tree.Name x) NilValue
    unit : IsValue fs s tree.UnitValue (Made UnitType (Literally Empty))
    paren : {e : Tree} {v : Value} → IsValue fs s e v → IsValue fs s (tree.Paren e) v
    unary_constant : {op : UnaryOp} {e : Tree} {c d : Constant}
        → IsValue fs s e (Known c)
        → constant.unary op c ≡ Some d
        → IsValue fs s (tree.Unary op e) (Known d)
    unary_made : {op : UnaryOp} {e : Tree} {t u : Ty} {p : Expr}
        → IsValue fs s e (Made t p)
        → unary_type op t ≡ Some u
        → IsValue fs s (tree.Unary op e) (Made u (Unary op p))
    receive : {e : Tree} {d : Direction} {t : Ty} {p : Expr}
        → IsValue fs s e (Made (ChanType d t) p)
        → may_receive d ≡ true
        → IsValue fs s (tree.Unary unaries.Receive e) (Made t (Receive p (zero_of t)))
    binary_constant : {op : BinaryOp} {a b : Tree} {c d r : Constant}
        → IsValue fs s a (Known c)
        → IsValue fs s b (Known d)
        → constant.binary op c d ≡ Some r
        → IsValue fs s (tree.Binary op a b) (Known r)
    binary_made : {op : BinaryOp} {a b : Tree} {u v : Value} {t w r : Ty} {p q : Expr}
        → IsValue fs s a u
        → IsValue fs s b v
        → both_known u v ≡ false
        → HasType u t p
        → HasType v w q
        → binary_type op t w ≡ Some r
        → may_stand_right op v ≡ true
        → IsValue fs s (tree.Binary op a b) (Made r (Binary op p q))
    left_nil : {op : BinaryOp} {a b : Tree} {d : Direction} {t : Ty} {q : Expr}
        → is_comparison op ≡ true
        → IsValue fs s a NilValue
        → IsValue fs s b (Made (ChanType d t) q)
        → IsValue fs s (tree.Binary op a b) (Made BoolType (Binary op (Literally Nil) q))
    right_nil : {op : BinaryOp} {a b : Tree} {d : Direction} {t : Ty} {p : Expr}
        → is_comparison op ≡ true
        → IsValue fs s a (Made (ChanType d t) p)
        → IsValue fs s b NilValue
        → IsValue fs s (tree.Binary op a b) (Made BoolType (Binary op p (Literally Nil)))
    length : {x : List ℕ} {e : Tree} {d : Direction} {t : Ty} {p : Expr}
        → IsPredeclared fs s x
        → x ≡ codes "len"
        → IsValue fs s e (Made (ChanType d t) p)
        → IsValue fs s (tree.Call x (tree.more e tree.none)) (Made IntType (Len p))
    capacity : {x : List ℕ} {e : Tree} {d : Direction} {t : Ty} {p : Expr}
        → IsPredeclared fs s x
        → x ≡ codes "cap"
        → IsValue fs s e (Made (ChanType d t) p)
        → IsValue fs s (tree.Call x (tree.more e tree.none)) (Made IntType (Cap p))
    call : {x : List ℕ} {es : Trees} {t : Ty} {p : Expr}
        → IsCall fs s x es (Some t) p
        → IsValue fs s (tree.Call x es) (Made t p)
    make : {w : WrittenType} {d : Direction} {t : Ty}
        → type_written w ≡ Some (ChanType d t)
        → IsValue fs s (tree.Make w) (Made (ChanType d t) Make)
    make_sized : {w : WrittenType} {d : Direction} {t : Ty} {e : Tree} {v : Value} {p : Expr}
        → type_written w ≡ Some (ChanType d t)
        → IsValue fs s e v
        → HasType v IntType p
        → may_be_size v ≡ true
        → IsValue fs s (tree.MakeSized w e) (Made (ChanType d t) (MakeSized p))

  -- a call of a function, and the type of its result, if it has one; a variable hides a function of its name
  pub data IsCall (fs : List Signature) (s : Scope) : List ℕ → Trees → Option Ty → Expr → Type 0 where
    calls : {x y : List ℕ} {es : Trees} {k : ℕ} {parameters : List Ty} {result : Option Ty} {ps : Exprs}
        → variable_named s x ≡ None
        → function_in fs x ≡ Some k
        → signature fs k ≡ Some (Sign y parameters result)
        → AreArguments fs s es parameters ps
        → IsCall fs s x es result (Call k ps)

  -- each argument may be given to its parameter, and there are as many
  pub data AreArguments (fs : List Signature) (s : Scope) : Trees → List Ty → Exprs → Type 0 where
    no_argument : AreArguments fs s tree.none [] none
    argument : {e : Tree} {es : Trees} {v : Value} {t : Ty} {ts : List Ty} {p : Expr} {ps : Exprs}
        → IsValue fs s e v
        → Fits v t p
        → AreArguments fs s es ts ps
        → AreArguments fs s (tree.more e es) (t ∷ ts) (more p ps)
