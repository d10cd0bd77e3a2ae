-- What the checker finds of an expression, as functions, on which the law `found_programs` rests.
use Rattle.std.specs.Prelude.{ℕ, ℤ, Bool, true, false, List, [], ◌∷◌, Option, Some, None, if◌then◌else◌, nat_eq, codes}
use Rattle.std.specs.Cmp.Lexicographic.{pointwise}
use Rattle.gr_tree.specs.declared.expr.Direction.{Direction}
use Rattle.gr_tree.specs.declared.expr.UnaryOp.{UnaryOp}
use Rattle.gr_tree.specs.declared.expr.UnaryOp.TheVariants as unaries
use Rattle.gr_tree.specs.declared.expr.BinaryOp.{BinaryOp}
use Rattle.gr_tree.specs.Exprs as tree
use Rattle.gr_tree.specs.Exprs.{WrittenType, Tree, Trees}
use Rattle.gr_const.specs.declared.constant.Constant.{Constant}
use Rattle.gr_const.specs.declared.constant.Constant.TheVariants as constants
use Rattle.gr_const.specs.Constants as constant
use Rattle.gr_program.specs.Types.{Ty, IntType, BoolType, UnitType, ChanType}
use Rattle.gr_typing.specs.Types.{type_written, assignable, may_receive}
use Rattle.gr_program.specs.Programs.{Number, Truth, Empty, Nil, zero_of, Expr, Literally, Variable, Unary, Binary, Receive, Call, Len, Cap, Make, MakeSized, Exprs, none, more}
use Rattle.gr_typing.specs.Scopes.{Scope, variable_named, type_of_variable, Signature, Sign, function_in, signature}
use Rattle.gr_typing.specs.Values.{Value, Known, NilValue, Made, unary_type, binary_type, is_comparison, may_stand_right, may_be_size}

-- a function of what is there
infixl 10 ◌>>=◌
abbrev pub ◌>>=◌ : {A B : Type 0} → Option A → (A → Option B) → Option B
(Some a) >>= f = f a
None >>= f = None

abbrev pub where_true : {A : Type 0} → Bool → A → Option A
where_true true a = Some a
where_true false a = None

abbrev pub has_text : List ℕ → List ℕ → Bool
has_text x y = pointwise nat_eq x y

-- a value with its own type
abbrev pub Typed : Type 0
Typed = Ty × Expr

abbrev pub int_typed : ℤ → Typed
int_typed n = (IntType, Literally (Number n))

abbrev pub typed_constant : Constant → Option Typed
typed_constant (constants.Whole n) = constant.whole (constants.Whole n) >>= λ m. Some (int_typed m)
typed_constant (constants.Truth b) = Some (BoolType, Literally (Truth b))

unfoldable pub typed : Value → Option Typed
typed (Known c) = typed_constant c
typed NilValue = None
typed (Made t p) = Some (t, p)

abbrev pub given_nil : Ty → Option Expr
given_nil (ChanType d t) = Some (Literally Nil)
given_nil t = None

abbrev pub given_typed : Ty → Typed → Option Expr
given_typed u v = where_true (assignable v.0 u) v.1

-- a value given to a place of a type
unfoldable pub given : Ty → Value → Option Expr
given u NilValue = given_nil u
given u (Known c) = typed (Known c) >>= given_typed u
given u (Made t p) = typed (Made t p) >>= given_typed u

-- a value of this type of its own
abbrev pub if_same : Ty → Ty → Expr → Option Expr
if_same IntType IntType p = Some p
if_same BoolType BoolType p = Some p
if_same t u p = None

-- a whole number, or a truth value
abbrev pub of_kind : Ty → Value → Option Expr
of_kind t v = typed v >>= λ w. if_same t w.0 w.1

-- a channel: its direction, its elements' type, and the term
abbrev pub as_channel : Value → Option (Direction × (Ty × Expr))
as_channel (Made (ChanType d t) p) = Some (d, (t, p))
as_channel v = None

abbrev pub named_constant : List ℕ → Option Value
named_constant x =
    if has_text x (codes "true") then Some (Known (constants.Truth true)) else
    (if has_text x (codes "false") then Some (Known (constants.Truth false)) else
    (if has_text x (codes "nil") then Some NilValue else None))

abbrev pub if_unknown : {A B : Type 0} → Option A → Option B → Option B
if_unknown (Some a) other = None
if_unknown None other = other

abbrev pub variable_value : Scope → ℕ → Option Value
variable_value s k = type_of_variable s k >>= λ t. Some (Made t (Variable k))

abbrev pub name_by : List Signature → Scope → List ℕ → Option ℕ → Option Value
name_by fs s x (Some k) = variable_value s k
name_by fs s x None = if_unknown (function_in fs x) (named_constant x)

unfoldable pub name_value : List Signature → Scope → List ℕ → Option Value
name_value fs s x = name_by fs s x (variable_named s x)

abbrev pub unary_made : UnaryOp → Ty → Expr → Option Value
unary_made op t p = unary_type op t >>= λ u. Some (Made u (Unary op p))

-- an operator other than `<-` on a value
unfoldable pub unary_value : UnaryOp → Value → Option Value
unary_value op (Known c) = constant.unary op c >>= λ d. Some (Known d)
unary_value op NilValue = None
unary_value op (Made t p) = unary_made op t p

abbrev pub received : Direction × (Ty × Expr) → Option Value
received c = where_true (may_receive c.0) (Made c.1.0 (Receive c.1.1 (zero_of c.1.0)))

unfoldable pub receive_value : Value → Option Value
receive_value v = as_channel v >>= received

abbrev pub on_operand : UnaryOp → Value → Option Value
on_operand unaries.Receive v = receive_value v
on_operand unaries.Plus v = unary_value unaries.Plus v
on_operand unaries.Negate v = unary_value unaries.Negate v
on_operand unaries.Not v = unary_value unaries.Not v
on_operand unaries.Complement v = unary_value unaries.Complement v

abbrev pub nil_compared : BinaryOp → Option (Direction × (Ty × Expr)) → (Expr → Expr) → Option Value
nil_compared op (Some c) joined = where_true (is_comparison op) (Made BoolType (joined c.1.1))
nil_compared op None joined = None

abbrev pub binary_typed : BinaryOp → Value → Typed → Typed → Option Value
binary_typed op v a b = binary_type op a.0 b.0 >>= λ r. where_true (may_stand_right op v) (Made r (Binary op a.1 b.1))

abbrev pub binary_made : BinaryOp → Value → Value → Option Value
binary_made op u v = typed u >>= λ a. typed v >>= λ b. binary_typed op v a b

unfoldable pub binary_value : BinaryOp → Value → Value → Option Value
binary_value op (Known c) (Known d) = constant.binary op c d >>= λ r. Some (Known r)
binary_value op NilValue v = nil_compared op (as_channel v) (λ q. Binary op (Literally Nil) q)
binary_value op (Known c) NilValue = None
binary_value op (Made t p) NilValue = nil_compared op (as_channel (Made t p)) (λ q. Binary op q (Literally Nil))
binary_value op (Known c) (Made w q) = binary_made op (Known c) (Made w q)
binary_value op (Made t p) (Known d) = binary_made op (Made t p) (Known d)
binary_value op (Made t p) (Made w q) = binary_made op (Made t p) (Made w q)

abbrev pub made_channel : Option Ty → Expr → Option Value
made_channel (Some (ChanType d t)) p = Some (Made (ChanType d t) p)
made_channel _ p = None

abbrev pub size_of : Value → Option Expr
size_of v = where_true (may_be_size v) v >>= of_kind IntType

abbrev pub measured : (Expr → Expr) → Value → Option Value
measured by v = as_channel v >>= λ c. Some (Made IntType (by c.1.1))

-- `len` and `cap` of a value
abbrev pub measure : List ℕ → Value → Option Value
measure x v = if has_text x (codes "len") then measured Len v else (if has_text x (codes "cap") then measured Cap v else None)

abbrev pub result_value : Option Ty → Expr → Option Value
result_value (Some t) p = Some (Made t p)
result_value None p = None

-- a call of a function, by what its arguments are for its parameters: its result and the term
abbrev pub call_of : (List Ty → Option Exprs) → ℕ → Option Signature → Option (Option Ty × Expr)
call_of arguments k None = None
call_of arguments k (Some (Sign y parameters result)) = arguments parameters >>= λ ps. Some (result, Call k ps)

abbrev pub called_function : List Signature → (List Ty → Option Exprs) → Option ℕ → Option (Option Ty × Expr)
called_function fs arguments None = None
called_function fs arguments (Some k) = call_of arguments k (signature fs k)

-- a call of a function that no variable hides
unfoldable pub call_in : List Signature → Scope → List ℕ → (List Ty → Option Exprs) → Option (Option Ty × Expr)
call_in fs s x arguments = if_unknown (variable_named s x) (called_function fs arguments (function_in fs x))

abbrev pub call_value : Option Ty × Expr → Option Value
call_value c = result_value c.0 c.1

-- a call that has a value: of a function with a result, or `len` or `cap`, whose one argument has the value `only`
abbrev pub called_by : List Signature → Scope → List ℕ → (List Ty → Option Exprs) → Option Value → Option ℕ → Option Value
called_by fs s x arguments only (Some k) = call_in fs s x arguments >>= call_value
called_by fs s x arguments only None = if_unknown (variable_named s x) (only >>= measure x)

unfoldable pub called : List Signature → Scope → List ℕ → (List Ty → Option Exprs) → Option Value → Option Value
called fs s x arguments only = called_by fs s x arguments only (function_in fs x)

-- what an expression is; what arguments are for parameters of these types; the value of the one argument
unfoldable mutual
  pub value_in : List Signature → Scope → Tree → Option Value
  value_in fs s (tree.Number n) = constant.number n >>= λ c. Some (Known c)
  value_in fs s (tree.Text bytes) = None
  value_in fs s (tree.Name x) = name_value fs s x
  value_in fs s tree.UnitValue = Some (Made UnitType (Literally Empty))
  value_in fs s (tree.Paren e) = value_in fs s e
  value_in fs s (tree.Call x es) = called fs s x (arguments_in fs s es) (only_in fs s es)
  value_in fs s (tree.Make w) = made_channel (type_written w) Make
  value_in fs s (tree.MakeSized w e) = value_in fs s e >>= size_of >>= λ p. made_channel (type_written w) (MakeSized p)
  value_in fs s (tree.Unary op e) = value_in fs s e >>= on_operand op
  value_in fs s (tree.Binary op a b) = value_in fs s a >>= λ u. value_in fs s b >>= λ v. binary_value op u v

  pub arguments_in : List Signature → Scope → Trees → List Ty → Option Exprs
  arguments_in fs s tree.none [] = Some none
  arguments_in fs s tree.none (t ∷ ts) = None
  arguments_in fs s (tree.more e es) [] = None
  arguments_in fs s (tree.more e es) (t ∷ ts) = value_in fs s e >>= given t >>= λ p. arguments_in fs s es ts >>= λ ps. Some (more p ps)

  pub only_in : List Signature → Scope → Trees → Option Value
  only_in fs s tree.none = None
  only_in fs s (tree.more e tree.none) = value_in fs s e
  only_in fs s (tree.more e (tree.more f es)) = None
