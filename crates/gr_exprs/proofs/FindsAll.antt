-- What the judgement says of an expression is what the checker finds.
use Rattle.std.proofs.Common.{◌≡◌, ℕ, true, false, List, refl, ap, ◌∙◌, true≢false}
use Rattle.std.specs.Prelude.{Option, Some, None, codes}
use Rattle.gr_tree.specs.declared.expr.Direction.{Direction}
use Rattle.gr_tree.specs.declared.expr.UnaryOp.{UnaryOp}
use Rattle.gr_tree.specs.declared.expr.UnaryOp.TheVariants as unaries
use Rattle.gr_tree.specs.declared.expr.BinaryOp.{BinaryOp}
use Rattle.gr_tree.specs.Exprs as tree
use Rattle.gr_tree.specs.Exprs.{WrittenType, Tree, Trees}
use Rattle.gr_const.specs.declared.constant.Constant.{Constant}
use Rattle.gr_const.specs.declared.constant.Constant.TheVariants as constants
use Rattle.gr_const.specs.Constants as constant
use Rattle.gr_program.specs.Types.{Ty, IntType, BoolType, UnitType, ChanType}
use Rattle.gr_typing.specs.Types.{type_written, may_receive}
use Rattle.gr_program.specs.Programs.{Nil, zero_of, Expr, Literally, Variable, Unary, Binary, Receive, Call, Len, Cap, Make, MakeSized, Exprs, more}
use Rattle.gr_typing.specs.Scopes.{Scope, variable_named, type_of_variable, Signature, Sign, function_in, signature}
use Rattle.gr_typing.specs.Values as rules
use Rattle.gr_typing.specs.Values.{Value, Known, NilValue, Made, HasType, unary_type, binary_type, is_comparison, may_stand_right, may_be_size, both_known, IsPredeclared, IsValue, IsCall, AreArguments}
use Rattle.gr_exprs.specs.Finding.{◌>>=◌, where_true, typed, given, of_kind, named_constant, if_unknown, name_by, name_value, unary_value, receive_value, on_operand, binary_typed, binary_made, binary_value, made_channel, size_of, measure, call_of, called_function, call_in, call_value, called_by, called, value_in, arguments_in, only_in}
use Rattle.gr_exprs.proofs.Finds.{none_some, then_some, if_true, typed_complete, given_complete, int_complete}

-- names
variable_all : (fs : List Signature) (s : Scope) (x : List ℕ) (k : ℕ) (t : Ty) → variable_named s x ≡ Some k → type_of_variable s k ≡ Some t → name_value fs s x ≡ Some (Made t (Variable k))
unfolding name_value
variable_all fs s x k t is of = ap (name_by fs s x) is ∙ then_some (type_of_variable s k) t (λ t. Some (Made t (Variable k))) of

free_all : (fs : List Signature) (s : Scope) (x : List ℕ) → IsPredeclared fs s x → name_value fs s x ≡ named_constant x
unfolding name_value
free_all fs s x h = ap (name_by fs s x) h.no_variable ∙ ap (λ o. if_unknown o (named_constant x)) h.no_function

-- operators
operand_all : (op : UnaryOp) (v r : Value) → unary_value op v ≡ Some r → on_operand op v ≡ Some r
unfolding unary_value
operand_all unaries.Plus v r e = e
operand_all unaries.Negate v r e = e
operand_all unaries.Not v r e = e
operand_all unaries.Complement v r e = e
operand_all unaries.Receive (Known (constants.Whole n)) r e = none_some e
operand_all unaries.Receive (Known (constants.Truth b)) r e = none_some e
operand_all unaries.Receive NilValue r e = none_some e
operand_all unaries.Receive (Made IntType p) r e = none_some e
operand_all unaries.Receive (Made BoolType p) r e = none_some e
operand_all unaries.Receive (Made UnitType p) r e = none_some e
operand_all unaries.Receive (Made (ChanType d t) p) r e = none_some e

constant_all : (op : UnaryOp) (c d : Constant) → constant.unary op c ≡ Some d → unary_value op (Known c) ≡ Some (Known d)
unfolding unary_value
constant_all op c d e = then_some (constant.unary op c) d (λ d. Some (Known d)) e

unary_all : (op : UnaryOp) (t u : Ty) (p : Expr) → unary_type op t ≡ Some u → unary_value op (Made t p) ≡ Some (Made u (Unary op p))
unfolding unary_value
unary_all op t u p e = then_some (unary_type op t) u (λ u. Some (Made u (Unary op p))) e

receive_all : (d : Direction) (t : Ty) (p : Expr) → may_receive d ≡ true → receive_value (Made (ChanType d t) p) ≡ Some (Made t (Receive p (zero_of t)))
unfolding receive_value
receive_all d t p may = if_true (may_receive d) (Made t (Receive p (zero_of t))) may

constants_all : (op : BinaryOp) (c d r : Constant) → constant.binary op c d ≡ Some r → binary_value op (Known c) (Known d) ≡ Some (Known r)
unfolding binary_value
constants_all op c d r e = then_some (constant.binary op c d) r (λ r. Some (Known r)) e

made_all : (op : BinaryOp) (u v : Value) (t w r : Ty) (p q : Expr) → HasType u t p → HasType v w q → binary_type op t w ≡ Some r → may_stand_right op v ≡ true → binary_made op u v ≡ Some (Made r (Binary op p q))
made_all op u v t w r p q hu hv is may =
    then_some (typed u) (t, p) (λ a. typed v >>= λ b. binary_typed op v a b) (typed_complete hu)
    ∙ then_some (typed v) (w, q) (λ b. binary_typed op v (t, p) b) (typed_complete hv)
    ∙ then_some (binary_type op t w) r (λ r. where_true (may_stand_right op v) (Made r (Binary op p q))) is
    ∙ if_true (may_stand_right op v) (Made r (Binary op p q)) may

joined_all : (op : BinaryOp) (u v : Value) (t w r : Ty) (p q : Expr) → both_known u v ≡ false → HasType u t p → HasType v w q → binary_type op t w ≡ Some r → may_stand_right op v ≡ true → binary_value op u v ≡ Some (Made r (Binary op p q))
unfolding binary_value typed
joined_all op (Known c) (Known d) t w r p q other hu hv is may = absurd (true≢false other)
joined_all op NilValue v t w r p q other hu hv is may = none_some (typed_complete hu)
joined_all op (Known c) NilValue t w r p q other hu hv is may = none_some (typed_complete hv)
joined_all op (Made x y) NilValue t w r p q other hu hv is may = none_some (typed_complete hv)
joined_all op (Known c) (Made x y) t w r p q other hu hv is may = made_all op (Known c) (Made x y) t w r p q hu hv is may
joined_all op (Made x y) (Known d) t w r p q other hu hv is may = made_all op (Made x y) (Known d) t w r p q hu hv is may
joined_all op (Made x y) (Made z a) t w r p q other hu hv is may = made_all op (Made x y) (Made z a) t w r p q hu hv is may

left_nil_all : (op : BinaryOp) (d : Direction) (t : Ty) (q : Expr) → is_comparison op ≡ true → binary_value op NilValue (Made (ChanType d t) q) ≡ Some (Made BoolType (Binary op (Literally Nil) q))
unfolding binary_value
left_nil_all op d t q may = if_true (is_comparison op) (Made BoolType (Binary op (Literally Nil) q)) may

right_nil_all : (op : BinaryOp) (d : Direction) (t : Ty) (p : Expr) → is_comparison op ≡ true → binary_value op (Made (ChanType d t) p) NilValue ≡ Some (Made BoolType (Binary op p (Literally Nil)))
unfolding binary_value
right_nil_all op d t p may = if_true (is_comparison op) (Made BoolType (Binary op p (Literally Nil))) may

two : (op : BinaryOp) (a b : Option Value) (u v r : Value) → a ≡ Some u → b ≡ Some v → binary_value op u v ≡ Some r → (a >>= λ u. b >>= λ v. binary_value op u v) ≡ Some r
two op a b u v r ea eb e = then_some a u (λ u. b >>= λ v. binary_value op u v) ea ∙ then_some b v (λ v. binary_value op u v) eb ∙ e

-- calls
arguments_call : (arguments : List Ty → Option Exprs) (k : ℕ) (y : List ℕ) (parameters : List Ty) (result : Option Ty) (ps : Exprs) → arguments parameters ≡ Some ps → call_of arguments k (Some (Sign y parameters result)) ≡ Some (result, Call k ps)
arguments_call arguments k y parameters result ps e = then_some (arguments parameters) ps (λ ps. Some (result, Call k ps)) e

call_all : (fs : List Signature) (s : Scope) (x y : List ℕ) (arguments : List Ty → Option Exprs) (k : ℕ) (parameters : List Ty) (result : Option Ty) (ps : Exprs) → variable_named s x ≡ None → function_in fs x ≡ Some k → signature fs k ≡ Some (Sign y parameters result) → arguments parameters ≡ Some ps → call_in fs s x arguments ≡ Some (result, Call k ps)
unfolding call_in
call_all fs s x y arguments k parameters result ps free is has e =
    ap (λ o. if_unknown o (called_function fs arguments (function_in fs x))) free
    ∙ ap (called_function fs arguments) is
    ∙ ap (call_of arguments k) has
    ∙ arguments_call arguments k y parameters result ps e

built_in_all : (fs : List Signature) (s : Scope) (x : List ℕ) (arguments : List Ty → Option Exprs) (only : Option Value) → IsPredeclared fs s x → called fs s x arguments only ≡ (only >>= measure x)
unfolding called
built_in_all fs s x arguments only h = ap (called_by fs s x arguments only) h.no_function ∙ ap (λ o. if_unknown o (only >>= measure x)) h.no_variable

named_call : (fs : List Signature) (s : Scope) (x : List ℕ) (arguments : List Ty → Option Exprs) (only : Option Value) (k : ℕ) (t : Ty) (p : Expr) → function_in fs x ≡ Some k → call_in fs s x arguments ≡ Some (Some t, p) → called fs s x arguments only ≡ Some (Made t p)
unfolding called
named_call fs s x arguments only k t p is e = ap (called_by fs s x arguments only) is ∙ then_some (call_in fs s x arguments) (Some t, p) call_value e

pub function_of_call : {fs : List Signature} {s : Scope} {x : List ℕ} {es : Trees} {r : Option Ty} {p : Expr} → IsCall fs s x es r p → (k : ℕ) × (function_in fs x ≡ Some k)
function_of_call (rules.calls {k = k} free is has are) = (k, is)

length_all : (v : Value) (x : List ℕ) (d : Direction) (t : Ty) (p : Expr) → x ≡ codes "len" → v ≡ Made (ChanType d t) p → measure x v ≡ Some (Made IntType (Len p))
length_all v x d t p is of = rw is (rw of refl)

capacity_all : (v : Value) (x : List ℕ) (d : Direction) (t : Ty) (p : Expr) → x ≡ codes "cap" → v ≡ Made (ChanType d t) p → measure x v ≡ Some (Made IntType (Cap p))
capacity_all v x d t p is of = rw is (rw of refl)

-- channels that are made
make_all : (w : WrittenType) (d : Direction) (t : Ty) (p : Expr) → type_written w ≡ Some (ChanType d t) → made_channel (type_written w) p ≡ Some (Made (ChanType d t) p)
make_all w d t p e = ap (λ o. made_channel o p) e

size_all : (v : Value) (p : Expr) → HasType v IntType p → may_be_size v ≡ true → size_of v ≡ Some p
size_all v p h may = ap (λ o. o >>= of_kind IntType) (if_true (may_be_size v) v may) ∙ int_complete h

mutual
  unfolding value_in

  pub value_complete : {fs : List Signature} {s : Scope} {e : Tree} {v : Value} → IsValue fs s e v → value_in fs s e ≡ Some v
  value_complete (rules.number {n = n} {c = c} is) = then_some (constant.number n) c (λ c. Some (Known c)) is
  value_complete {fs} {s} (rules.variable {x = x} {k = k} {t = t} is of) = variable_all fs s x k t is of
  value_complete {fs} {s} (rules.true_name {x = x} h is) = free_all fs s x h ∙ rw is refl
  value_complete {fs} {s} (rules.false_name {x = x} h is) = free_all fs s x h ∙ rw is refl
  value_complete {fs} {s} (rules.nil_name {x = x} h is) = free_all fs s x h ∙ rw is refl
  value_complete rules.unit = refl
  value_complete (rules.paren d) = value_complete d
  value_complete {fs} {s} (rules.unary_constant {op = op} {e = e} {c = c} {d = r} d is) = then_some (value_in fs s e) (Known c) (on_operand op) (value_complete d) ∙ operand_all op (Known c) (Known r) (constant_all op c r is)
  value_complete {fs} {s} (rules.unary_made {op = op} {e = e} {t = t} {u = u} {p = p} d is) = then_some (value_in fs s e) (Made t p) (on_operand op) (value_complete d) ∙ operand_all op (Made t p) (Made u (Unary op p)) (unary_all op t u p is)
  value_complete {fs} {s} (rules.receive {e = e} {d = d} {t = t} {p = p} h may) = then_some (value_in fs s e) (Made (ChanType d t) p) (on_operand unaries.Receive) (value_complete h) ∙ receive_all d t p may
  value_complete {fs} {s} (rules.binary_constant {op = op} {a = a} {b = b} {c = c} {d = d} {r = r} da db is) =
      two op (value_in fs s a) (value_in fs s b) (Known c) (Known d) (Known r) (value_complete da) (value_complete db) (constants_all op c d r is)
  value_complete {fs} {s} (rules.binary_made {op = op} {a = a} {b = b} {u = u} {v = v} {t = t} {w = w} {r = r} {p = p} {q = q} da db other hu hv is may) =
      two op (value_in fs s a) (value_in fs s b) u v (Made r (Binary op p q)) (value_complete da) (value_complete db) (joined_all op u v t w r p q other hu hv is may)
  value_complete {fs} {s} (rules.left_nil {op = op} {a = a} {b = b} {d = d} {t = t} {q = q} may da db) =
      two op (value_in fs s a) (value_in fs s b) NilValue (Made (ChanType d t) q) (Made BoolType (Binary op (Literally Nil) q)) (value_complete da) (value_complete db) (left_nil_all op d t q may)
  value_complete {fs} {s} (rules.right_nil {op = op} {a = a} {b = b} {d = d} {t = t} {p = p} may da db) =
      two op (value_in fs s a) (value_in fs s b) (Made (ChanType d t) p) NilValue (Made BoolType (Binary op p (Literally Nil))) (value_complete da) (value_complete db) (right_nil_all op d t p may)
  value_complete {fs} {s} (rules.length {x = x} {e = e} {d = d} {t = t} {p = p} h is de) =
      built_in_all fs s x (arguments_in fs s (tree.more e tree.none)) (value_in fs s e) h
      ∙ then_some (value_in fs s e) (Made (ChanType d t) p) (measure x) (value_complete de)
      ∙ length_all (Made (ChanType d t) p) x d t p is refl
  value_complete {fs} {s} (rules.capacity {x = x} {e = e} {d = d} {t = t} {p = p} h is de) =
      built_in_all fs s x (arguments_in fs s (tree.more e tree.none)) (value_in fs s e) h
      ∙ then_some (value_in fs s e) (Made (ChanType d t) p) (measure x) (value_complete de)
      ∙ capacity_all (Made (ChanType d t) p) x d t p is refl
  value_complete {fs} {s} (rules.call {x = x} {es = es} {t = t} {p = p} d) = let f = function_of_call d in named_call fs s x (arguments_in fs s es) (only_in fs s es) f.0 t p f.1 (call_complete d)
  value_complete (rules.make {w = w} {d = d} {t = t} is) = make_all w d t Make is
  value_complete {fs} {s} (rules.make_sized {w = w} {d = d} {t = t} {e = e} {v = v} {p = p} is de h may) =
      ap (λ o. o >>= size_of >>= λ p. made_channel (type_written w) (MakeSized p)) (value_complete de)
      ∙ then_some (size_of v) p (λ p. made_channel (type_written w) (MakeSized p)) (size_all v p h may)
      ∙ make_all w d t (MakeSized p) is

  pub call_complete : {fs : List Signature} {s : Scope} {x : List ℕ} {es : Trees} {r : Option Ty} {p : Expr} → IsCall fs s x es r p → call_in fs s x (arguments_in fs s es) ≡ Some (r, p)
  call_complete {fs} {s} (rules.calls {x = x} {y = y} {es = es} {k = k} {parameters = parameters} {result = result} {ps = ps} free is has are) =
      call_all fs s x y (arguments_in fs s es) k parameters result ps free is has (arguments_complete are)

  pub arguments_complete : {fs : List Signature} {s : Scope} {es : Trees} {ts : List Ty} {ps : Exprs} → AreArguments fs s es ts ps → arguments_in fs s es ts ≡ Some ps
  arguments_complete rules.no_argument = refl
  arguments_complete {fs} {s} (rules.argument {e = e} {es = es} {v = v} {t = t} {ts = ts} {p = p} {ps = ps} d fits rest) =
      ap (λ o. o >>= given t >>= λ p. arguments_in fs s es ts >>= λ ps. Some (more p ps)) (value_complete d)
      ∙ then_some (given t v) p (λ p. arguments_in fs s es ts >>= λ ps. Some (more p ps)) (given_complete fits)
      ∙ then_some (arguments_in fs s es ts) ps (λ ps. Some (more p ps)) (arguments_complete rest)
