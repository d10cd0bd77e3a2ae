-- What the checker finds of an expression is what the judgement says, and all of it.
use Rattle.std.proofs.lemmas.Bool.{cases_Bool}
use Rattle.std.proofs.Common.{◌≡◌, ℕ, Bool, true, false, List, [], ◌∷◌, refl, ap, sym, ◌∙◌, subst, true≢false, inl, inr, cond}
use Rattle.std.specs.Prelude.{ℤ, Option, Some, None, codes}
use Rattle.std.specs.Cmp.Lexicographic.{same_text}
use Rattle.gr_tree.specs.declared.expr.Direction.{Direction}
use Rattle.gr_tree.specs.declared.expr.UnaryOp.{UnaryOp}
use Rattle.gr_tree.specs.declared.expr.UnaryOp.TheVariants as unaries
use Rattle.gr_tree.specs.declared.expr.BinaryOp.{BinaryOp}
use Rattle.gr_tree.specs.Exprs as tree
use Rattle.gr_tree.specs.Exprs.{WrittenType, Tree, Trees}
use Rattle.gr_const.specs.declared.constant.Constant.{Constant}
use Rattle.gr_const.specs.declared.constant.Constant.TheVariants as constants
use Rattle.gr_const.specs.Constants as constant
use Rattle.gr_program.specs.Types.{Ty, IntType, BoolType, UnitType, ChanType}
use Rattle.gr_typing.specs.Types.{type_written, assignable, may_receive}
use Rattle.gr_program.specs.Programs.{Number, Nil, zero_of, Expr, Literally, Variable, Unary, Binary, Receive, Call, Len, Cap, Make, MakeSized, Exprs, more}
use Rattle.gr_typing.specs.Scopes.{Scope, variable_named, type_of_variable, Signature, Sign, function_in, signature}
use Rattle.gr_typing.specs.Values as rules
use Rattle.gr_typing.specs.Values.{Value, Known, NilValue, Made, HasType, Fits, unary_type, binary_type, is_comparison, may_stand_right, may_be_size, both_known, IsPredeclared, IsValue, IsCall, AreArguments}
use Rattle.gr_exprs.specs.Finding.{◌>>=◌, where_true, has_text, Typed, int_typed, typed_constant, typed, given_typed, given, if_same, of_kind, as_channel, named_constant, if_unknown, name_by, name_value, unary_value, received, receive_value, on_operand, nil_compared, binary_typed, binary_made, binary_value, made_channel, size_of, measured, measure, result_value, call_of, called_function, call_in, call_value, called_by, called, value_in, arguments_in, only_in}

-- looking at what is there
pub some_inj : {A : Type 0} {x y : A} → Some x ≡ Some y → x ≡ y
some_inj e = cc

pub none_some : {A Z : Type 0} {x : A} → None ≡ Some x → Z
none_some e = absurd (cc)

pub on_some : {A B P : Type 0} (o : Option A) (f : A → Option B) (y : B) → (o >>= f) ≡ Some y → ((x : A) → o ≡ Some x → f x ≡ Some y → P) → P
on_some (Some x) f y e k = k x refl e
on_some None f y e k = absurd (cc)

pub on_true : {A P : Type 0} (b : Bool) (x y : A) → where_true b x ≡ Some y → (b ≡ true → x ≡ y → P) → P
on_true true x y e k = k refl (some_inj e)
on_true false x y e k = absurd (cc)

pub if_true : {A : Type 0} (b : Bool) (x : A) → b ≡ true → where_true b x ≡ Some x
if_true true x e = refl
if_true false x e = absurd (true≢false (sym e))

pub then_some : {A B : Type 0} (o : Option A) (x : A) (f : A → Option B) → o ≡ Some x → (o >>= f) ≡ f x
then_some o x f e = ap (λ o. o >>= f) e

-- values of their own type
pub typed_sound : (v : Value) (w : Typed) → typed v ≡ Some w → HasType v w.0 w.1
unfolding typed
typed_sound (Known (constants.Whole n)) w e = on_some (constant.whole (constants.Whole n)) (λ m. Some (int_typed m)) w e
    (λ m is e. subst (λ w. HasType (Known (constants.Whole n)) w.0 w.1) (some_inj e) (rules.has_int is))
typed_sound (Known (constants.Truth b)) w e = subst (λ w. HasType (Known (constants.Truth b)) w.0 w.1) (some_inj e) rules.has_truth
typed_sound NilValue w e = none_some e
typed_sound (Made t p) w e = subst (λ w. HasType (Made t p) w.0 w.1) (some_inj e) rules.has_made

whole_number : (c : Constant) (n : ℤ) → constant.whole c ≡ Some n → typed_constant c ≡ Some (IntType, Literally (Number n))
whole_number (constants.Whole m) n e = then_some (constant.whole (constants.Whole m)) n (λ m. Some (int_typed m)) e
whole_number (constants.Truth b) n e = none_some e

pub typed_complete : {v : Value} {t : Ty} {p : Expr} → HasType v t p → typed v ≡ Some (t, p)
unfolding typed
typed_complete (rules.has_int {c = c} {n = n} is) = whole_number c n is
typed_complete rules.has_truth = refl
typed_complete rules.has_made = refl

-- values given to a place
given_by_type : (v : Value) (u : Ty) (p : Expr) → (typed v >>= given_typed u) ≡ Some p → Fits v u p
given_by_type v u p e = on_some (typed v) (given_typed u) p e (λ w is e. on_true (assignable w.0 u) w.1 p e
    (λ may same. rules.of_type (subst (λ p. HasType v w.0 p) same (typed_sound v w is)) may))

pub given_sound : (u : Ty) (v : Value) (p : Expr) → given u v ≡ Some p → Fits v u p
unfolding given
given_sound (ChanType d t) NilValue p e = subst (λ p. Fits NilValue (ChanType d t) p) (some_inj e) rules.nil_channel
given_sound IntType NilValue p e = none_some e
given_sound BoolType NilValue p e = none_some e
given_sound UnitType NilValue p e = none_some e
given_sound u (Known c) p e = given_by_type (Known c) u p e
given_sound u (Made t q) p e = given_by_type (Made t q) u p e

typed_given : (v : Value) (t u : Ty) (p : Expr) → HasType v t p → assignable t u ≡ true → (typed v >>= given_typed u) ≡ Some p
typed_given v t u p h may = then_some (typed v) (t, p) (given_typed u) (typed_complete h) ∙ if_true (assignable t u) p may

pub given_complete : {v : Value} {u : Ty} {p : Expr} → Fits v u p → given u v ≡ Some p
unfolding given typed
given_complete (rules.of_type {v = Known c} {t = t} {u = u} {p = p} h may) = typed_given (Known c) t u p h may
given_complete (rules.of_type {v = Made w q} {t = t} {u = u} {p = p} h may) = typed_given (Made w q) t u p h may
given_complete (rules.of_type {v = NilValue} h may) = none_some (typed_complete h)
given_complete rules.nil_channel = refl

-- kinds
int_case : (v : Value) (w : Typed) (p : Expr) → typed v ≡ Some w → if_same IntType w.0 w.1 ≡ Some p → HasType v IntType p
int_case v (IntType, q) p is e = subst (λ p. HasType v IntType p) (some_inj e) (typed_sound v (IntType, q) is)
int_case v (BoolType, q) p is e = none_some e
int_case v (UnitType, q) p is e = none_some e
int_case v (ChanType d t, q) p is e = none_some e

pub int_sound : (v : Value) (p : Expr) → of_kind IntType v ≡ Some p → HasType v IntType p
int_sound v p e = on_some (typed v) (λ w. if_same IntType w.0 w.1) p e (λ w is e. int_case v w p is e)

truth_case : (v : Value) (w : Typed) (p : Expr) → typed v ≡ Some w → if_same BoolType w.0 w.1 ≡ Some p → HasType v BoolType p
truth_case v (BoolType, q) p is e = subst (λ p. HasType v BoolType p) (some_inj e) (typed_sound v (BoolType, q) is)
truth_case v (IntType, q) p is e = none_some e
truth_case v (UnitType, q) p is e = none_some e
truth_case v (ChanType d t, q) p is e = none_some e

pub truth_sound : (v : Value) (p : Expr) → of_kind BoolType v ≡ Some p → HasType v BoolType p
truth_sound v p e = on_some (typed v) (λ w. if_same BoolType w.0 w.1) p e (λ w is e. truth_case v w p is e)

pub int_complete : {v : Value} {p : Expr} → HasType v IntType p → of_kind IntType v ≡ Some p
int_complete {v} {p} h = then_some (typed v) (IntType, p) (λ w. if_same IntType w.0 w.1) (typed_complete h)

pub truth_complete : {v : Value} {p : Expr} → HasType v BoolType p → of_kind BoolType v ≡ Some p
truth_complete {v} {p} h = then_some (typed v) (BoolType, p) (λ w. if_same BoolType w.0 w.1) (typed_complete h)

-- channels
pub channel_is : (v : Value) (c : Direction × (Ty × Expr)) → as_channel v ≡ Some c → v ≡ Made (ChanType c.0 c.1.0) c.1.1
channel_is (Made (ChanType d t) p) c e = ap (λ c. Made (ChanType c.0 c.1.0) c.1.1) (some_inj e)
channel_is (Made IntType p) c e = none_some e
channel_is (Made BoolType p) c e = none_some e
channel_is (Made UnitType p) c e = none_some e
channel_is (Known k) c e = none_some e
channel_is NilValue c e = none_some e

-- what is found is what the judgement says
abbrev pub Finds : List Signature → Scope → Tree → Type 0
Finds fs s e = (v : Value) → value_in fs s e ≡ Some v → IsValue fs s e v

-- a test of a name
pub on_text : {A P : Type 0} (x y : List ℕ) (a b : A) (z : A) → cond (has_text x y) a b ≡ z → (x ≡ y → a ≡ z → P) → (has_text x y ≡ false → b ≡ z → P) → P
on_text x y a b z e k n = elim (cases_Bool (has_text x y)) [
  | inl t ↦ k (same_text x y (sym t)) (rw t at e)
  | inr f ↦ n f (rw f at e)
]

free_name : (fs : List Signature) (s : Scope) (x : List ℕ) → variable_named s x ≡ None → (o : Option ℕ) → function_in fs x ≡ o → (v : Value) → if_unknown o (named_constant x) ≡ Some v → IsValue fs s (tree.Name x) v
free_name fs s x free (Some k) is v e = none_some e
free_name fs s x free None is v e =
    let h : IsPredeclared fs s x = record { no_variable = free; no_function = is } in
    on_text x (codes "true") _ _ (Some v) e (λ t e. subst (λ v. IsValue fs s (tree.Name x) v) (some_inj e) (rules.true_name h t))
    (λ f e. on_text x (codes "false") _ _ (Some v) e (λ t e. subst (λ v. IsValue fs s (tree.Name x) v) (some_inj e) (rules.false_name h t))
    (λ f e. on_text x (codes "nil") _ _ (Some v) e (λ t e. subst (λ v. IsValue fs s (tree.Name x) v) (some_inj e) (rules.nil_name h t))
    (λ f e. none_some e)))

name_found : (fs : List Signature) (s : Scope) (x : List ℕ) (o : Option ℕ) → variable_named s x ≡ o → (v : Value) → name_by fs s x o ≡ Some v → IsValue fs s (tree.Name x) v
name_found fs s x (Some k) is v e = on_some (type_of_variable s k) (λ t. Some (Made t (Variable k))) v e
    (λ t of e. subst (λ v. IsValue fs s (tree.Name x) v) (some_inj e) (rules.variable is of))
name_found fs s x None is v e = free_name fs s x is (function_in fs x) refl v e

name_sound : (fs : List Signature) (s : Scope) (x : List ℕ) (v : Value) → name_value fs s x ≡ Some v → IsValue fs s (tree.Name x) v
unfolding name_value
name_sound fs s x v e = name_found fs s x (variable_named s x) refl v e

unary_sound : (fs : List Signature) (s : Scope) (op : UnaryOp) (e : Tree) (u v : Value) → IsValue fs s e u → unary_value op u ≡ Some v → IsValue fs s (tree.Unary op e) v
unfolding unary_value
unary_sound fs s op e (Known c) v d q = on_some (constant.unary op c) (λ d. Some (Known d)) v q
    (λ r is q. subst (λ v. IsValue fs s (tree.Unary op e) v) (some_inj q) (rules.unary_constant d is))
unary_sound fs s op e NilValue v d q = none_some q
unary_sound fs s op e (Made t p) v d q = on_some (unary_type op t) (λ u. Some (Made u (Unary op p))) v q
    (λ u is q. subst (λ v. IsValue fs s (tree.Unary op e) v) (some_inj q) (rules.unary_made d is))

receive_sound : (fs : List Signature) (s : Scope) (e : Tree) (u v : Value) → IsValue fs s e u → receive_value u ≡ Some v → IsValue fs s (tree.Unary unaries.Receive e) v
unfolding receive_value
receive_sound fs s e u v d q = on_some (as_channel u) received v q (λ c is q.
    on_true (may_receive c.0) (Made c.1.0 (Receive c.1.1 (zero_of c.1.0))) v q (λ may same.
    subst (λ v. IsValue fs s (tree.Unary unaries.Receive e) v) same (rules.receive (subst (λ u. IsValue fs s e u) (channel_is u c is) d) may)))

operand_sound : (fs : List Signature) (s : Scope) (op : UnaryOp) (e : Tree) (u v : Value) → IsValue fs s e u → on_operand op u ≡ Some v → IsValue fs s (tree.Unary op e) v
operand_sound fs s unaries.Receive e u v d q = receive_sound fs s e u v d q
operand_sound fs s unaries.Plus e u v d q = unary_sound fs s unaries.Plus e u v d q
operand_sound fs s unaries.Negate e u v d q = unary_sound fs s unaries.Negate e u v d q
operand_sound fs s unaries.Not e u v d q = unary_sound fs s unaries.Not e u v d q
operand_sound fs s unaries.Complement e u v d q = unary_sound fs s unaries.Complement e u v d q

abbrev IsJoined : List Signature → Scope → BinaryOp → Tree → Tree → Value → Type 0
IsJoined fs s op a b v = IsValue fs s (tree.Binary op a b) v

joined_sound : (fs : List Signature) (s : Scope) (op : BinaryOp) (a b : Tree) (u v r : Value) → both_known u v ≡ false → IsValue fs s a u → IsValue fs s b v → binary_made op u v ≡ Some r → IsJoined fs s op a b r
joined_sound fs s op a b u v r other da db q =
    on_some (typed u) (λ x. typed v >>= λ y. binary_typed op v x y) r q (λ x ix q.
    on_some (typed v) (λ y. binary_typed op v x y) r q (λ y iy q.
    on_some (binary_type op x.0 y.0) (λ t. where_true (may_stand_right op v) (Made t (Binary op x.1 y.1))) r q (λ t it q.
    on_true (may_stand_right op v) (Made t (Binary op x.1 y.1)) r q (λ may same.
    subst (λ r. IsJoined fs s op a b r) same (rules.binary_made da db other (typed_sound u x ix) (typed_sound v y iy) it may)))))

left_nil_sound : (fs : List Signature) (s : Scope) (op : BinaryOp) (a b : Tree) (v r : Value) → IsValue fs s a NilValue → IsValue fs s b v → (o : Option (Direction × (Ty × Expr))) → as_channel v ≡ o → nil_compared op o (λ q. Binary op (Literally Nil) q) ≡ Some r → IsJoined fs s op a b r
left_nil_sound fs s op a b v r da db None is q = none_some q
left_nil_sound fs s op a b v r da db (Some c) is q =
    on_true (is_comparison op) (Made BoolType (Binary op (Literally Nil) c.1.1)) r q (λ may same.
    subst (λ r. IsJoined fs s op a b r) same (rules.left_nil may da (subst (λ u. IsValue fs s b u) (channel_is v c is) db)))

right_nil_sound : (fs : List Signature) (s : Scope) (op : BinaryOp) (a b : Tree) (u r : Value) → IsValue fs s a u → IsValue fs s b NilValue → (o : Option (Direction × (Ty × Expr))) → as_channel u ≡ o → nil_compared op o (λ q. Binary op q (Literally Nil)) ≡ Some r → IsJoined fs s op a b r
right_nil_sound fs s op a b u r da db None is q = none_some q
right_nil_sound fs s op a b u r da db (Some c) is q =
    on_true (is_comparison op) (Made BoolType (Binary op c.1.1 (Literally Nil))) r q (λ may same.
    subst (λ r. IsJoined fs s op a b r) same (rules.right_nil may (subst (λ u. IsValue fs s a u) (channel_is u c is) da) db))

binary_sound : (fs : List Signature) (s : Scope) (op : BinaryOp) (a b : Tree) (u v r : Value) → IsValue fs s a u → IsValue fs s b v → binary_value op u v ≡ Some r → IsJoined fs s op a b r
unfolding binary_value
binary_sound fs s op a b (Known c) (Known d) r da db q = on_some (constant.binary op c d) (λ r. Some (Known r)) r q
    (λ k is q. subst (λ r. IsJoined fs s op a b r) (some_inj q) (rules.binary_constant da db is))
binary_sound fs s op a b NilValue v r da db q = left_nil_sound fs s op a b v r da db (as_channel v) refl q
binary_sound fs s op a b (Known c) NilValue r da db q = none_some q
binary_sound fs s op a b (Made t p) NilValue r da db q = right_nil_sound fs s op a b (Made t p) r da db (as_channel (Made t p)) refl q
binary_sound fs s op a b (Known c) (Made w p) r da db q = joined_sound fs s op a b (Known c) (Made w p) r refl da db q
binary_sound fs s op a b (Made t p) (Known d) r da db q = joined_sound fs s op a b (Made t p) (Known d) r refl da db q
binary_sound fs s op a b (Made t p) (Made w z) r da db q = joined_sound fs s op a b (Made t p) (Made w z) r refl da db q

-- channels that are made
made_is : (o : Option Ty) (p : Expr) (v : Value) → made_channel o p ≡ Some v → (d : Direction) × ((t : Ty) × ((o ≡ Some (ChanType d t)) × (Made (ChanType d t) p ≡ v)))
made_is (Some (ChanType d t)) p v e = (d, (t, (refl, some_inj e)))
made_is (Some IntType) p v e = none_some e
made_is (Some BoolType) p v e = none_some e
made_is (Some UnitType) p v e = none_some e
made_is None p v e = none_some e

make_sound : (fs : List Signature) (s : Scope) (w : WrittenType) (v : Value) → made_channel (type_written w) Make ≡ Some v → IsValue fs s (tree.Make w) v
make_sound fs s w v e = let m = made_is (type_written w) Make v e in subst (λ v. IsValue fs s (tree.Make w) v) m.1.1.1 (rules.make m.1.1.0)

sized_sound : (fs : List Signature) (s : Scope) (w : WrittenType) (e : Tree) (u v : Value) → IsValue fs s e u → (size_of u >>= λ p. made_channel (type_written w) (MakeSized p)) ≡ Some v → IsValue fs s (tree.MakeSized w e) v
sized_sound fs s w e u v d q =
    on_some (size_of u) (λ p. made_channel (type_written w) (MakeSized p)) v q (λ p is q.
    on_some (where_true (may_be_size u) u) (of_kind IntType) p is (λ x ix is.
    on_true (may_be_size u) u x ix (λ may same.
    let m = made_is (type_written w) (MakeSized p) v q in
    subst (λ v. IsValue fs s (tree.MakeSized w e) v) m.1.1.1 (rules.make_sized m.1.1.0 d (int_sound u p (ap (of_kind IntType) same ∙ is)) may))))

-- calls
unfoldable pub Arguments : List Signature → Scope → Trees → Type 0
Arguments fs s es = (ts : List Ty) (ps : Exprs) → arguments_in fs s es ts ≡ Some ps → AreArguments fs s es ts ps

unfoldable pub OnlyIs : List Signature → Scope → Trees → Type 0
OnlyIs fs s es = (v : Value) → only_in fs s es ≡ Some v → (e : Tree) × ((es ≡ tree.more e tree.none) × IsValue fs s e v)

pub unhidden : {A B P : Type 0} (o : Option A) (x : Option B) (y : B) → if_unknown o x ≡ Some y → (o ≡ None → x ≡ Some y → P) → P
unhidden None x y e k = k refl e
unhidden (Some a) x y e k = none_some e

signature_found : (fs : List Signature) (s : Scope) (x : List ℕ) (es : Trees) (k : ℕ) → Arguments fs s es → variable_named s x ≡ None → function_in fs x ≡ Some k → (o : Option Signature) → signature fs k ≡ o → (c : Option Ty × Expr) → call_of (arguments_in fs s es) k o ≡ Some c → IsCall fs s x es c.0 c.1
unfolding Arguments
signature_found fs s x es k ih free is None has c q = none_some q
signature_found fs s x es k ih free is (Some (Sign y parameters result)) has c q =
    on_some (arguments_in fs s es parameters) (λ ps. Some (result, Call k ps)) c q (λ ps are q.
    subst (λ c. IsCall fs s x es c.0 c.1) (some_inj q) (rules.calls free is has (ih parameters ps are)))

function_found : (fs : List Signature) (s : Scope) (x : List ℕ) (es : Trees) → Arguments fs s es → variable_named s x ≡ None → (o : Option ℕ) → function_in fs x ≡ o → (c : Option Ty × Expr) → called_function fs (arguments_in fs s es) o ≡ Some c → IsCall fs s x es c.0 c.1
function_found fs s x es ih free None is c q = none_some q
function_found fs s x es ih free (Some k) is c q = signature_found fs s x es k ih free is (signature fs k) refl c q

pub call_found : (fs : List Signature) (s : Scope) (x : List ℕ) (es : Trees) → Arguments fs s es → (c : Option Ty × Expr) → call_in fs s x (arguments_in fs s es) ≡ Some c → IsCall fs s x es c.0 c.1
unfolding call_in
call_found fs s x es ih c q = unhidden (variable_named s x) _ c q (λ free q. function_found fs s x es ih free (function_in fs x) refl c q)

result_is : (fs : List Signature) (s : Scope) (x : List ℕ) (es : Trees) (result : Option Ty) (p : Expr) (v : Value) → IsCall fs s x es result p → result_value result p ≡ Some v → IsValue fs s (tree.Call x es) v
result_is fs s x es (Some t) p v d q = subst (λ v. IsValue fs s (tree.Call x es) v) (some_inj q) (rules.call d)
result_is fs s x es None p v d q = none_some q

measured_is : (by : Expr → Expr) (u v : Value) → measured by u ≡ Some v → (c : Direction × (Ty × Expr)) × ((u ≡ Made (ChanType c.0 c.1.0) c.1.1) × (Made IntType (by c.1.1) ≡ v))
measured_is by u v q = on_some (as_channel u) (λ c. Some (Made IntType (by c.1.1))) v q (λ c is q. (c, (channel_is u c is, some_inj q)))

measure_sound : (fs : List Signature) (s : Scope) (x : List ℕ) (e : Tree) (u v : Value) → IsPredeclared fs s x → IsValue fs s e u → measure x u ≡ Some v → IsValue fs s (tree.Call x (tree.more e tree.none)) v
measure_sound fs s x e u v h d q =
    on_text x (codes "len") _ _ (Some v) q
    (λ t q. let m = measured_is Len u v q in subst (λ v. IsValue fs s (tree.Call x (tree.more e tree.none)) v) m.1.1 (rules.length h t (subst (λ u. IsValue fs s e u) m.1.0 d)))
    (λ f q. on_text x (codes "cap") _ _ (Some v) q
    (λ t q. let m = measured_is Cap u v q in subst (λ v. IsValue fs s (tree.Call x (tree.more e tree.none)) v) m.1.1 (rules.capacity h t (subst (λ u. IsValue fs s e u) m.1.0 d)))
    (λ f q. none_some q))

built_in_sound : (fs : List Signature) (s : Scope) (x : List ℕ) (es : Trees) (v : Value) → IsPredeclared fs s x → OnlyIs fs s es → (only_in fs s es >>= measure x) ≡ Some v → IsValue fs s (tree.Call x es) v
unfolding OnlyIs
built_in_sound fs s x es v h ih q = on_some (only_in fs s es) (measure x) v q (λ u is q.
    let o = ih u is in subst (λ es. IsValue fs s (tree.Call x es) v) (sym o.1.0) (measure_sound fs s x o.0 u v h o.1.1 q))

called_case : (fs : List Signature) (s : Scope) (x : List ℕ) (es : Trees) (v : Value) → Arguments fs s es → OnlyIs fs s es → (o : Option ℕ) → function_in fs x ≡ o → called_by fs s x (arguments_in fs s es) (only_in fs s es) o ≡ Some v → IsValue fs s (tree.Call x es) v
called_case fs s x es v ih one (Some k) is q = on_some (call_in fs s x (arguments_in fs s es)) call_value v q (λ c ic q. result_is fs s x es c.0 c.1 v (call_found fs s x es ih c ic) q)
called_case fs s x es v ih one None is q = unhidden (variable_named s x) _ v q (λ free q. built_in_sound fs s x es v (record { no_variable = free; no_function = is }) one q)

called_sound : (fs : List Signature) (s : Scope) (x : List ℕ) (es : Trees) (v : Value) → Arguments fs s es → OnlyIs fs s es → called fs s x (arguments_in fs s es) (only_in fs s es) ≡ Some v → IsValue fs s (tree.Call x es) v
unfolding called
called_sound fs s x es v ih one q = called_case fs s x es v ih one (function_in fs x) refl q

mutual
  unfolding value_in Arguments OnlyIs

  pub value_sound : (fs : List Signature) (s : Scope) (e : Tree) → Finds fs s e
  value_sound fs s (tree.Number n) v q = on_some (constant.number n) (λ c. Some (Known c)) v q (λ c is q. subst (λ v. IsValue fs s (tree.Number n) v) (some_inj q) (rules.number is))
  value_sound fs s (tree.Text bytes) v q = none_some q
  value_sound fs s (tree.Name x) v q = name_sound fs s x v q
  value_sound fs s tree.UnitValue v q = subst (λ v. IsValue fs s tree.UnitValue v) (some_inj q) rules.unit
  value_sound fs s (tree.Paren e) v q = rules.paren (value_sound fs s e v q)
  value_sound fs s (tree.Call x es) v q = called_sound fs s x es v (arguments_sound fs s es) (only_sound fs s es) q
  value_sound fs s (tree.Make w) v q = make_sound fs s w v q
  value_sound fs s (tree.MakeSized w e) v q =
      on_some (value_in fs s e >>= size_of) (λ p. made_channel (type_written w) (MakeSized p)) v q (λ p ip q.
      on_some (value_in fs s e) size_of p ip (λ u iu ip.
      sized_sound fs s w e u v (value_sound fs s e u iu) (then_some (size_of u) p (λ p. made_channel (type_written w) (MakeSized p)) ip ∙ q)))
  value_sound fs s (tree.Unary op e) v q = on_some (value_in fs s e) (on_operand op) v q (λ u iu q. operand_sound fs s op e u v (value_sound fs s e u iu) q)
  value_sound fs s (tree.Binary op a b) v q =
      on_some (value_in fs s a) (λ u. value_in fs s b >>= λ w. binary_value op u w) v q (λ u iu q.
      on_some (value_in fs s b) (λ w. binary_value op u w) v q (λ w iw q.
      binary_sound fs s op a b u w v (value_sound fs s a u iu) (value_sound fs s b w iw) q))

  pub arguments_sound : (fs : List Signature) (s : Scope) (es : Trees) → Arguments fs s es
  arguments_sound fs s tree.none [] ps q = subst (λ ps. AreArguments fs s tree.none [] ps) (some_inj q) rules.no_argument
  arguments_sound fs s tree.none (t ∷ ts) ps q = none_some q
  arguments_sound fs s (tree.more e es) [] ps q = none_some q
  arguments_sound fs s (tree.more e es) (t ∷ ts) ps q =
      on_some (value_in fs s e >>= given t) (λ p. arguments_in fs s es ts >>= λ ps. Some (more p ps)) ps q (λ p ip q.
      on_some (value_in fs s e) (given t) p ip (λ u iu ip.
      on_some (arguments_in fs s es ts) (λ ps. Some (more p ps)) ps q (λ rest are q.
      subst (λ ps. AreArguments fs s (tree.more e es) (t ∷ ts) ps) (some_inj q) (rules.argument (value_sound fs s e u iu) (given_sound t u p ip) (arguments_sound fs s es ts rest are)))))

  pub only_sound : (fs : List Signature) (s : Scope) (es : Trees) → OnlyIs fs s es
  only_sound fs s tree.none v q = none_some q
  only_sound fs s (tree.more e tree.none) v q = (e, (refl, value_sound fs s e v q))
  only_sound fs s (tree.more e (tree.more f es)) v q = none_some q
