-- What the checker finds of a simple statement is what the judgement says.
use Rattle.std.proofs.Common.{◌≡◌, ℕ, Bool, true, false, List, [], ◌∷◌, refl, ap, sym, ◌∙◌, subst, cond}
use Rattle.std.specs.Prelude.{Option, Some, None, codes}
use Rattle.gr_tree.specs.declared.expr.UnaryOp.{UnaryOp}
use Rattle.gr_tree.specs.declared.expr.UnaryOp.TheVariants as unaries
use Rattle.gr_tree.specs.declared.expr.BinaryOp.{BinaryOp}
use Rattle.gr_tree.specs.declared.expr.BinaryOp.TheVariants as binaries
use Rattle.gr_tree.specs.Exprs as tree
use Rattle.gr_tree.specs.Exprs.{WrittenType, Tree, Trees}
use Rattle.gr_tree.specs.Statements as statements
use Rattle.gr_tree.specs.Statements.{Simple}
use Rattle.gr_program.specs.Types.{Ty, IntType, BoolType, UnitType, ChanType}
use Rattle.gr_typing.specs.Types.{assignable, may_send, may_receive}
use Rattle.gr_program.specs.Programs.{zero_of, Expr, Receive, Exprs, Printed, Act, AssignReceive, Update, Eval, Close, Print, Send}
use Rattle.gr_typing.specs.Names.{is_blank}
use Rattle.gr_typing.specs.Scopes.{Scope, variable_named, type_of_variable, is_here, declare, declared, number_of, Signature, function_in}
use Rattle.gr_typing.specs.Values.{Value, Made, HasType, Fits, binary_type, may_stand_right, IsPredeclared, IsValue}
use Rattle.gr_exprs.specs.Finding.{◌>>=◌, where_true, Typed, typed, given, of_kind, as_channel, call_in, value_in, arguments_in, only_in}
use Rattle.gr_typing.specs.Assignments as assigning
use Rattle.gr_typing.specs.Communications as communicating
use Rattle.gr_typing.specs.SimpleStatements as simple_rules
use Rattle.gr_typing.specs.Assignments.{HasVariable, IsGiven, AreGiven, IsDefined, AreDefined, IsDeclaredAs, AreDeclared, Takes, TakesNew, may_define}
use Rattle.gr_typing.specs.Communications.{IsReceive, IsSend}
use Rattle.gr_typing.specs.SimpleStatements.{ArePrinted, Runs, DoesSimple}
use Rattle.gr_types.specs.FindingStatements.{Known, variable_in, Given, to_variable, to_blank, given_to, with_given, all_given, Defined, newly, in_scope, defined_by, with_defined, all_defined, declared_as, all_declared_as, receives, receive_in, taken_by, takes, takes_new, as_text, printable, printed_by, printed_in, closes, run_built_in, run_by, run_call, evaluated, runs_in, sent_on, send_in, Done, pair_of, assigned, assign_both, assign_by, define_both, define_by, if_int, number_variable, updated_by, updated, by_one, simple_in}
use Rattle.gr_exprs.proofs.Finds.{some_inj, none_some, on_some, on_true, on_text, unhidden, typed_sound, given_sound, int_sound, channel_is, value_sound, arguments_sound, only_sound, OnlyIs, call_found}

pub on_cond : {A P : Type 0} (b : Bool) (x y : Option A) (z : A) → cond b x y ≡ Some z → (b ≡ true → x ≡ Some z → P) → (b ≡ false → y ≡ Some z → P) → P
on_cond true x y z e k n = k refl e
on_cond false x y z e k n = n refl e

-- names
pub variable_sound : (s : Scope) (x : List ℕ) (v : Known) → variable_in s x ≡ Some v → HasVariable s x v.0 v.1
unfolding variable_in
variable_sound s x v q = on_cond (is_blank x) None _ v q (λ b q. none_some q)
    (λ b q. on_some (variable_named s x) (λ k. type_of_variable s k >>= λ t. Some (k, t)) v q (λ k is q.
    on_some (type_of_variable s k) (λ t. Some (k, t)) v q (λ t of q.
    subst (λ v. HasVariable s x v.0 v.1) (some_inj q) (assigning.has b is of))))

to_variable_sound : (s : Scope) (x : List ℕ) (v : Value) (g : Given) → is_blank x ≡ false → (variable_in s x >>= to_variable v) ≡ Some g → IsGiven s x v g.0 g.1
to_variable_sound s x v g b q = on_some (variable_in s x) (to_variable v) g q (λ k ik q.
    on_some (given k.1 v) (λ p. Some (Some k.0, p)) g q (λ p ip q.
    subst (λ g. IsGiven s x v g.0 g.1) (some_inj q) (assigning.to_variable (variable_sound s x k ik) (given_sound k.1 v p ip))))

pub given_to_sound : (s : Scope) (x : List ℕ) (v : Value) (g : Given) → given_to s x v ≡ Some g → IsGiven s x v g.0 g.1
unfolding given_to
given_to_sound s x v g q = on_cond (is_blank x) (to_blank v) _ g q
    (λ b q. on_some (typed v) (λ w. Some (None, w.1)) g q (λ w iw q. subst (λ g. IsGiven s x v g.0 g.1) (some_inj q) (assigning.to_blank b (typed_sound v w iw))))
    (λ b q. to_variable_sound s x v g b q)

pub all_given_sound : (fs : List Signature) (s : Scope) (xs : List (List ℕ)) (es : Trees) (g : List (Option ℕ) × Exprs) → all_given fs s xs es ≡ Some g → AreGiven fs s xs es g.0 g.1
unfolding all_given
all_given_sound fs s [] tree.none g q = subst (λ g. AreGiven fs s [] tree.none g.0 g.1) (some_inj q) assigning.no_given
all_given_sound fs s [] (tree.more e es) g q = none_some q
all_given_sound fs s (x ∷ xs) tree.none g q = none_some q
all_given_sound fs s (x ∷ xs) (tree.more e es) g q =
    on_some (value_in fs s e >>= given_to s x) (λ h. all_given fs s xs es >>= λ rest. Some (with_given h rest)) g q (λ h ih q.
    on_some (value_in fs s e) (given_to s x) h ih (λ v iv ih.
    on_some (all_given fs s xs es) (λ rest. Some (with_given h rest)) g q (λ rest are q.
    subst (λ g. AreGiven fs s (x ∷ xs) (tree.more e es) g.0 g.1) (some_inj q) (assigning.given (value_sound fs s e v iv) (given_to_sound s x v h ih) (all_given_sound fs s xs es rest are)))))

abbrev IsDef : Scope → List ℕ → Value → Scope → Defined → Type 0
IsDef s x v m d = IsDefined s x v m d.0.0 d.0.1 d.1

blank_def : (s : Scope) (x : List ℕ) (v : Value) (m : Scope) (d : Defined) → is_blank x ≡ true → (to_blank v >>= in_scope m) ≡ Some d → IsDef s x v m d
blank_def s x v m d b q = on_some (to_blank v) (in_scope m) d q (λ g ig q.
    on_some (typed v) (λ w. Some (None, w.1)) g ig (λ w iw ig.
    let same : (None, w.1) ≡ g = some_inj ig in
    subst (λ d. IsDef s x v m d) (some_inj q) (subst (λ g. IsDef s x v m (g, m)) same (assigning.blank b (typed_sound v w iw)))))

old_def : (s : Scope) (x : List ℕ) (v : Value) (m : Scope) (d : Defined) → is_here s x ≡ true → (variable_in s x >>= to_variable v >>= in_scope m) ≡ Some d → IsDef s x v m d
old_def s x v m d here q = on_some (variable_in s x >>= to_variable v) (in_scope m) d q (λ g ig q.
    on_some (variable_in s x) (to_variable v) g ig (λ k ik ig.
    on_some (given k.1 v) (λ p. Some (Some k.0, p)) g ig (λ p ip ig.
    let same : (Some k.0, p) ≡ g = some_inj ig in
    subst (λ d. IsDef s x v m d) (some_inj q) (subst (λ g. IsDef s x v m (g, m)) same (assigning.old here (variable_sound s x k ik) (given_sound k.1 v p ip))))))

new_def : (s : Scope) (x : List ℕ) (v : Value) (m : Scope) (d : Defined) → is_blank x ≡ false → is_here s x ≡ false → (typed v >>= newly x m) ≡ Some d → IsDef s x v m d
new_def s x v m d b here q = on_some (typed v) (newly x m) d q (λ w iw q.
    on_some (variable_named (declare m x w.0) x) (λ k. Some ((Some k, w.1), declare m x w.0)) d q (λ k ik q.
    subst (λ d. IsDef s x v m d) (some_inj q) (assigning.new b here (typed_sound v w iw) ik)))

pub defined_sound : (s : Scope) (x : List ℕ) (v : Value) (m : Scope) (d : Defined) → defined_by s x v m ≡ Some d → IsDefined s x v m d.0.0 d.0.1 d.1
unfolding defined_by
defined_sound s x v m d q = on_cond (is_blank x) _ _ d q
    (λ b q. blank_def s x v m d b q)
    (λ b q. on_cond (is_here s x) _ _ d q (λ here q. old_def s x v m d here q) (λ here q. new_def s x v m d b here q))

pub all_defined_sound : (fs : List Signature) (s : Scope) (xs : List (List ℕ)) (es : Trees) (m : Scope) (g : (List (Option ℕ) × Exprs) × Scope) → all_defined fs s xs es m ≡ Some g → AreDefined fs s xs es m g.0.0 g.0.1 g.1
unfolding all_defined
all_defined_sound fs s [] tree.none m g q = subst (λ g. AreDefined fs s [] tree.none m g.0.0 g.0.1 g.1) (some_inj q) assigning.no_defined
all_defined_sound fs s [] (tree.more e es) m g q = none_some q
all_defined_sound fs s (x ∷ xs) tree.none m g q = none_some q
all_defined_sound fs s (x ∷ xs) (tree.more e es) m g q =
    on_some (value_in fs s e) (λ v. defined_by s x v m >>= λ d. all_defined fs s xs es d.1 >>= λ rest. Some (with_defined d.0 rest)) g q (λ v iv q.
    on_some (defined_by s x v m) (λ d. all_defined fs s xs es d.1 >>= λ rest. Some (with_defined d.0 rest)) g q (λ d id q.
    on_some (all_defined fs s xs es d.1) (λ rest. Some (with_defined d.0 rest)) g q (λ rest are q.
    subst (λ g. AreDefined fs s (x ∷ xs) (tree.more e es) m g.0.0 g.0.1 g.1) (some_inj q) (assigning.defined (value_sound fs s e v iv) (defined_sound s x v m d id) (all_defined_sound fs s xs es d.1 rest are)))))

written_case : (t : Ty) (v : Value) (p : Expr) (w : Typed) → Fits v t p → (t, p) ≡ w → IsDeclaredAs (Some t) v w.0 w.1
written_case t v p w fits same = subst (λ w. IsDeclaredAs (Some t) v w.0 w.1) same (assigning.written fits)

pub declared_as_sound : (t : Option Ty) (v : Value) (w : Typed) → declared_as t v ≡ Some w → IsDeclaredAs t v w.0 w.1
unfolding declared_as
declared_as_sound (Some t) v w q = on_some (given t v) (λ p. Some (t, p)) w q (λ p ip q. let same : (t, p) ≡ w = some_inj q in written_case t v p w (given_sound t v p ip) same)
declared_as_sound None v w q = assigning.inferred (typed_sound v w q)

pub all_declared_sound : (fs : List Signature) (s : Scope) (t : Option Ty) (xs : List (List ℕ)) (es : Trees) (m : Scope) (g : (List (Option ℕ) × Exprs) × Scope) → all_declared_as fs s t xs es m ≡ Some g → AreDeclared fs s t xs es m g.0.0 g.0.1 g.1
unfolding all_declared_as
all_declared_sound fs s t [] tree.none m g q = subst (λ g. AreDeclared fs s t [] tree.none m g.0.0 g.0.1 g.1) (some_inj q) assigning.no_declared
all_declared_sound fs s t [] (tree.more e es) m g q = none_some q
all_declared_sound fs s t (x ∷ xs) tree.none m g q = none_some q
all_declared_sound fs s t (x ∷ xs) (tree.more e es) m g q =
    on_some (value_in fs s e >>= declared_as t) (λ w. all_declared_as fs s t xs es (declared m x w.0) >>= λ rest. Some (with_defined (number_of (declared m x w.0) x, w.1) rest)) g q (λ w iw q.
    on_some (value_in fs s e) (declared_as t) w iw (λ v iv iw.
    on_some (all_declared_as fs s t xs es (declared m x w.0)) (λ rest. Some (with_defined (number_of (declared m x w.0) x, w.1) rest)) g q (λ rest are q.
    subst (λ g. AreDeclared fs s t (x ∷ xs) (tree.more e es) m g.0.0 g.0.1 g.1) (some_inj q) (assigning.one_declared (value_sound fs s e v iv) (declared_as_sound t v w iw) (all_declared_sound fs s t xs es (declared m x w.0) rest are)))))

-- receives
receives_sound : (fs : List Signature) (s : Scope) (e : Tree) (w : Typed) → (value_in fs s e >>= as_channel >>= receives) ≡ Some w → IsReceive fs s (tree.Unary unaries.Receive e) w.0 w.1
receives_sound fs s e w q = on_some (value_in fs s e >>= as_channel) receives w q (λ c ic q.
    on_some (value_in fs s e) as_channel c ic (λ v iv ic.
    on_true (may_receive c.0) c.1 w q (λ may same.
    subst (λ w. IsReceive fs s (tree.Unary unaries.Receive e) w.0 w.1) same (communicating.receive (subst (λ v. IsValue fs s e v) (channel_is v c ic) (value_sound fs s e v iv)) may))))

pub receive_found : (fs : List Signature) (s : Scope) (e : Tree) (w : Typed) → receive_in fs s e ≡ Some w → IsReceive fs s e w.0 w.1
unfolding receive_in
receive_found fs s (tree.Unary unaries.Receive e) w q = receives_sound fs s e w q
receive_found fs s (tree.Unary unaries.Plus e) w q = none_some q
receive_found fs s (tree.Unary unaries.Negate e) w q = none_some q
receive_found fs s (tree.Unary unaries.Not e) w q = none_some q
receive_found fs s (tree.Unary unaries.Complement e) w q = none_some q
receive_found fs s (tree.Paren e) w q = communicating.receive_paren (receive_found fs s e w q)
receive_found fs s (tree.Number n) w q = none_some q
receive_found fs s (tree.Text bytes) w q = none_some q
receive_found fs s (tree.Name x) w q = none_some q
receive_found fs s tree.UnitValue w q = none_some q
receive_found fs s (tree.Call x es) w q = none_some q
receive_found fs s (tree.Make t) w q = none_some q
receive_found fs s (tree.MakeSized t e) w q = none_some q
receive_found fs s (tree.Binary op a b) w q = none_some q

-- names that take a value
taken_sound : (s : Scope) (x : List ℕ) (t : Ty) (k : Option ℕ) → (variable_in s x >>= taken_by t) ≡ Some k → (j : Known) × (HasVariable s x j.0 j.1 × ((assignable t j.1 ≡ true) × (Some j.0 ≡ k)))
taken_sound s x t k q = on_some (variable_in s x) (taken_by t) k q (λ j ij q. on_true (assignable t j.1) (Some j.0) k q (λ may same. (j, (variable_sound s x j ij, (may, same)))))

pub takes_sound : (s : Scope) (x : List ℕ) (t : Ty) (k : Option ℕ) → takes s x t ≡ Some k → Takes s x t k
unfolding takes
takes_sound s x t k q = on_cond (is_blank x) (Some None) _ k q
    (λ b q. subst (λ k. Takes s x t k) (some_inj q) (assigning.blank_takes b))
    (λ b q. let j = taken_sound s x t k q in subst (λ k. Takes s x t k) j.1.1.1 (assigning.variable_takes j.1.0 j.1.1.0))

abbrev IsNew : Scope → List ℕ → Ty → Scope → Option ℕ × Scope → Type 0
IsNew s x t m k = TakesNew s x t m k.0 k.1

old_taken : (s : Scope) (x : List ℕ) (t : Ty) (m : Scope) (k : Option ℕ × Scope) → is_here s x ≡ true → (variable_in s x >>= taken_by t >>= in_scope m) ≡ Some k → IsNew s x t m k
old_taken s x t m k here q = on_some (variable_in s x >>= taken_by t) (in_scope m) k q (λ l il q.
    let j = taken_sound s x t l il in
    subst (λ k. IsNew s x t m k) (some_inj q) (subst (λ l. IsNew s x t m (l, m)) j.1.1.1 (assigning.old_takes here j.1.0 j.1.1.0)))

pub takes_new_sound : (s : Scope) (x : List ℕ) (t : Ty) (m : Scope) (k : Option ℕ × Scope) → takes_new s x t m ≡ Some k → TakesNew s x t m k.0 k.1
unfolding takes_new
takes_new_sound s x t m k q = on_cond (is_blank x) _ _ k q
    (λ b q. subst (λ k. IsNew s x t m k) (some_inj q) (assigning.blank_new b))
    (λ b q. on_cond (is_here s x) _ _ k q (λ here q. old_taken s x t m k here q)
    (λ here q. on_some (variable_named (declare m x t) x) (λ j. Some (Some j, declare m x t)) k q (λ j ij q.
    subst (λ k. IsNew s x t m k) (some_inj q) (assigning.new_takes b here ij))))

-- what is printed
text_is : (e : Tree) (bytes : List ℕ) → as_text e ≡ Some bytes → e ≡ tree.Text bytes
text_is (tree.Text b) bytes q = ap tree.Text (some_inj q)
text_is (tree.Number n) bytes q = none_some q
text_is (tree.Name x) bytes q = none_some q
text_is tree.UnitValue bytes q = none_some q
text_is (tree.Paren e) bytes q = none_some q
text_is (tree.Call x es) bytes q = none_some q
text_is (tree.Make t) bytes q = none_some q
text_is (tree.MakeSized t e) bytes q = none_some q
text_is (tree.Unary op e) bytes q = none_some q
text_is (tree.Binary op a b) bytes q = none_some q

value_printed : (fs : List Signature) (s : Scope) (e : Tree) (es : Trees) (v : Value) (w : Typed) (p : Printed) (ps : List Printed) → IsValue fs s e v → HasType v w.0 w.1 → printable w ≡ Some p → ArePrinted fs s es ps → ArePrinted fs s (tree.more e es) (p ∷ ps)
value_printed fs s e es v (IntType, t) p ps d h q rest = subst (λ p. ArePrinted fs s (tree.more e es) (p ∷ ps)) (some_inj q) (simple_rules.int_printed d h rest)
value_printed fs s e es v (BoolType, t) p ps d h q rest = subst (λ p. ArePrinted fs s (tree.more e es) (p ∷ ps)) (some_inj q) (simple_rules.truth_printed d h rest)
value_printed fs s e es v (UnitType, t) p ps d h q rest = none_some q
value_printed fs s e es v (ChanType c u, t) p ps d h q rest = none_some q

one_printed : (fs : List Signature) (s : Scope) (e : Tree) (es : Trees) (p : Printed) (ps : List Printed) → (o : Option (List ℕ)) → as_text e ≡ o → printed_by o (value_in fs s e) ≡ Some p → ArePrinted fs s es ps → ArePrinted fs s (tree.more e es) (p ∷ ps)
one_printed fs s e es p ps (Some bytes) is q rest =
    subst (λ e. ArePrinted fs s (tree.more e es) (p ∷ ps)) (sym (text_is e bytes is)) (subst (λ p. ArePrinted fs s (tree.more (tree.Text bytes) es) (p ∷ ps)) (some_inj q) (simple_rules.text_printed rest))
one_printed fs s e es p ps None is q rest = on_some (value_in fs s e >>= typed) printable p q (λ w iw q.
    on_some (value_in fs s e) typed w iw (λ v iv iw. value_printed fs s e es v w p ps (value_sound fs s e v iv) (typed_sound v w iw) q rest))

pub printed_sound : (fs : List Signature) (s : Scope) (es : Trees) (ps : List Printed) → printed_in fs s es ≡ Some ps → ArePrinted fs s es ps
unfolding printed_in
printed_sound fs s tree.none ps q = subst (λ ps. ArePrinted fs s tree.none ps) (some_inj q) simple_rules.nothing_printed
printed_sound fs s (tree.more e es) ps q =
    on_some (printed_by (as_text e) (value_in fs s e)) (λ p. printed_in fs s es >>= λ ps. Some (p ∷ ps)) ps q (λ p ip q.
    on_some (printed_in fs s es) (λ ps. Some (p ∷ ps)) ps q (λ rest are q.
    subst (λ ps. ArePrinted fs s (tree.more e es) ps) (some_inj q) (one_printed fs s e es p rest (as_text e) refl ip (printed_sound fs s es rest are))))

-- expressions as statements
close_sound : (fs : List Signature) (s : Scope) (x : List ℕ) (es : Trees) (a : Act) → IsPredeclared fs s x → x ≡ codes "close" → (only_in fs s es >>= as_channel >>= closes) ≡ Some a → Runs fs s (tree.Call x es) a
unfolding OnlyIs
close_sound fs s x es a h is q = on_some (only_in fs s es >>= as_channel) closes a q (λ c ic q.
    on_some (only_in fs s es) as_channel c ic (λ v iv ic.
    on_true (may_send c.0) (Close c.1.1) a q (λ may same.
    let o = only_sound fs s es v iv in
    subst (λ es. Runs fs s (tree.Call x es) a) (sym o.1.0) (subst (λ a. Runs fs s (tree.Call x (tree.more o.0 tree.none)) a) same
    (simple_rules.run_close h is (subst (λ v. IsValue fs s o.0 v) (channel_is v c ic) o.1.1) may)))))

built_in_run : (fs : List Signature) (s : Scope) (x : List ℕ) (es : Trees) (a : Act) → IsPredeclared fs s x → run_built_in fs s x es ≡ Some a → Runs fs s (tree.Call x es) a
built_in_run fs s x es a h q =
    on_text x (codes "close") _ _ (Some a) q (λ is q. close_sound fs s x es a h is q)
    (λ f q. on_text x (codes "println") _ _ (Some a) q
    (λ is q. on_some (printed_in fs s es) (λ ps. Some (Print ps)) a q (λ ps are q. subst (λ a. Runs fs s (tree.Call x es) a) (some_inj q) (simple_rules.run_print h is (printed_sound fs s es ps are))))
    (λ f q. none_some q))

run_case : (fs : List Signature) (s : Scope) (x : List ℕ) (es : Trees) (a : Act) (o : Option ℕ) → function_in fs x ≡ o → run_by fs s x es o ≡ Some a → Runs fs s (tree.Call x es) a
run_case fs s x es a (Some k) is q = on_some (call_in fs s x (arguments_in fs s es)) (λ c. Some (Eval c.1)) a q (λ c ic q.
    subst (λ a. Runs fs s (tree.Call x es) a) (some_inj q) (simple_rules.run_call (call_found fs s x es (arguments_sound fs s es) c ic)))
run_case fs s x es a None is q = unhidden (variable_named s x) _ a q (λ free q. built_in_run fs s x es a (record { no_variable = free; no_function = is }) q)

run_receive_sound : (fs : List Signature) (s : Scope) (op : UnaryOp) (e : Tree) (w : Typed) → IsReceive fs s (tree.Unary op e) w.0 w.1 → Runs fs s (tree.Unary op e) (Eval (Receive w.1 (zero_of w.0)))
run_receive_sound fs s op e w (communicating.receive d may) = simple_rules.run_receive (communicating.receive d may)

pub runs_sound : (fs : List Signature) (s : Scope) (e : Tree) (a : Act) → runs_in fs s e ≡ Some a → Runs fs s e a
unfolding runs_in run_call
runs_sound fs s (tree.Paren e) a q = simple_rules.run_paren (runs_sound fs s e a q)
runs_sound fs s (tree.Unary op e) a q = on_some (receive_in fs s (tree.Unary op e)) evaluated a q (λ w iw q.
    subst (λ a. Runs fs s (tree.Unary op e) a) (some_inj q) (run_receive_sound fs s op e w (receive_found fs s (tree.Unary op e) w iw)))
runs_sound fs s (tree.Call x es) a q = run_case fs s x es a (function_in fs x) refl q
runs_sound fs s (tree.Number n) a q = none_some q
runs_sound fs s (tree.Text bytes) a q = none_some q
runs_sound fs s (tree.Name x) a q = none_some q
runs_sound fs s tree.UnitValue a q = none_some q
runs_sound fs s (tree.Make t) a q = none_some q
runs_sound fs s (tree.MakeSized t e) a q = none_some q
runs_sound fs s (tree.Binary op x y) a q = none_some q

-- sends
pub send_sound : (fs : List Signature) (s : Scope) (c e : Tree) (p : Expr × Expr) → send_in fs s c e ≡ Some p → IsSend fs s c e p.0 p.1
unfolding send_in
send_sound fs s c e p q = on_some (value_in fs s c >>= as_channel) (sent_on (value_in fs s e)) p q (λ k ik q.
    on_some (value_in fs s c) as_channel k ik (λ u iu ik.
    on_some (where_true (may_send k.0) k.1) (λ w. value_in fs s e >>= given w.0 >>= λ z. Some (w.1, z)) p q (λ w iw q.
    on_true (may_send k.0) k.1 w iw (λ may same.
    on_some (value_in fs s e >>= given w.0) (λ z. Some (w.1, z)) p q (λ z iz q.
    on_some (value_in fs s e) (given w.0) z iz (λ v iv iz.
    subst (λ p. IsSend fs s c e p.0 p.1) (some_inj q)
    (communicating.sends (subst (λ w. IsValue fs s c (Made (ChanType k.0 w.0) w.1)) same (subst (λ u. IsValue fs s c u) (channel_is u k ik) (value_sound fs s c u iu))) may (value_sound fs s e v iv) (given_sound w.0 v z iz))))))))

-- simple statements
pub pair_is : (xs : List (List ℕ)) (es : Trees) (pair : List ℕ × (List ℕ × Tree)) → pair_of xs es ≡ Some pair → (xs ≡ pair.0 ∷ (pair.1.0 ∷ [])) × (es ≡ tree.more pair.1.1 tree.none)
pair_is [] tree.none pair q = none_some q
pair_is [] (tree.more e es) pair q = none_some q
pair_is (x ∷ []) tree.none pair q = none_some q
pair_is (x ∷ []) (tree.more e es) pair q = none_some q
pair_is (x ∷ (y ∷ [])) tree.none pair q = none_some q
pair_is (x ∷ (y ∷ [])) (tree.more e tree.none) pair q = let same = some_inj q in (ap (λ p. p.0 ∷ (p.1.0 ∷ [])) same, ap (λ p. tree.more p.1.1 tree.none) same)
pair_is (x ∷ (y ∷ [])) (tree.more e (tree.more f es)) pair q = none_some q
pair_is (x ∷ (y ∷ (z ∷ xs))) tree.none pair q = none_some q
pair_is (x ∷ (y ∷ (z ∷ xs))) (tree.more e tree.none) pair q = none_some q
pair_is (x ∷ (y ∷ (z ∷ xs))) (tree.more e (tree.more f es)) pair q = none_some q

abbrev IsDone : List Signature → Scope → Simple → Done → Type 0
IsDone fs s a d = DoesSimple fs s a d.0 d.1

both_assigned : (fs : List Signature) (s : Scope) (pair : List ℕ × (List ℕ × Tree)) (w : Typed) (d : Done) → IsReceive fs s pair.1.1 w.0 w.1 → assign_both s pair w ≡ Some d → IsDone fs s (statements.Assign (pair.0 ∷ (pair.1.0 ∷ [])) (tree.more pair.1.1 tree.none)) d
both_assigned fs s pair w d r q =
    on_some (takes s pair.0 w.0) (λ k. takes s pair.1.0 BoolType >>= λ l. Some (AssignReceive k l w.1 (zero_of w.0), s)) d q (λ k ik q.
    on_some (takes s pair.1.0 BoolType) (λ l. Some (AssignReceive k l w.1 (zero_of w.0), s)) d q (λ l il q.
    subst (λ d. IsDone fs s (statements.Assign (pair.0 ∷ (pair.1.0 ∷ [])) (tree.more pair.1.1 tree.none)) d) (some_inj q) (simple_rules.assigns_receive r (takes_sound s pair.0 w.0 k ik) (takes_sound s pair.1.0 BoolType l il))))

assign_case : (fs : List Signature) (s : Scope) (xs : List (List ℕ)) (es : Trees) (o : Option (List ℕ × (List ℕ × Tree))) → pair_of xs es ≡ o → (d : Done) → assign_by fs s xs es o ≡ Some d → IsDone fs s (statements.Assign xs es) d
assign_case fs s xs es (Some pair) is d q = on_some (receive_in fs s pair.1.1) (assign_both s pair) d q (λ w iw q.
    let p = pair_is xs es pair is in
    subst (λ xs. IsDone fs s (statements.Assign xs es) d) (sym p.0) (subst (λ es. IsDone fs s (statements.Assign (pair.0 ∷ (pair.1.0 ∷ [])) es) d) (sym p.1) (both_assigned fs s pair w d (receive_found fs s pair.1.1 w iw) q)))
assign_case fs s xs es None is d q = on_some (all_given fs s xs es) (λ g. Some (assigned g, s)) d q (λ g ig q.
    subst (λ d. IsDone fs s (statements.Assign xs es) d) (some_inj q) (simple_rules.assigns (all_given_sound fs s xs es g ig)))

both_defined : (fs : List Signature) (s : Scope) (pair : List ℕ × (List ℕ × Tree)) (w : Typed) (d : Done) → may_define s (pair.0 ∷ (pair.1.0 ∷ [])) ≡ true → IsReceive fs s pair.1.1 w.0 w.1 → define_both s pair w ≡ Some d → IsDone fs s (statements.Define (pair.0 ∷ (pair.1.0 ∷ [])) (tree.more pair.1.1 tree.none)) d
both_defined fs s pair w d may r q =
    on_some (takes_new s pair.0 w.0 s) (λ k. takes_new s pair.1.0 BoolType k.1 >>= λ l. Some (AssignReceive k.0 l.0 w.1 (zero_of w.0), l.1)) d q (λ k ik q.
    on_some (takes_new s pair.1.0 BoolType k.1) (λ l. Some (AssignReceive k.0 l.0 w.1 (zero_of w.0), l.1)) d q (λ l il q.
    subst (λ d. IsDone fs s (statements.Define (pair.0 ∷ (pair.1.0 ∷ [])) (tree.more pair.1.1 tree.none)) d) (some_inj q) (simple_rules.defines_receive may r (takes_new_sound s pair.0 w.0 s k ik) (takes_new_sound s pair.1.0 BoolType k.1 l il))))

define_case : (fs : List Signature) (s : Scope) (xs : List (List ℕ)) (es : Trees) → may_define s xs ≡ true → (o : Option (List ℕ × (List ℕ × Tree))) → pair_of xs es ≡ o → (d : Done) → define_by fs s xs es o ≡ Some d → IsDone fs s (statements.Define xs es) d
define_case fs s xs es may (Some pair) is d q = on_some (receive_in fs s pair.1.1) (define_both s pair) d q (λ w iw q.
    let p = pair_is xs es pair is in
    subst (λ xs. IsDone fs s (statements.Define xs es) d) (sym p.0) (subst (λ es. IsDone fs s (statements.Define (pair.0 ∷ (pair.1.0 ∷ [])) es) d) (sym p.1)
    (both_defined fs s pair w d (subst (λ xs. may_define s xs ≡ true) p.0 may) (receive_found fs s pair.1.1 w iw) q)))
define_case fs s xs es may None is d q = on_some (all_defined fs s xs es s) (λ g. Some (assigned g.0, g.1)) d q (λ g ig q.
    subst (λ d. IsDone fs s (statements.Define xs es) d) (some_inj q) (simple_rules.defines may (all_defined_sound fs s xs es s g ig)))

int_variable : (s : Scope) (x : List ℕ) (t : Ty) (k j : ℕ) → HasVariable s x k t → if_int t k ≡ Some j → HasVariable s x j IntType
int_variable s x IntType k j h q = subst (λ j. HasVariable s x j IntType) (some_inj q) h
int_variable s x BoolType k j h q = none_some q
int_variable s x UnitType k j h q = none_some q
int_variable s x (ChanType d t) k j h q = none_some q

number_sound : (s : Scope) (x : List ℕ) (j : ℕ) → number_variable s x ≡ Some j → HasVariable s x j IntType
unfolding number_variable
number_sound s x j q = on_some (variable_in s x) (λ k. if_int k.1 k.0) j q (λ k ik q. int_variable s x k.1 k.0 j (variable_sound s x k ik) q)

operator_case : (fs : List Signature) (s : Scope) (x : List ℕ) (op : BinaryOp) (e : Tree) (k : ℕ) (v : Value) (a : Act) → HasVariable s x k IntType → IsValue fs s e v → (o : Option Ty) → binary_type op IntType IntType ≡ o → updated_by o op k v ≡ Some a → DoesSimple fs s (statements.Update x op e) a s
operator_case fs s x op e k v a h d (Some IntType) gives q = on_some (where_true (may_stand_right op v) v >>= of_kind IntType) (λ p. Some (Update k op p)) a q (λ p ip q.
    on_some (where_true (may_stand_right op v) v) (of_kind IntType) p ip (λ u iu ip.
    on_true (may_stand_right op v) v u iu (λ may same.
    subst (λ a. DoesSimple fs s (statements.Update x op e) a s) (some_inj q) (simple_rules.updates h d (int_sound v p (ap (of_kind IntType) same ∙ ip)) gives may))))
operator_case fs s x op e k v a h d (Some BoolType) gives q = none_some q
operator_case fs s x op e k v a h d (Some UnitType) gives q = none_some q
operator_case fs s x op e k v a h d (Some (ChanType c t)) gives q = none_some q
operator_case fs s x op e k v a h d None gives q = none_some q

update_sound : (fs : List Signature) (s : Scope) (x : List ℕ) (op : BinaryOp) (e : Tree) (k : ℕ) (v : Value) (a : Act) → HasVariable s x k IntType → IsValue fs s e v → updated op k v ≡ Some a → DoesSimple fs s (statements.Update x op e) a s
update_sound fs s x op e k v a h d q = operator_case fs s x op e k v a h d (binary_type op IntType IntType) refl q

pub simple_sound : (fs : List Signature) (s : Scope) (a : Simple) (d : Done) → simple_in fs s a ≡ Some d → DoesSimple fs s a d.0 d.1
unfolding simple_in
simple_sound fs s (statements.Eval e) d q = on_some (runs_in fs s e) (in_scope s) d q (λ a ia q. subst (λ d. IsDone fs s (statements.Eval e) d) (some_inj q) (simple_rules.runs (runs_sound fs s e a ia)))
simple_sound fs s (statements.Send c e) d q = on_some (send_in fs s c e) (λ p. in_scope s (Send p.0 p.1)) d q (λ p ip q. subst (λ d. IsDone fs s (statements.Send c e) d) (some_inj q) (simple_rules.sends (send_sound fs s c e p ip)))
simple_sound fs s (statements.Assign xs es) d q = assign_case fs s xs es (pair_of xs es) refl d q
simple_sound fs s (statements.Define xs es) d q = on_some (where_true (may_define s xs) xs) (λ xs. define_by fs s xs es (pair_of xs es)) d q (λ ys iy q.
    on_true (may_define s xs) xs ys iy (λ may same. define_case fs s xs es may (pair_of xs es) refl d (ap (λ xs. define_by fs s xs es (pair_of xs es)) same ∙ q)))
simple_sound fs s (statements.Update x op e) d q = on_some (number_variable s x) (λ k. value_in fs s e >>= updated op k >>= in_scope s) d q (λ k ik q.
    on_some (value_in fs s e >>= updated op k) (in_scope s) d q (λ a ia q.
    on_some (value_in fs s e) (updated op k) a ia (λ v iv ia.
    subst (λ d. IsDone fs s (statements.Update x op e) d) (some_inj q) (update_sound fs s x op e k v a (number_sound s x k ik) (value_sound fs s e v iv) ia))))
simple_sound fs s (statements.Increment x) d q = on_some (number_variable s x) (λ k. in_scope s (by_one binaries.Add k)) d q (λ k ik q. subst (λ d. IsDone fs s (statements.Increment x) d) (some_inj q) (simple_rules.increments (number_sound s x k ik)))
simple_sound fs s (statements.Decrement x) d q = on_some (number_variable s x) (λ k. in_scope s (by_one binaries.Subtract k)) d q (λ k ik q. subst (λ d. IsDone fs s (statements.Decrement x) d) (some_inj q) (simple_rules.decrements (number_sound s x k ik)))
