-- What the judgement says of a simple statement is what the checker finds.
use Rattle.std.proofs.Common.{◌≡◌, ℕ, Bool, true, false, List, [], ◌∷◌, refl, ap, ◌∙◌, cond}
use Rattle.std.specs.Prelude.{Option, Some, None, codes}
use Rattle.gr_tree.specs.declared.expr.Direction.{Direction}
use Rattle.gr_tree.specs.declared.expr.UnaryOp.TheVariants as unaries
use Rattle.gr_tree.specs.declared.expr.BinaryOp.{BinaryOp}
use Rattle.gr_tree.specs.declared.expr.BinaryOp.TheVariants as binaries
use Rattle.gr_tree.specs.Exprs as tree
use Rattle.gr_tree.specs.Exprs.{Tree, Trees}
use Rattle.gr_tree.specs.Statements.{Simple}
use Rattle.gr_program.specs.Types.{Ty, IntType, BoolType, ChanType}
use Rattle.gr_typing.specs.Types.{assignable, may_send, may_receive}
use Rattle.gr_program.specs.Programs.{zero_of, Expr, Exprs, Printed, PrintExpr, PrintText, Act, AssignReceive, Update, Eval, Close, Print, Send}
use Rattle.gr_typing.specs.Names.{is_blank}
use Rattle.gr_typing.specs.Scopes.{Scope, variable_named, type_of_variable, is_here, declare, declared, number_of, Signature, function_in}
use Rattle.gr_typing.specs.Values as values
use Rattle.gr_typing.specs.Values.{Value, Made, HasType, Fits, binary_type, may_stand_right, IsPredeclared, IsValue, IsCall}
use Rattle.gr_exprs.specs.Finding.{◌>>=◌, Typed, typed, given, of_kind, as_channel, if_unknown, call_in, value_in, arguments_in, only_in}
use Rattle.gr_typing.specs.Assignments as assigning
use Rattle.gr_typing.specs.Communications as communicating
use Rattle.gr_typing.specs.SimpleStatements as simple_rules
use Rattle.gr_typing.specs.Assignments.{HasVariable, IsGiven, AreGiven, IsDefined, AreDefined, IsDeclaredAs, AreDeclared, Takes, TakesNew, may_define}
use Rattle.gr_typing.specs.Communications.{IsReceive, IsSend}
use Rattle.gr_typing.specs.SimpleStatements.{ArePrinted, Runs, DoesSimple}
use Rattle.gr_types.specs.FindingStatements.{variable_in, to_variable, to_blank, given_to, with_given, all_given, newly, in_scope, defined_by, with_defined, all_defined, declared_as, all_declared_as, receives, receive_in, taken_by, takes, newly_taken, takes_new, as_text, printable, printed_by, printed_in, closes, run_built_in, run_by, run_call, evaluated, runs_in, sent_on, send_in, pair_of, assigned, assign_both, assign_by, define_both, define_by, if_int, number_variable, updated_by, updated, by_one, simple_in}
use Rattle.gr_exprs.proofs.Finds.{then_some, if_true, typed_complete, given_complete, int_complete}
use Rattle.gr_exprs.proofs.FindsAll.{value_complete, call_complete, function_of_call}

pub on_blank : {A : Type 0} (b : Bool) (x y : Option A) → b ≡ true → cond b x y ≡ x
on_blank b x y e = ap (λ b. cond b x y) e

pub on_other : {A : Type 0} (b : Bool) (x y : Option A) → b ≡ false → cond b x y ≡ y
on_other b x y e = ap (λ b. cond b x y) e

-- names
not_blank : {s : Scope} {x : List ℕ} {k : ℕ} {t : Ty} → HasVariable s x k t → is_blank x ≡ false
not_blank (assigning.has b is of) = b

pub variable_complete : {s : Scope} {x : List ℕ} {k : ℕ} {t : Ty} → HasVariable s x k t → variable_in s x ≡ Some (k, t)
unfolding variable_in
variable_complete {s} {x} {k} {t} (assigning.has b is of) =
    on_other (is_blank x) None _ b ∙ then_some (variable_named s x) k (λ k. type_of_variable s k >>= λ t. Some (k, t)) is ∙ then_some (type_of_variable s k) t (λ t. Some (k, t)) of

to_variable_complete : {s : Scope} {x : List ℕ} {k : ℕ} {t : Ty} {v : Value} {p : Expr} → HasVariable s x k t → Fits v t p → (variable_in s x >>= to_variable v) ≡ Some (Some k, p)
to_variable_complete {s} {x} {k} {t} {v} {p} h fits = then_some (variable_in s x) (k, t) (to_variable v) (variable_complete h) ∙ then_some (given t v) p (λ p. Some (Some k, p)) (given_complete fits)

to_blank_complete : {v : Value} {t : Ty} {p : Expr} → HasType v t p → to_blank v ≡ Some (None, p)
to_blank_complete {v} {t} {p} h = then_some (typed v) (t, p) (λ w. Some (None, w.1)) (typed_complete h)

given_to_complete : {s : Scope} {x : List ℕ} {v : Value} {k : Option ℕ} {p : Expr} → IsGiven s x v k p → given_to s x v ≡ Some (k, p)
unfolding given_to
given_to_complete {s} {x} {v} (assigning.to_blank b h) = on_blank (is_blank x) (to_blank v) _ b ∙ to_blank_complete h
given_to_complete {s} {x} {v} (assigning.to_variable h fits) = on_other (is_blank x) (to_blank v) _ (not_blank h) ∙ to_variable_complete h fits

pub all_given_complete : {fs : List Signature} {s : Scope} {xs : List (List ℕ)} {es : Trees} {ks : List (Option ℕ)} {ps : Exprs} → AreGiven fs s xs es ks ps → all_given fs s xs es ≡ Some (ks, ps)
unfolding all_given
all_given_complete assigning.no_given = refl
all_given_complete {fs} {s} (assigning.given {x = x} {xs = xs} {e = e} {es = es} {v = v} {k = k} {ks = ks} {p = p} {ps = ps} d g rest) =
    ap (λ o. o >>= given_to s x >>= λ g. all_given fs s xs es >>= λ rest. Some (with_given g rest)) (value_complete d)
    ∙ then_some (given_to s x v) (k, p) (λ g. all_given fs s xs es >>= λ rest. Some (with_given g rest)) (given_to_complete g)
    ∙ then_some (all_given fs s xs es) (ks, ps) (λ rest. Some (with_given (k, p) rest)) (all_given_complete rest)

defined_complete : {s : Scope} {x : List ℕ} {v : Value} {m n : Scope} {k : Option ℕ} {p : Expr} → IsDefined s x v m k p n → defined_by s x v m ≡ Some ((k, p), n)
unfolding defined_by
defined_complete {s} {x} {v} {m} (assigning.blank {p = p} b h) = on_blank (is_blank x) (to_blank v >>= in_scope m) _ b ∙ then_some (to_blank v) (None, p) (in_scope m) (to_blank_complete h)
defined_complete {s} {x} {v} {m} (assigning.old {k = k} {p = p} here h fits) =
    on_other (is_blank x) (to_blank v >>= in_scope m) _ (not_blank h)
    ∙ on_blank (is_here s x) (variable_in s x >>= to_variable v >>= in_scope m) _ here
    ∙ then_some (variable_in s x >>= to_variable v) (Some k, p) (in_scope m) (to_variable_complete h fits)
defined_complete {s} {x} {v} {m} (assigning.new {k = k} {t = t} {p = p} b here h is) =
    on_other (is_blank x) (to_blank v >>= in_scope m) _ b
    ∙ on_other (is_here s x) (variable_in s x >>= to_variable v >>= in_scope m) _ here
    ∙ then_some (typed v) (t, p) (newly x m) (typed_complete h)
    ∙ then_some (variable_named (declare m x t) x) k (λ k. Some ((Some k, p), declare m x t)) is

pub all_defined_complete : {fs : List Signature} {s : Scope} {xs : List (List ℕ)} {es : Trees} {m n : Scope} {ks : List (Option ℕ)} {ps : Exprs} → AreDefined fs s xs es m ks ps n → all_defined fs s xs es m ≡ Some ((ks, ps), n)
unfolding all_defined
all_defined_complete assigning.no_defined = refl
all_defined_complete {fs} {s} (assigning.defined {x = x} {xs = xs} {e = e} {es = es} {v = v} {m = m} {n = n} {o = o} {k = k} {ks = ks} {p = p} {ps = ps} d g rest) =
    then_some (value_in fs s e) v (λ v. defined_by s x v m >>= λ d. all_defined fs s xs es d.1 >>= λ rest. Some (with_defined d.0 rest)) (value_complete d)
    ∙ then_some (defined_by s x v m) ((k, p), n) (λ d. all_defined fs s xs es d.1 >>= λ rest. Some (with_defined d.0 rest)) (defined_complete g)
    ∙ then_some (all_defined fs s xs es n) ((ks, ps), o) (λ rest. Some (with_defined (k, p) rest)) (all_defined_complete rest)

declared_as_complete : {w : Option Ty} {v : Value} {t : Ty} {p : Expr} → IsDeclaredAs w v t p → declared_as w v ≡ Some (t, p)
unfolding declared_as
declared_as_complete (assigning.written {v = v} {t = t} {p = p} fits) = then_some (given t v) p (λ p. Some (t, p)) (given_complete fits)
declared_as_complete (assigning.inferred h) = typed_complete h

pub all_declared_complete : {fs : List Signature} {s : Scope} {w : Option Ty} {xs : List (List ℕ)} {es : Trees} {m n : Scope} {ks : List (Option ℕ)} {ps : Exprs} → AreDeclared fs s w xs es m ks ps n → all_declared_as fs s w xs es m ≡ Some ((ks, ps), n)
unfolding all_declared_as
all_declared_complete assigning.no_declared = refl
all_declared_complete {fs} {s} {w} (assigning.one_declared {x = x} {xs = xs} {e = e} {es = es} {v = v} {t = t} {m = m} {o = o} {ks = ks} {p = p} {ps = ps} d g rest) =
    ap (λ r. r >>= declared_as w >>= λ z. all_declared_as fs s w xs es (declared m x z.0) >>= λ rest. Some (with_defined (number_of (declared m x z.0) x, z.1) rest)) (value_complete d)
    ∙ then_some (declared_as w v) (t, p) (λ z. all_declared_as fs s w xs es (declared m x z.0) >>= λ rest. Some (with_defined (number_of (declared m x z.0) x, z.1) rest)) (declared_as_complete g)
    ∙ then_some (all_declared_as fs s w xs es (declared m x t)) ((ks, ps), o) (λ rest. Some (with_defined (number_of (declared m x t) x, p) rest)) (all_declared_complete rest)

-- receives
receives_all : (o : Option Value) (d : Direction) (t : Ty) (p : Expr) → o ≡ Some (Made (ChanType d t) p) → may_receive d ≡ true → (o >>= as_channel >>= receives) ≡ Some (t, p)
receives_all o d t p e may = ap (λ o. o >>= as_channel >>= receives) e ∙ if_true (may_receive d) (t, p) may

pub receive_complete : {fs : List Signature} {s : Scope} {e : Tree} {t : Ty} {p : Expr} → IsReceive fs s e t p → receive_in fs s e ≡ Some (t, p)
unfolding receive_in
receive_complete {fs} {s} (communicating.receive {e = e} {d = d} {t = t} {p = p} h may) = receives_all (value_in fs s e) d t p (value_complete h) may
receive_complete (communicating.receive_paren d) = receive_complete d

-- names that take a value
taken_complete : {s : Scope} {x : List ℕ} {k : ℕ} (t : Ty) {u : Ty} → HasVariable s x k u → assignable t u ≡ true → (variable_in s x >>= taken_by t) ≡ Some (Some k)
taken_complete {s} {x} {k} t {u} h may = then_some (variable_in s x) (k, u) (taken_by t) (variable_complete h) ∙ if_true (assignable t u) (Some k) may

pub takes_complete : {s : Scope} {x : List ℕ} {t : Ty} {k : Option ℕ} → Takes s x t k → takes s x t ≡ Some k
unfolding takes
takes_complete {s} {x} {t} (assigning.blank_takes b) = on_blank (is_blank x) (Some None) (variable_in s x >>= taken_by t) b
takes_complete {s} {x} {t} (assigning.variable_takes h may) = on_other (is_blank x) (Some None) (variable_in s x >>= taken_by t) (not_blank h) ∙ taken_complete t h may

pub takes_new_complete : {s : Scope} {x : List ℕ} {t : Ty} {m n : Scope} {k : Option ℕ} → TakesNew s x t m k n → takes_new s x t m ≡ Some (k, n)
unfolding takes_new
takes_new_complete {s} {x} {t} {m} (assigning.blank_new b) = on_blank (is_blank x) (Some (None, m)) _ b
takes_new_complete {s} {x} {t} {m} (assigning.old_takes {k = k} here h may) =
    on_other (is_blank x) (Some (None, m)) _ (not_blank h)
    ∙ on_blank (is_here s x) (variable_in s x >>= taken_by t >>= in_scope m) (newly_taken x t m) here
    ∙ then_some (variable_in s x >>= taken_by t) (Some k) (in_scope m) (taken_complete t h may)
takes_new_complete {s} {x} {t} {m} (assigning.new_takes {k = k} b here is) =
    on_other (is_blank x) (Some (None, m)) _ b
    ∙ on_other (is_here s x) (variable_in s x >>= taken_by t >>= in_scope m) (newly_taken x t m) here
    ∙ then_some (variable_named (declare m x t) x) k (λ k. Some (Some k, declare m x t)) is

-- what is printed
no_text : {fs : List Signature} {s : Scope} {e : Tree} {v : Value} → IsValue fs s e v → as_text e ≡ None
no_text (values.number is) = refl
no_text (values.variable is of) = refl
no_text (values.true_name h is) = refl
no_text (values.false_name h is) = refl
no_text (values.nil_name h is) = refl
no_text values.unit = refl
no_text (values.paren d) = refl
no_text (values.unary_constant d is) = refl
no_text (values.unary_made d is) = refl
no_text (values.receive d may) = refl
no_text (values.binary_constant a b is) = refl
no_text (values.binary_made a b other hu hv is may) = refl
no_text (values.left_nil may a b) = refl
no_text (values.right_nil may a b) = refl
no_text (values.length h is d) = refl
no_text (values.capacity h is d) = refl
no_text (values.call d) = refl
no_text (values.make is) = refl
no_text (values.make_sized is d h may) = refl

one_printed_all : (fs : List Signature) (s : Scope) (e : Tree) (v : Value) (w : Typed) (p : Printed) → IsValue fs s e v → typed v ≡ Some w → printable w ≡ Some p → printed_by (as_text e) (value_in fs s e) ≡ Some p
one_printed_all fs s e v w p d is q =
    ap (λ o. printed_by o (value_in fs s e)) (no_text d)
    ∙ ap (λ o. o >>= typed >>= printable) (value_complete d)
    ∙ then_some (typed v) w printable is ∙ q

more_printed : (fs : List Signature) (s : Scope) (e : Tree) (es : Trees) (p : Printed) (ps : List Printed) → printed_by (as_text e) (value_in fs s e) ≡ Some p → printed_in fs s es ≡ Some ps → printed_in fs s (tree.more e es) ≡ Some (p ∷ ps)
unfolding printed_in
more_printed fs s e es p ps one rest = then_some (printed_by (as_text e) (value_in fs s e)) p (λ p. printed_in fs s es >>= λ ps. Some (p ∷ ps)) one ∙ then_some (printed_in fs s es) ps (λ ps. Some (p ∷ ps)) rest

pub printed_complete : {fs : List Signature} {s : Scope} {es : Trees} {ps : List Printed} → ArePrinted fs s es ps → printed_in fs s es ≡ Some ps
unfolding printed_in
printed_complete simple_rules.nothing_printed = refl
printed_complete {fs} {s} (simple_rules.text_printed {bytes = bytes} {es = es} {ps = ps} rest) = more_printed fs s (tree.Text bytes) es (PrintText bytes) ps refl (printed_complete rest)
printed_complete {fs} {s} (simple_rules.int_printed {e = e} {es = es} {v = v} {p = p} {ps = ps} d h rest) = more_printed fs s e es (PrintExpr p) ps (one_printed_all fs s e v (IntType, p) (PrintExpr p) d (typed_complete h) refl) (printed_complete rest)
printed_complete {fs} {s} (simple_rules.truth_printed {e = e} {es = es} {v = v} {p = p} {ps = ps} d h rest) = more_printed fs s e es (PrintExpr p) ps (one_printed_all fs s e v (BoolType, p) (PrintExpr p) d (typed_complete h) refl) (printed_complete rest)

-- expressions as statements
built_in_is : (fs : List Signature) (s : Scope) (x : List ℕ) (es : Trees) → IsPredeclared fs s x → run_call fs s x es ≡ run_built_in fs s x es
unfolding run_call
built_in_is fs s x es h = ap (run_by fs s x es) h.no_function ∙ ap (λ o. if_unknown o (run_built_in fs s x es)) h.no_variable

close_all : (fs : List Signature) (s : Scope) (x : List ℕ) (e : Tree) (d : Direction) (t : Ty) (p : Expr) → x ≡ codes "close" → IsValue fs s e (Made (ChanType d t) p) → may_send d ≡ true → run_built_in fs s x (tree.more e tree.none) ≡ Some (Close p)
unfolding only_in
close_all fs s x e d t p is h may = rw is (ap (λ o. o >>= as_channel >>= closes) (value_complete h) ∙ if_true (may_send d) (Close p) may)

print_all : (fs : List Signature) (s : Scope) (x : List ℕ) (es : Trees) (ps : List Printed) → x ≡ codes "println" → ArePrinted fs s es ps → run_built_in fs s x es ≡ Some (Print ps)
print_all fs s x es ps is d = rw is (then_some (printed_in fs s es) ps (λ ps. Some (Print ps)) (printed_complete d))

call_run : (fs : List Signature) (s : Scope) (x : List ℕ) (es : Trees) (k : ℕ) (r : Option Ty) (p : Expr) → function_in fs x ≡ Some k → call_in fs s x (arguments_in fs s es) ≡ Some (r, p) → run_call fs s x es ≡ Some (Eval p)
unfolding run_call
call_run fs s x es k r p is e = ap (run_by fs s x es) is ∙ then_some (call_in fs s x (arguments_in fs s es)) (r, p) (λ c. Some (Eval c.1)) e

pub runs_complete : {fs : List Signature} {s : Scope} {e : Tree} {a : Act} → Runs fs s e a → runs_in fs s e ≡ Some a
unfolding runs_in
runs_complete (simple_rules.run_paren d) = runs_complete d
runs_complete {fs} {s} (simple_rules.run_receive {e = e} {t = t} {p = p} d) = then_some (receive_in fs s (tree.Unary unaries.Receive e)) (t, p) evaluated (receive_complete d)
runs_complete {fs} {s} (simple_rules.run_call {x = x} {es = es} {result = r} {p = p} d) = let f = function_of_call d in call_run fs s x es f.0 r p f.1 (call_complete d)
runs_complete {fs} {s} (simple_rules.run_close {x = x} {e = e} {d = d} {t = t} {p = p} h is v may) = built_in_is fs s x (tree.more e tree.none) h ∙ close_all fs s x e d t p is v may
runs_complete {fs} {s} (simple_rules.run_print {x = x} {es = es} {ps = ps} h is d) = built_in_is fs s x es h ∙ print_all fs s x es ps is d

pub send_complete : {fs : List Signature} {s : Scope} {c e : Tree} {p q : Expr} → IsSend fs s c e p q → send_in fs s c e ≡ Some (p, q)
unfolding send_in
send_complete {fs} {s} (communicating.sends {c = c} {e = e} {d = d} {t = t} {v = v} {p = p} {q = q} hc may he fits) =
    ap (λ o. o >>= as_channel >>= sent_on (value_in fs s e)) (value_complete hc)
    ∙ ap (λ o. o >>= λ w. value_in fs s e >>= given w.0 >>= λ q. Some (w.1, q)) (if_true (may_send d) (t, p) may)
    ∙ ap (λ o. o >>= given t >>= λ q. Some (p, q)) (value_complete he)
    ∙ then_some (given t v) q (λ q. Some (p, q)) (given_complete fits)

-- as many names as values are no pair of names with one receive
given_no_pair : {fs : List Signature} {s : Scope} {xs : List (List ℕ)} {es : Trees} {ks : List (Option ℕ)} {ps : Exprs} → AreGiven fs s xs es ks ps → pair_of xs es ≡ None
given_no_pair assigning.no_given = refl
given_no_pair (assigning.given d g assigning.no_given) = refl
given_no_pair (assigning.given d g (assigning.given e h assigning.no_given)) = refl
given_no_pair (assigning.given d g (assigning.given e h (assigning.given f i rest))) = refl

defined_no_pair : {fs : List Signature} {s : Scope} {xs : List (List ℕ)} {es : Trees} {m n : Scope} {ks : List (Option ℕ)} {ps : Exprs} → AreDefined fs s xs es m ks ps n → pair_of xs es ≡ None
defined_no_pair assigning.no_defined = refl
defined_no_pair (assigning.defined d g assigning.no_defined) = refl
defined_no_pair (assigning.defined d g (assigning.defined e h assigning.no_defined)) = refl
defined_no_pair (assigning.defined d g (assigning.defined e h (assigning.defined f i rest))) = refl

pub declared_no_pair : {fs : List Signature} {s : Scope} {w : Option Ty} {xs : List (List ℕ)} {es : Trees} {m n : Scope} {ks : List (Option ℕ)} {ps : Exprs} → AreDeclared fs s w xs es m ks ps n → pair_of xs es ≡ None
declared_no_pair assigning.no_declared = refl
declared_no_pair (assigning.one_declared d g assigning.no_declared) = refl
declared_no_pair (assigning.one_declared d g (assigning.one_declared e h assigning.no_declared)) = refl
declared_no_pair (assigning.one_declared d g (assigning.one_declared e h (assigning.one_declared f i rest))) = refl

number_complete : {s : Scope} {x : List ℕ} {k : ℕ} → HasVariable s x k IntType → number_variable s x ≡ Some k
unfolding number_variable
number_complete {s} {x} {k} h = then_some (variable_in s x) (k, IntType) (λ k. if_int k.1 k.0) (variable_complete h)

updated_all : (op : BinaryOp) (k : ℕ) (v : Value) (p : Expr) → HasType v IntType p → binary_type op IntType IntType ≡ Some IntType → may_stand_right op v ≡ true → updated op k v ≡ Some (Update k op p)
updated_all op k v p h gives may = ap (λ o. updated_by o op k v) gives ∙ ap (λ o. o >>= of_kind IntType >>= λ p. Some (Update k op p)) (if_true (may_stand_right op v) v may) ∙ then_some (of_kind IntType v) p (λ p. Some (Update k op p)) (int_complete h)

pub simple_complete : {fs : List Signature} {s n : Scope} {a : Simple} {b : Act} → DoesSimple fs s a b n → simple_in fs s a ≡ Some (b, n)
unfolding simple_in
simple_complete {fs} {s} (simple_rules.runs {e = e} {a = a} d) = then_some (runs_in fs s e) a (in_scope s) (runs_complete d)
simple_complete {fs} {s} (simple_rules.sends {c = c} {e = e} {p = p} {q = q} d) = then_some (send_in fs s c e) (p, q) (λ p. in_scope s (Send p.0 p.1)) (send_complete d)
simple_complete {fs} {s} (simple_rules.assigns {xs = xs} {es = es} {ks = ks} {ps = ps} d) = ap (assign_by fs s xs es) (given_no_pair d) ∙ then_some (all_given fs s xs es) (ks, ps) (λ g. Some (assigned g, s)) (all_given_complete d)
simple_complete {fs} {s} (simple_rules.assigns_receive {x = x} {y = y} {e = e} {t = t} {p = p} {k = k} {l = l} d hx hy) =
    then_some (receive_in fs s e) (t, p) (assign_both s (x, (y, e))) (receive_complete d)
    ∙ then_some (takes s x t) k (λ k. takes s y BoolType >>= λ l. Some (AssignReceive k l p (zero_of t), s)) (takes_complete hx)
    ∙ then_some (takes s y BoolType) l (λ l. Some (AssignReceive k l p (zero_of t), s)) (takes_complete hy)
simple_complete {fs} {s} (simple_rules.defines {xs = xs} {es = es} {ks = ks} {ps = ps} {n = n} may d) =
    ap (λ o. o >>= λ xs. define_by fs s xs es (pair_of xs es)) (if_true (may_define s xs) xs may)
    ∙ ap (define_by fs s xs es) (defined_no_pair d) ∙ then_some (all_defined fs s xs es s) ((ks, ps), n) (λ g. Some (assigned g.0, g.1)) (all_defined_complete d)
simple_complete {fs} {s} (simple_rules.defines_receive {x = x} {y = y} {e = e} {t = t} {p = p} {k = k} {l = l} {m = m} {n = n} may d hx hy) =
    ap (λ o. o >>= λ xs. define_by fs s xs (tree.more e tree.none) (pair_of xs (tree.more e tree.none))) (if_true (may_define s (x ∷ (y ∷ []))) (x ∷ (y ∷ [])) may)
    ∙ then_some (receive_in fs s e) (t, p) (define_both s (x, (y, e))) (receive_complete d)
    ∙ then_some (takes_new s x t s) (k, m) (λ k. takes_new s y BoolType k.1 >>= λ l. Some (AssignReceive k.0 l.0 p (zero_of t), l.1)) (takes_new_complete hx)
    ∙ then_some (takes_new s y BoolType m) (l, n) (λ l. Some (AssignReceive k l.0 p (zero_of t), l.1)) (takes_new_complete hy)
simple_complete {fs} {s} (simple_rules.updates {x = x} {op = op} {e = e} {v = v} {k = k} {p = p} h d t gives may) =
    then_some (number_variable s x) k (λ k. value_in fs s e >>= updated op k >>= in_scope s) (number_complete h)
    ∙ ap (λ o. o >>= updated op k >>= in_scope s) (value_complete d)
    ∙ then_some (updated op k v) (Update k op p) (in_scope s) (updated_all op k v p t gives may)
simple_complete {fs} {s} (simple_rules.increments {x = x} {k = k} h) = then_some (number_variable s x) k (λ k. in_scope s (by_one binaries.Add k)) (number_complete h)
simple_complete {fs} {s} (simple_rules.decrements {x = x} {k = k} h) = then_some (number_variable s x) k (λ k. in_scope s (by_one binaries.Subtract k)) (number_complete h)
