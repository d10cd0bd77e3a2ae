-- The arguments of calls.
use Rattle.std.proofs.lemmas.Bool.{cases_Bool}
use Rattle.std.proofs.Common.{◌≡◌, ℕ, ◌+◌, List, [], ◌∷◌, ◌++◌, length, get_or, drop, ◌<◌, ◌≤◌, refl, ap, sym, ◌∙◌, subst, arith, add-one, drop-cons, append-nil, inl, inr, Global}
use Rattle.std.specs.Prelude.{Option, Some, None, Result, Vec, Box, codes}
use Rattle.std.proofs.lemmas.List.{drop_all}
use Rattle.std.proofs.Math.Path.{fun_ext}
use Rattle.gr_tree.specs.Exprs as tree
use Rattle.gr_tree.specs.Exprs.{Trees, tree_of, trees_of}
use Rattle.gr_tree.specs.declared.expr.Expr as code_expr
use Rattle.gr_tree.specs.declared.expr.Expr.TheVariants as exprs
use Rattle.gr_program.specs.declared.types.Type as code_type
use Rattle.gr_program.specs.declared.program.Expr as checked_expr
use Rattle.gr_exprs.specs.declared.operands.Operand as code_operand
use Rattle.gr_exprs.specs.declared.calls.Callee.{Callee}
use Rattle.gr_exprs.specs.declared.calls.Callee.TheVariants as callees
use Rattle.gr_program.specs.Types.{Ty}
use Rattle.gr_program.specs.Programs.{Exprs, none, more}
use Rattle.gr_program.specs.TypeViews.{ty_of, types_of}
use Rattle.gr_program.specs.Views.{expr_of, exprs_of}
use Rattle.gr_typing.specs.Scopes.{Scope, variable_named, Signature, Sign, function_in, signature}
use Rattle.gr_typing.specs.Values.{Value}
use Rattle.gr_exprs.specs.Finding.{◌>>=◌, has_text, measure, call_of, call_value, call_in, called, given, value_in, arguments_in, only_in}
use Rattle.gr_exprs.specs.Calling.{values_in, given_all, only_of, measure_named, callee_in, called_as, call_named}
use Rattle.gr_exprs.specs.declared.refusal.RuleError.{RuleError}
use Rattle.gr_exprs.specs.declared.refusal.RuleError.TheVariants as faults
use Rattle.gr_exprs.specs.Checking.{meaning_of, meanings_of, Rejects, Agrees}
use Rattle.gr_exprs.proofs.Basics.{then_none}
use Rattle.gr_exprs.proofs.Trees.{tree_call}

abbrev pub terms_before : List checked_expr.Expr → Exprs → Exprs
terms_before [] rest = rest
terms_before (t ∷ ts) rest = more (expr_of t) (terms_before ts rest)

pub before_push : (ts : List checked_expr.Expr) (t : checked_expr.Expr) (rest : Exprs) → terms_before (ts ++ (t ∷ [])) rest ≡ terms_before ts (more (expr_of t) rest)
before_push [] t rest = refl
before_push (u ∷ ts) t rest = ap (more (expr_of u)) (before_push ts t rest)

pub before_none : (ts : List checked_expr.Expr) → terms_before ts none ≡ exprs_of ts
before_none [] = refl
before_none (t ∷ ts) = ap (more (expr_of t)) (before_none ts)

-- arguments by their values
more_values : (o : Option Value) (w : Option (List Value)) (t : Ty) (ts : List Ty) (r : Option Exprs) → r ≡ (w >>= λ vs. given_all vs ts)
    → (o >>= given t >>= λ p. r >>= λ ps. Some (more p ps)) ≡ ((o >>= λ v. w >>= λ vs. Some (v ∷ vs)) >>= λ vs. given_all vs (t ∷ ts))
more_values None w t ts r e = refl
more_values (Some v) (Some vs) t ts r e = ap (λ r. given t v >>= λ p. r >>= λ ps. Some (more p ps)) e
more_values (Some v) None t ts r e = ap (λ r. given t v >>= λ p. r >>= λ ps. Some (more p ps)) e ∙ then_none (given t v)

no_more : (o : Option Value) (w : Option (List Value)) → None ≡ ((o >>= λ v. w >>= λ vs. Some (v ∷ vs)) >>= λ vs. given_all vs [])
no_more None w = refl
no_more (Some v) None = refl
no_more (Some v) (Some vs) = refl

arguments_is : (fs : List Signature) (s : Scope) (es : Trees) (ts : List Ty) → arguments_in fs s es ts ≡ (values_in fs s es >>= λ vs. given_all vs ts)
unfolding arguments_in
arguments_is fs s tree.none [] = refl
arguments_is fs s tree.none (t ∷ ts) = refl
arguments_is fs s (tree.more e es) [] = no_more (value_in fs s e) (values_in fs s es)
arguments_is fs s (tree.more e es) (t ∷ ts) = more_values (value_in fs s e) (values_in fs s es) t ts (arguments_in fs s es ts) (arguments_is fs s es ts)

one_value : (o : Option Value) → o ≡ ((o >>= λ v. Some (v ∷ [])) >>= only_of)
one_value None = refl
one_value (Some v) = refl

two_values : (o p : Option Value) (w : Option (List Value)) → None ≡ ((o >>= λ v. (p >>= λ u. w >>= λ vs. Some (u ∷ vs)) >>= λ vs. Some (v ∷ vs)) >>= only_of)
two_values None p w = refl
two_values (Some v) None w = refl
two_values (Some v) (Some u) None = refl
two_values (Some v) (Some u) (Some vs) = refl

only_is : (fs : List Signature) (s : Scope) (es : Trees) → only_in fs s es ≡ (values_in fs s es >>= only_of)
unfolding only_in
only_is fs s tree.none = refl
only_is fs s (tree.more e tree.none) = one_value (value_in fs s e)
only_is fs s (tree.more e (tree.more f es)) = two_values (value_in fs s e) (value_in fs s f) (values_in fs s es)

-- a call by its arguments' values
measure_nothing : (x : List ℕ) → None ≡ ◌>>=◌ {B = Value} (measure_named x) (λ c. None)
measure_nothing x = sym (then_none (measure_named x))

measured_by : (fs : List Signature) (x : List ℕ) (vs : List Value) (v : Value) → only_of vs ≡ Some v → measure x v ≡ (measure_named x >>= λ c. called_as fs c vs)
measured_by fs x vs v e = elim (cases_Bool (has_text x (codes "len"))) [
  | inl t ↦ rw (t, e) refl
  | inr f ↦ elim (cases_Bool (has_text x (codes "cap"))) [ inl t ↦ rw (f, t, e) refl | inr g ↦ rw (f, g) refl ]
]

not_measured : (fs : List Signature) (x : List ℕ) (vs : List Value) → only_of vs ≡ None → None ≡ (measure_named x >>= λ c. called_as fs c vs)
not_measured fs x vs e = elim (cases_Bool (has_text x (codes "len"))) [
  | inl t ↦ rw (t, e) refl
  | inr f ↦ elim (cases_Bool (has_text x (codes "cap"))) [ inl t ↦ rw (f, t, e) refl | inr g ↦ rw (f, g) refl ]
]

measure_is : (fs : List Signature) (x : List ℕ) (vs : List Value) (o : Option Value) → only_of vs ≡ o → (o >>= measure x) ≡ (measure_named x >>= λ c. called_as fs c vs)
measure_is fs x vs (Some v) e = measured_by fs x vs v e
measure_is fs x vs None e = not_measured fs x vs e

measure_all : (fs : List Signature) (x : List ℕ) (o : Option (List Value)) → ((o >>= only_of) >>= measure x) ≡ (measure_named x >>= λ c. o >>= called_as fs c)
measure_all fs x None = measure_nothing x
measure_all fs x (Some vs) = measure_is fs x vs (only_of vs) refl

function_nothing : (k : ℕ) (g : Option Signature) → (call_of (λ ts. None) k g >>= call_value) ≡ None
function_nothing k None = refl
function_nothing k (Some (Sign y parameters result)) = refl

function_all : (fs : List Signature) (k : ℕ) (o : Option (List Value)) → (call_of (λ ts. o >>= λ vs. given_all vs ts) k (signature fs k) >>= call_value) ≡ (o >>= called_as fs (callees.Function k))
function_all fs k None = function_nothing k (signature fs k)
function_all fs k (Some vs) = refl

called_is : (fs : List Signature) (s : Scope) (x : List ℕ) (o : Option (List Value)) (v f : Option ℕ) → variable_named s x ≡ v → function_in fs x ≡ f → called fs s x (λ ts. o >>= λ vs. given_all vs ts) (o >>= only_of) ≡ (callee_in fs s x >>= λ c. o >>= called_as fs c)
unfolding called call_in
called_is fs s x o (Some k) (Some j) e g = rw (g, e) refl
called_is fs s x o (Some k) None e g = rw (g, e) refl
called_is fs s x o None (Some j) e g = rw (g, e, g) (function_all fs j o)
called_is fs s x o None None e g = rw (g, e) (measure_all fs x o)

call_is : (fs : List Signature) (s : Scope) (x : List ℕ) (es : Trees) → value_in fs s (tree.Call x es) ≡ (callee_in fs s x >>= λ c. values_in fs s es >>= called_as fs c)
unfolding value_in
call_is fs s x es =
    ap (λ a. called fs s x a (only_in fs s es)) (fun_ext (arguments_is fs s es)) ∙ ap (called fs s x (λ ts. values_in fs s es >>= λ vs. given_all vs ts)) (only_is fs s es) ∙ called_is fs s x (values_in fs s es) (variable_named s x) (function_in fs x) refl refl

pub call_view : (fs : List Signature) (s : Scope) (x : Box (Vec ℕ Global) Global) (es : Vec code_expr.Expr Global) → value_in fs s (tree_of (exprs.Call x es)) ≡ (callee_in fs s x.value.items >>= λ c. values_in fs s (trees_of es.items) >>= called_as fs c)
call_view fs s x es = ap (value_in fs s) (tree_call x es) ∙ call_is fs s x.value.items (trees_of es.items)

-- arguments of another number than the parameters
given_other : (vs : List code_operand.Operand) (ps : List code_type.Type) → (length vs ≡ length ps → ⊥) → given_all (meanings_of vs) (types_of ps) ≡ None
given_other [] [] other = absurd (other refl)
given_other [] (p ∷ ps) other = refl
given_other (v ∷ vs) [] other = refl
given_other (v ∷ vs) (p ∷ ps) other =
    let rest : given_all (meanings_of vs) (types_of ps) ≡ None = given_other vs ps (λ e. other (omega (arith, e))) in
    ap (λ r. given (ty_of p) (meaning_of v) >>= λ q. r >>= λ ps. Some (more q ps)) rest ∙ then_none (given (ty_of p) (meaning_of v))

pub wrong_count : (vs : List code_operand.Operand) (ps : List code_type.Type) (m n : ℕ) → m ≡ length vs → n ≡ length ps → (m ≡ n → ⊥) → given_all (meanings_of vs) (types_of ps) ≡ None
wrong_count vs ps m n e f other = given_other vs ps (λ g. other (e ∙ g ∙ sym f))

pub not_one : (vs : List code_operand.Operand) (n : ℕ) → n ≡ length vs → (n ≡ 1 → ⊥) → only_of (meanings_of vs) ≡ None
not_one [] n e other = refl
not_one (v ∷ []) n e other = absurd (other (omega (arith, e)))
not_one (v ∷ (w ∷ vs)) n e other = refl

-- the loop over the parameters
pub after_terms : (o : Option Exprs) (ts : List checked_expr.Expr) (t : checked_expr.Expr) → (o >>= λ ps. Some (terms_before (ts ++ (t ∷ [])) ps)) ≡ ((o >>= λ ps. Some (more (expr_of t) ps)) >>= λ ps. Some (terms_before ts ps))
after_terms (Some ps) ts t = ap Some (before_push ts t ps)
after_terms None ts t = refl

pub front_types : (ps : List code_type.Type) (i : ℕ) (p : code_type.Type) → i < length ps → p ≡ get_or ps i p → types_of (drop i ps) ≡ ty_of p ∷ types_of (drop (i + 1) ps)
front_types ps i p lt e =
    let f : drop i ps ≡ get_or ps i p ∷ drop (i + 1) ps = rw (add-one, drop-cons ps i p) in
    ap types_of f ∙ ap (λ p. ty_of p ∷ types_of (drop (i + 1) ps)) (sym e)

module _ (ps : List code_type.Type) (i : ℕ) (vs : List code_operand.Operand) (ts : List checked_expr.Expr) (o : Option Exprs) (so_far : (given_all (meanings_of vs) (types_of (drop i ps)) >>= λ ps. Some (terms_before ts ps)) ≡ o) where
  pub given_on : (p : code_type.Type) (v : code_operand.Operand) (rest : List code_operand.Operand) (t : checked_expr.Expr) (new : List checked_expr.Expr) → i < length ps → p ≡ get_or ps i p → vs ≡ v ∷ rest → given (ty_of p) (meaning_of v) ≡ Some (expr_of t) → new ≡ ts ++ (t ∷ []) → (given_all (meanings_of rest) (types_of (drop (i + 1) ps)) >>= λ ps. Some (terms_before new ps)) ≡ o
  given_on p v rest t new lt is popped gives pushed =
      let r = given_all (meanings_of rest) (types_of (drop (i + 1) ps)) in
      ap (λ l. r >>= λ ps. Some (terms_before l ps)) pushed ∙ after_terms r ts t ∙ sym (ap (λ g. (g >>= λ q. r >>= λ ps. Some (more q ps)) >>= λ ps. Some (terms_before ts ps)) gives)
      ∙ sym (ap (λ l. given_all (meanings_of l) (types_of (drop i ps)) >>= λ ps. Some (terms_before ts ps)) popped ∙ ap (λ l. given_all (meanings_of (v ∷ rest)) l >>= λ ps. Some (terms_before ts ps)) (front_types ps i p lt is)) ∙ so_far

  pub given_end : length ps ≤ i → length vs ≡ 0 → o ≡ Some (exprs_of ts)
  given_end le none_left = ending vs none_left (sym so_far)
    where
      ending : (ws : List code_operand.Operand) → length ws ≡ 0 → o ≡ (given_all (meanings_of ws) (types_of (drop i ps)) >>= λ ps. Some (terms_before ts ps)) → o ≡ Some (exprs_of ts)
      ending [] e h = h ∙ ap (λ l. given_all [] (types_of l) >>= λ ps. Some (terms_before ts ps)) (drop_all i ps le) ∙ ap Some (before_none ts)
      ending (w ∷ ws) e h = absurd (omega (arith, e))

  pub given_over : length ps ≤ i → (length vs ≡ 0 → ⊥) → o ≡ None
  given_over le some_left = over vs some_left (sym so_far)
    where
      over : (ws : List code_operand.Operand) → (length ws ≡ 0 → ⊥) → o ≡ (given_all (meanings_of ws) (types_of (drop i ps)) >>= λ ps. Some (terms_before ts ps)) → o ≡ None
      over [] e h = absurd (e refl)
      over (w ∷ ws) e h = h ∙ ap (λ l. given_all (meanings_of (w ∷ ws)) (types_of l) >>= λ ps. Some (terms_before ts ps)) (drop_all i ps le)

no_arguments : (k : ℕ) (g : Option Signature) → call_of (λ ts. None) k g ≡ None
no_arguments k None = refl
no_arguments k (Some (Sign y parameters result)) = refl

call_all : (k : ℕ) (g : Option Signature) (o : Option (List Value)) → call_of (λ ts. o >>= λ vs. given_all vs ts) k g ≡ (o >>= λ vs. call_of (given_all vs) k g)
call_all k g None = no_arguments k g
call_all k g (Some vs) = refl

named_all : (fs : List Signature) (s : Scope) (x : List ℕ) (es : Trees) (v f : Option ℕ) → variable_named s x ≡ v → function_in fs x ≡ f → call_in fs s x (λ ts. values_in fs s es >>= λ vs. given_all vs ts) ≡ call_named fs s x es
unfolding call_in
named_all fs s x es (Some k) (Some j) e g = rw (g, e) refl
named_all fs s x es (Some k) None e g = rw (g, e) refl
named_all fs s x es None (Some j) e g = rw (g, e) (call_all j (signature fs j) (values_in fs s es))
named_all fs s x es None None e g = rw (g, e) refl

pub call_named_is : (fs : List Signature) (s : Scope) (x : List ℕ) (es : Trees) → call_named fs s x es ≡ call_in fs s x (arguments_in fs s es)
call_named_is fs s x es =
    sym (ap (call_in fs s x) (fun_ext (arguments_is fs s es)) ∙ named_all fs s x es (variable_named s x) (function_in fs x) refl refl)

-- a call in an expression
call_values : (fs : List Signature) (s : Scope) (e : code_expr.Expr) (x : Box (Vec ℕ Global) Global) (all : Vec code_expr.Expr Global) (y : List ℕ) (c : Callee) (es : List code_expr.Expr) → e ≡ exprs.Call x all → y ≡ x.value.items → es ≡ all.items → callee_in fs s y ≡ Some c → value_in fs s (tree_of e) ≡ (values_in fs s (trees_of es) >>= called_as fs c)
call_values fs s e x all y c es is same listed found =
    ap (λ e. value_in fs s (tree_of e)) is ∙ call_view fs s x all ∙ ap (λ o. o >>= λ c. values_in fs s (trees_of all.items) >>= called_as fs c) (ap (callee_in fs s) (sym same) ∙ found) ∙ ap (λ l. values_in fs s (trees_of l) >>= called_as fs c) (sym listed)

pub call_rejected : (fs : List Signature) (s : Scope) (e : code_expr.Expr) (x : Box (Vec ℕ Global) Global) (all : Vec code_expr.Expr Global) (y : List ℕ) (c : Callee) (es : List code_expr.Expr) (f : RuleError) → e ≡ exprs.Call x all → y ≡ x.value.items → es ≡ all.items → callee_in fs s y ≡ Some c → Rejects f (values_in fs s (trees_of es)) → Rejects f (value_in fs s (tree_of e))
call_rejected fs s e x all y c es (faults.Broken code) is same listed found a = call_values fs s e x all y c es is same listed found ∙ ap (λ o. o >>= called_as fs c) a
call_rejected fs s e x all y c es faults.Memory is same listed found a = tt

pub call_agrees : (fs : List Signature) (s : Scope) (e : code_expr.Expr) (x : Box (Vec ℕ Global) Global) (all : Vec code_expr.Expr Global) (y : List ℕ) (c : Callee) (es : List code_expr.Expr) (vs : List code_operand.Operand) (r : Result code_operand.Operand RuleError) → e ≡ exprs.Call x all → y ≡ x.value.items → es ≡ all.items → callee_in fs s y ≡ Some c → values_in fs s (trees_of es) ≡ Some (meanings_of vs) → Agrees meaning_of r (called_as fs c (meanings_of vs)) → Agrees meaning_of r (value_in fs s (tree_of e))
call_agrees fs s e x all y c es vs r is same listed found a h =
    subst (λ o. Agrees meaning_of r o) (sym (call_values fs s e x all y c es is same listed found ∙ ap (λ o. o >>= called_as fs c) a)) h

-- the loop over expressions
meanings_push : (ws : List code_operand.Operand) (v : code_operand.Operand) (vs : List Value) → meanings_of (ws ++ (v ∷ [])) ++ vs ≡ meanings_of ws ++ (meaning_of v ∷ vs)
meanings_push [] v vs = refl
meanings_push (w ∷ ws) v vs = ap (λ l. meaning_of w ∷ l) (meanings_push ws v vs)

after_values : (o : Option (List Value)) (ws : List code_operand.Operand) (v : code_operand.Operand) → (o >>= λ vs. Some (meanings_of (ws ++ (v ∷ [])) ++ vs)) ≡ ((o >>= λ vs. Some (meaning_of v ∷ vs)) >>= λ vs. Some (meanings_of ws ++ vs))
after_values (Some vs) ws v = ap Some (meanings_push ws v vs)
after_values None ws v = refl

pub front_trees : (es : List code_expr.Expr) (i : ℕ) (e : code_expr.Expr) → i < length es → e ≡ get_or es i e → trees_of (drop i es) ≡ tree.more (tree_of e) (trees_of (drop (i + 1) es))
front_trees es i e lt is =
    let f : drop i es ≡ get_or es i e ∷ drop (i + 1) es = rw (add-one, drop-cons es i e) in
    ap trees_of f ∙ ap (λ e. tree.more (tree_of e) (trees_of (drop (i + 1) es))) (sym is)

module _ (fs : List Signature) (s : Scope) (es : List code_expr.Expr) (i : ℕ) (ws : List code_operand.Operand) (o : Option (List Value)) (so_far : (values_in fs s (trees_of (drop i es)) >>= λ vs. Some (meanings_of ws ++ vs)) ≡ o) where
  pub value_on : (e : code_expr.Expr) (v : code_operand.Operand) (new : List code_operand.Operand) → i < length es → e ≡ get_or es i e → value_in fs s (tree_of e) ≡ Some (meaning_of v) → new ≡ ws ++ (v ∷ []) → (values_in fs s (trees_of (drop (i + 1) es)) >>= λ vs. Some (meanings_of new ++ vs)) ≡ o
  value_on e v new lt is gives pushed =
      let r = values_in fs s (trees_of (drop (i + 1) es)) in
      ap (λ l. r >>= λ vs. Some (meanings_of l ++ vs)) pushed ∙ after_values r ws v ∙ sym (ap (λ g. (g >>= λ u. r >>= λ vs. Some (u ∷ vs)) >>= λ vs. Some (meanings_of ws ++ vs)) gives)
      ∙ sym (ap (λ l. values_in fs s l >>= λ vs. Some (meanings_of ws ++ vs)) (front_trees es i e lt is)) ∙ so_far

  pub all_values : length es ≤ i → o ≡ Some (meanings_of ws)
  all_values le =
      sym so_far ∙ ap (λ l. values_in fs s (trees_of l) >>= λ vs. Some (meanings_of ws ++ vs)) (drop_all i es le) ∙ ap Some (append-nil (meanings_of ws))
