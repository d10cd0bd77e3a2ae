-- Names on the left in the order of the code.
use Rattle.std.proofs.lemmas.Bool.{cases_Bool}
use Rattle.std.proofs.Common.{◌≡◌, ℕ, Bool, true, false, List, [], ◌∷◌, refl, ap, sym, ◌∙◌, true≢false, inl, inr}
use Rattle.std.specs.Prelude.{Option, Some, None, ◌&&◌}
use Rattle.std.proofs.Math.Path.{fun_ext}
use Rattle.gr_tree.specs.declared.expr.UnaryOp.TheVariants as unaries
use Rattle.gr_tree.specs.Exprs as tree
use Rattle.gr_tree.specs.Exprs.{Tree, Trees}
use Rattle.gr_program.specs.Types.{Ty, BoolType}
use Rattle.gr_program.specs.Programs.{zero_of, Expr, Exprs, more, AssignReceive}
use Rattle.gr_typing.specs.Names.{is_blank}
use Rattle.gr_typing.specs.Scopes.{Scope, variable_named, type_of_variable, is_here, Signature}
use Rattle.gr_typing.specs.Values.{Value}
use Rattle.gr_exprs.specs.Finding.{◌>>=◌, where_true, Typed, typed, given, value_in}
use Rattle.gr_types.specs.FindingStatements.{variable_in, Given, to_variable, given_to, with_given, all_given, Defined, newly, in_scope, defined_by, with_defined, all_defined, receive_in, taken_by, takes, takes_new, all_take, all_take_new, Done, pair_of, assigned, assign_both, assign_by, define_both, define_by}
use Rattle.gr_types.specs.Taking.{target, targets, fit, fits, is_wide, accepts, all_accept, Taker, Old, old_taker, taker, takers, new_share, share, with_share, shares, settled, all_settled, same_count, is_receive, values_for, assign_values, assign_received, shared_done, define_values, define_received}
use Rattle.gr_exprs.proofs.Basics.{then_none}
use Rattle.gr_types.proofs.NewNames.{named_after}

-- a value that is given to a name
abbrev no_place : Expr → Option Given
no_place p = Some (None, p)

blank_given : (o : Option Typed) → (o >>= λ w. no_place w.1) ≡ ((o >>= λ w. Some w.1) >>= no_place)
blank_given (Some w) = refl
blank_given None = refl

typed_given : (k : ℕ) (v : Value) (o : Option Ty) → ((o >>= λ t. Some (k, t)) >>= to_variable v) ≡ ((o >>= λ t. given t v) >>= λ p. Some (Some k, p))
typed_given k v (Some t) = refl
typed_given k v None = refl

variable_given : (s : Scope) (v : Value) (o : Option ℕ) → ((o >>= λ k. type_of_variable s k >>= λ t. Some (k, t)) >>= to_variable v) ≡ ((o >>= λ k. Some (Some k)) >>= λ k. fit s k v >>= λ p. Some (k, p))
variable_given s v (Some k) = typed_given k v (type_of_variable s k)
variable_given s v None = refl

given_to_is : (s : Scope) (x : List ℕ) (v : Value) → given_to s x v ≡ (target s x >>= λ k. fit s k v >>= λ p. Some (k, p))
unfolding given_to variable_in
given_to_is s x v = elim (cases_Bool (is_blank x)) [
  | inl b ↦ rw b (blank_given (typed v))
  | inr b ↦ rw b (variable_given s v (variable_named s x))
]

-- the values of as many expressions
values_more : (fs : List Signature) (s : Scope) (x : List ℕ) (xs : List (List ℕ)) (e : Tree) (es : Trees) → values_for fs s (x ∷ xs) (tree.more e es) ≡ (value_in fs s e >>= λ v. values_for fs s xs es >>= λ vs. Some (v ∷ vs))
values_more fs s x xs e es = elim (cases_Bool (same_count xs es)) [
  | inl c ↦ rw c refl
  | inr c ↦ rw c (sym (then_none (value_in fs s e)))
]

-- values given to names, one after another
given_nothing : (k : Option ℕ) (o : Option Expr) → ((o >>= λ p. Some (k, p)) >>= λ g. ◌>>=◌ {A = List (Option ℕ) × Exprs} None (λ rest. Some (with_given g rest))) ≡ None
given_nothing k (Some p) = refl
given_nothing k None = refl

given_both : (k : Option ℕ) (ks : List (Option ℕ)) (o : Option Expr) (r : Option Exprs) → ((o >>= λ p. Some (k, p)) >>= λ g. (r >>= λ ps. Some (ks, ps)) >>= λ rest. Some (with_given g rest)) ≡ ((o >>= λ p. r >>= λ ps. Some (more p ps)) >>= λ ps. Some (k ∷ ks, ps))
given_both k ks None r = refl
given_both k ks (Some p) None = refl
given_both k ks (Some p) (Some ps) = refl

given_more : (s : Scope) (v : Option Value) (k : Option (Option ℕ)) (ks : Option (List (Option ℕ))) (vs : Option (List Value)) → (v >>= (λ v. k >>= λ k. fit s k v >>= λ p. Some (k, p)) >>= λ g. (ks >>= λ ks. vs >>= fits s ks >>= λ ps. Some (ks, ps)) >>= λ rest. Some (with_given g rest)) ≡ ((k >>= λ k. ks >>= λ ks. Some (k ∷ ks)) >>= λ ks. (v >>= λ v. vs >>= λ vs. Some (v ∷ vs)) >>= fits s ks >>= λ ps. Some (ks, ps))
given_more s None None ks vs = refl
given_more s (Some v) None ks vs = refl
given_more s None (Some k) None vs = refl
given_more s (Some v) (Some k) None vs = given_nothing k (fit s k v)
given_more s None (Some k) (Some ks) vs = refl
given_more s (Some v) (Some k) (Some ks) None = given_nothing k (fit s k v)
given_more s (Some v) (Some k) (Some ks) (Some vs) = given_both k ks (fit s k v) (fits s ks vs)

all_given_is : (fs : List Signature) (s : Scope) (xs : List (List ℕ)) (es : Trees) → all_given fs s xs es ≡ (targets s xs >>= λ ks. values_for fs s xs es >>= fits s ks >>= λ ps. Some (ks, ps))
unfolding all_given
all_given_is fs s [] tree.none = refl
all_given_is fs s [] (tree.more e es) = refl
all_given_is fs s (x ∷ xs) tree.none = sym (then_none (targets s (x ∷ xs)))
all_given_is fs s (x ∷ xs) (tree.more e es) =
    ap (λ f. value_in fs s e >>= f >>= λ g. all_given fs s xs es >>= λ rest. Some (with_given g rest)) (fun_ext (given_to_is s x))
    ∙ ap (λ r. value_in fs s e >>= (λ v. target s x >>= λ k. fit s k v >>= λ p. Some (k, p)) >>= λ g. r >>= λ rest. Some (with_given g rest)) (all_given_is fs s xs es)
    ∙ given_more s (value_in fs s e) (target s x) (targets s xs) (values_for fs s xs es)
    ∙ ap (λ w. targets s (x ∷ xs) >>= λ ks. w >>= fits s ks >>= λ ps. Some (ks, ps)) (sym (values_more fs s x xs e es))

abbrev done_in : Scope → List (Option ℕ) × Exprs → Option Done
done_in s g = Some (assigned g, s)

given_done : (s : Scope) (ks : List (Option ℕ)) (o : Option Exprs) → ((o >>= λ ps. Some (ks, ps)) >>= done_in s) ≡ (o >>= λ ps. done_in s (ks, ps))
given_done s ks (Some ps) = refl
given_done s ks None = refl

all_done : (s : Scope) (ks : Option (List (Option ℕ))) (vs : Option (List Value)) → ((ks >>= λ ks. vs >>= fits s ks >>= λ ps. Some (ks, ps)) >>= done_in s) ≡ (ks >>= λ ks. vs >>= fits s ks >>= λ ps. done_in s (ks, ps))
all_done s None vs = refl
all_done s (Some ks) None = refl
all_done s (Some ks) (Some vs) = given_done s ks (fits s ks vs)

pub assign_values_is : (fs : List Signature) (s : Scope) (xs : List (List ℕ)) (es : Trees) → assign_values fs s xs es ≡ assign_by fs s xs es None
assign_values_is fs s xs es =
    sym (ap (λ o. o >>= done_in s) (all_given_is fs s xs es) ∙ all_done s (targets s xs) (values_for fs s xs es))

-- names that take values of known types
typed_taken : (k : ℕ) (t : Ty) (o : Option Ty) → ((o >>= λ u. Some (k, u)) >>= taken_by t) ≡ where_true (is_wide o t) (Some k)
typed_taken k t (Some u) = refl
typed_taken k t None = refl

variable_taken : (s : Scope) (t : Ty) (o : Option ℕ) → ((o >>= λ k. type_of_variable s k >>= λ u. Some (k, u)) >>= taken_by t) ≡ ((o >>= λ k. Some (Some k)) >>= λ k. where_true (accepts s k t) k)
variable_taken s t (Some k) = typed_taken k t (type_of_variable s k)
variable_taken s t None = refl

pub takes_is : (s : Scope) (x : List ℕ) (t : Ty) → takes s x t ≡ (target s x >>= λ k. where_true (accepts s k t) k)
unfolding takes variable_in
takes_is s x t = elim (cases_Bool (is_blank x)) [
  | inl b ↦ rw b refl
  | inr b ↦ rw b (variable_taken s t (variable_named s x))
]

take_more : (s : Scope) (t : Ty) (ts : List Ty) (k : Option (Option ℕ)) (ks : Option (List (Option ℕ))) → ((k >>= λ k. where_true (accepts s k t) k) >>= λ k. (ks >>= λ ks. where_true (all_accept s ks ts) ks) >>= λ ks. Some (k ∷ ks)) ≡ ((k >>= λ k. ks >>= λ ks. Some (k ∷ ks)) >>= λ ks. where_true (all_accept s ks (t ∷ ts)) ks)
take_more s t ts None ks = refl
take_more s t ts (Some k) None = elim (cases_Bool (accepts s k t)) [ inl a ↦ rw a refl | inr a ↦ rw a refl ]
take_more s t ts (Some k) (Some ks) = elim (cases_Bool (accepts s k t)) [
  | inl a ↦ elim (cases_Bool (all_accept s ks ts)) [ inl b ↦ rw (a, b) refl | inr b ↦ rw (a, b) refl ]
  | inr a ↦ rw a refl
]

take_none : (s : Scope) (k : Option (Option ℕ)) (ks : Option (List (Option ℕ))) → None ≡ ((k >>= λ k. ks >>= λ ks. Some (k ∷ ks)) >>= λ ks. where_true (all_accept s ks []) ks)
take_none s None ks = refl
take_none s (Some k) None = refl
take_none s (Some k) (Some ks) = refl

pub all_take_is : (s : Scope) (xs : List (List ℕ)) (ts : List Ty) → all_take s xs ts ≡ (targets s xs >>= λ ks. where_true (all_accept s ks ts) ks)
unfolding all_take
all_take_is s [] ts = refl
all_take_is s (x ∷ xs) [] = take_none s (target s x) (targets s xs)
all_take_is s (x ∷ xs) (t ∷ ts) =
    ap (λ o. o >>= λ k. all_take s xs ts >>= λ ks. Some (k ∷ ks)) (takes_is s x t)
    ∙ ap (λ r. (target s x >>= λ k. where_true (accepts s k t) k) >>= λ k. r >>= λ ks. Some (k ∷ ks)) (all_take_is s xs ts)
    ∙ take_more s t ts (target s x) (targets s xs)

-- definitions
abbrev settled_share : List ℕ → Scope → Taker × Expr → Defined
settled_share x m p = (((settled x p.0 m).0, p.1), (settled x p.0 m).1)

abbrev all_shared : List (List ℕ) → Scope → List Taker × Exprs → (List (Option ℕ) × Exprs) × Scope
all_shared xs m p = (((all_settled xs p.0 m).0, p.1), (all_settled xs p.0 m).1)

blank_defined : (x : List ℕ) (m : Scope) (o : Option Typed) → ((o >>= λ w. Some (None, w.1)) >>= in_scope m) ≡ (((o >>= λ w. Some w.1) >>= λ p. Some (Old None, p)) >>= λ p. Some (settled_share x m p))
blank_defined x m (Some w) = refl
blank_defined x m None = refl

abbrev with_old : Option ℕ → Expr → Option (Taker × Expr)
with_old k p = Some (Old k, p)

old_given : (x : List ℕ) (m : Scope) (k : ℕ) (o : Option Expr) → ((o >>= λ p. Some (Some k, p)) >>= in_scope m) ≡ ((o >>= λ p. Some (Old (Some k), p)) >>= λ p. Some (settled_share x m p))
old_given x m k (Some p) = refl
old_given x m k None = refl

old_typed : (x : List ℕ) (m : Scope) (v : Value) (k : ℕ) (o : Option Ty) → (((o >>= λ t. Some (k, t)) >>= to_variable v) >>= in_scope m) ≡ (((o >>= λ t. given t v) >>= λ p. Some (Old (Some k), p)) >>= λ p. Some (settled_share x m p))
old_typed x m v k (Some t) = old_given x m k (given t v)
old_typed x m v k None = refl

old_defined : (s : Scope) (x : List ℕ) (m : Scope) (v : Value) (o : Option ℕ) → (((o >>= λ k. type_of_variable s k >>= λ t. Some (k, t)) >>= to_variable v) >>= in_scope m) ≡ (((o >>= λ k. Some (Some k)) >>= λ k. fit s k v >>= λ p. with_old k p) >>= λ p. Some (settled_share x m p))
old_defined s x m v (Some k) = old_typed x m v k (type_of_variable s k)
old_defined s x m v None = refl

newly_is : (x : List ℕ) (m : Scope) (o : Option Typed) → is_blank x ≡ false → (o >>= newly x m) ≡ ((o >>= new_share) >>= λ p. Some (settled_share x m p))
newly_is x m None b = refl
newly_is x m (Some w) b = named_after m x w.0 (λ k n. ((k, w.1), n)) b

defined_by_is : (s : Scope) (x : List ℕ) (v : Value) (m : Scope) → defined_by s x v m ≡ (share s x v >>= λ p. Some (settled_share x m p))
unfolding defined_by variable_in
defined_by_is s x v m = elim (cases_Bool (is_blank x)) [
  | inl b ↦ rw b (blank_defined x m (typed v))
  | inr b ↦ elim (cases_Bool (is_here s x)) [
    | inl h ↦ rw (b, h) (old_defined s x m v (variable_named s x))
    | inr h ↦ rw (b, h) (newly_is x m (typed v) b)
  ]
]

share_nothing : (x : List ℕ) (m : Scope) (o : Option (Taker × Expr)) → ((o >>= λ p. Some (settled_share x m p)) >>= λ d. ◌>>=◌ {A = (List (Option ℕ) × Exprs) × Scope} None (λ rest. Some (with_defined d.0 rest))) ≡ None
share_nothing x m (Some p) = refl
share_nothing x m None = refl

share_both : (x : List ℕ) (xs : List (List ℕ)) (m : Scope) (o : Option (Taker × Expr)) (r : Option (List Taker × Exprs)) → ((o >>= λ p. Some (settled_share x m p)) >>= λ d. (r >>= λ q. Some (all_shared xs d.1 q)) >>= λ rest. Some (with_defined d.0 rest)) ≡ ((o >>= λ p. r >>= λ rest. Some (with_share p rest)) >>= λ p. Some (all_shared (x ∷ xs) m p))
share_both x xs m None r = refl
share_both x xs m (Some p) None = refl
share_both x xs m (Some p) (Some q) = refl

share_more : (s : Scope) (x : List ℕ) (xs : List (List ℕ)) (m : Scope) (v : Option Value) (vs : Option (List Value)) → (v >>= λ v. (share s x v >>= λ p. Some (settled_share x m p)) >>= λ d. (vs >>= shares s xs >>= λ q. Some (all_shared xs d.1 q)) >>= λ rest. Some (with_defined d.0 rest)) ≡ ((v >>= λ v. vs >>= λ vs. Some (v ∷ vs)) >>= shares s (x ∷ xs) >>= λ p. Some (all_shared (x ∷ xs) m p))
share_more s x xs m None vs = refl
share_more s x xs m (Some v) None = share_nothing x m (share s x v)
share_more s x xs m (Some v) (Some vs) = share_both x xs m (share s x v) (shares s xs vs)

all_defined_is : (fs : List Signature) (s : Scope) (xs : List (List ℕ)) (es : Trees) (m : Scope) → all_defined fs s xs es m ≡ (values_for fs s xs es >>= shares s xs >>= λ p. Some (all_shared xs m p))
unfolding all_defined
all_defined_is fs s [] tree.none m = refl
all_defined_is fs s [] (tree.more e es) m = refl
all_defined_is fs s (x ∷ xs) tree.none m = refl
all_defined_is fs s (x ∷ xs) (tree.more e es) m =
    ap (λ f. value_in fs s e >>= λ v. f v >>= λ d. all_defined fs s xs es d.1 >>= λ rest. Some (with_defined d.0 rest)) (fun_ext (λ v. defined_by_is s x v m))
    ∙ ap (λ f. value_in fs s e >>= λ v. (share s x v >>= λ p. Some (settled_share x m p)) >>= λ d. f d.1 >>= λ rest. Some (with_defined d.0 rest)) (fun_ext (all_defined_is fs s xs es))
    ∙ share_more s x xs m (value_in fs s e) (values_for fs s xs es)
    ∙ ap (λ w. w >>= shares s (x ∷ xs) >>= λ p. Some (all_shared (x ∷ xs) m p)) (sym (values_more fs s x xs e es))

shared_is : (xs : List (List ℕ)) (s : Scope) (o : Option (List Taker × Exprs)) → ((o >>= λ p. Some (all_shared xs s p)) >>= λ g. Some (assigned g.0, g.1)) ≡ (o >>= λ p. Some (shared_done xs s p))
shared_is xs s (Some p) = refl
shared_is xs s None = refl

pub define_values_is : (fs : List Signature) (s : Scope) (xs : List (List ℕ)) (es : Trees) → define_values fs s xs es ≡ define_by fs s xs es None
define_values_is fs s xs es =
    sym (ap (λ o. o >>= λ g. Some (assigned g.0, g.1)) (all_defined_is fs s xs es s) ∙ shared_is xs s (values_for fs s xs es >>= shares s xs))

-- definitions by types
abbrev settled_by : List ℕ → Scope → Taker → Option ℕ × Scope
settled_by x m k = settled x k m

taken_in : (x : List ℕ) (m : Scope) (b : Bool) (k : Option ℕ) → (where_true b k >>= in_scope m) ≡ (where_true b (Old k) >>= λ k. Some (settled_by x m k))
taken_in x m true k = refl
taken_in x m false k = refl

old_taken : (s : Scope) (x : List ℕ) (t : Ty) (m : Scope) (o : Option (Option ℕ)) → ((o >>= λ k. where_true (accepts s k t) k) >>= in_scope m) ≡ ((o >>= λ k. where_true (accepts s k t) (Old k)) >>= λ k. Some (settled_by x m k))
old_taken s x t m (Some k) = taken_in x m (accepts s k t) k
old_taken s x t m None = refl

here_taken : (s : Scope) (x : List ℕ) (t : Ty) → is_blank x ≡ false → (variable_in s x >>= taken_by t) ≡ (target s x >>= λ k. where_true (accepts s k t) k)
unfolding variable_in
here_taken s x t b = rw b (variable_taken s t (variable_named s x))

here_defined : (s : Scope) (x : List ℕ) (t : Ty) (m : Scope) → is_blank x ≡ false → (variable_in s x >>= taken_by t >>= in_scope m) ≡ (old_taker s x t >>= λ k. Some (settled_by x m k))
here_defined s x t m b = ap (λ o. o >>= in_scope m) (here_taken s x t b) ∙ old_taken s x t m (target s x)

pub takes_new_is : (s : Scope) (x : List ℕ) (t : Ty) (m : Scope) → takes_new s x t m ≡ (taker s x t >>= λ k. Some (settled_by x m k))
unfolding takes_new
takes_new_is s x t m = elim (cases_Bool (is_blank x)) [
  | inl b ↦ rw b refl
  | inr b ↦ elim (cases_Bool (is_here s x)) [
    | inl h ↦ rw (b, h) (rw b at (here_defined s x t m b))
    | inr h ↦ rw (b, h) (named_after m x t (λ k n. (k, n)) b)
  ]
]

take_new_more : (o : Option Taker) (r : Option (List Taker)) (x : List ℕ) (xs : List (List ℕ)) (m : Scope) → ((o >>= λ k. Some (settled_by x m k)) >>= λ k. (r >>= λ ks. Some (all_settled xs ks k.1)) >>= λ ks. Some (k.0 ∷ ks.0, ks.1)) ≡ ((o >>= λ k. r >>= λ ks. Some (k ∷ ks)) >>= λ ks. Some (all_settled (x ∷ xs) ks m))
take_new_more None r x xs m = refl
take_new_more (Some k) None x xs m = refl
take_new_more (Some k) (Some ks) x xs m = refl

pub all_take_new_is : (s : Scope) (xs : List (List ℕ)) (ts : List Ty) (m : Scope) → all_take_new s xs ts m ≡ (takers s xs ts >>= λ ks. Some (all_settled xs ks m))
unfolding all_take_new
all_take_new_is s [] ts m = refl
all_take_new_is s (x ∷ xs) [] m = refl
all_take_new_is s (x ∷ xs) (t ∷ ts) m =
    ap (λ o. o >>= λ k. all_take_new s xs ts k.1 >>= λ ks. Some (k.0 ∷ ks.0, ks.1)) (takes_new_is s x t m)
    ∙ ap (λ f. (taker s x t >>= λ k. Some (settled_by x m k)) >>= λ k. f k.1 >>= λ ks. Some (k.0 ∷ ks.0, ks.1)) (fun_ext (all_take_new_is s xs ts))
    ∙ take_new_more (taker s x t) (takers s xs ts) x xs m

-- two names and one receive
pub received_none : (fs : List Signature) (s : Scope) (e : Tree) → is_receive e ≡ false → receive_in fs s e ≡ None
unfolding receive_in
received_none fs s (tree.Unary unaries.Receive e) n = absurd (true≢false n)
received_none fs s (tree.Unary unaries.Plus e) n = refl
received_none fs s (tree.Unary unaries.Negate e) n = refl
received_none fs s (tree.Unary unaries.Not e) n = refl
received_none fs s (tree.Unary unaries.Complement e) n = refl
received_none fs s (tree.Paren e) n = received_none fs s e n
received_none fs s (tree.Number m) n = refl
received_none fs s (tree.Text bytes) n = refl
received_none fs s (tree.Name x) n = refl
received_none fs s tree.UnitValue n = refl
received_none fs s (tree.Call x es) n = refl
received_none fs s (tree.Make w) n = refl
received_none fs s (tree.MakeSized w e) n = refl
received_none fs s (tree.Binary op a b) n = refl

abbrev receiving : Typed → Option ℕ → Option ℕ → Scope → Done
receiving w k l m = (AssignReceive k l w.1 (zero_of w.0), m)

both_take : (s : Scope) (o r : Option (Option ℕ)) (w : Typed) → (o >>= λ k. r >>= λ l. where_true (accepts s k w.0 && accepts s l BoolType) (receiving w k l s)) ≡ ((o >>= λ k. where_true (accepts s k w.0) k) >>= λ k. (r >>= λ l. where_true (accepts s l BoolType) l) >>= λ l. Some (receiving w k l s))
both_take s None r w = refl
both_take s (Some k) None w = elim (cases_Bool (accepts s k w.0)) [ inl a ↦ rw a refl | inr a ↦ rw a refl ]
both_take s (Some k) (Some l) w = elim (cases_Bool (accepts s k w.0)) [
  | inl a ↦ elim (cases_Bool (accepts s l BoolType)) [ inl b ↦ rw (a, b) refl | inr b ↦ rw (a, b) refl ]
  | inr a ↦ rw a refl
]

assign_both_is : (s : Scope) (pair : List ℕ × (List ℕ × Tree)) (w : Typed) → (target s pair.0 >>= λ k. target s pair.1.0 >>= λ l. where_true (accepts s k w.0 && accepts s l BoolType) (receiving w k l s)) ≡ assign_both s pair w
assign_both_is s pair w =
    both_take s (target s pair.0) (target s pair.1.0) w
    ∙ sym (ap (λ o. o >>= λ k. takes s pair.1.0 BoolType >>= λ l. Some (receiving w k l s)) (takes_is s pair.0 w.0)
    ∙ ap (λ r. (target s pair.0 >>= λ k. where_true (accepts s k w.0) k) >>= λ k. r >>= λ l. Some (receiving w k l s)) (takes_is s pair.1.0 BoolType))

swapped : {A B C D : Type 0} (o : Option A) (r : Option B) (q : Option C) (f : A → B → C → Option D) → (o >>= λ a. r >>= λ b. q >>= λ c. f a b c) ≡ (q >>= λ c. o >>= λ a. r >>= λ b. f a b c)
swapped None r q f = sym (then_none q)
swapped (Some a) None q f = sym (then_none q)
swapped (Some a) (Some b) q f = refl

pub assign_received_is : (fs : List Signature) (s : Scope) (pair : List ℕ × (List ℕ × Tree)) → assign_received fs s pair ≡ (receive_in fs s pair.1.1 >>= assign_both s pair)
assign_received_is fs s pair =
    swapped (target s pair.0) (target s pair.1.0) (receive_in fs s pair.1.1) (λ k l w. where_true (accepts s k w.0 && accepts s l BoolType) (receiving w k l s))
    ∙ ap (λ f. receive_in fs s pair.1.1 >>= f) (fun_ext (assign_both_is s pair))

both_new : (s : Scope) (x y : List ℕ) (o r : Option Taker) (w : Typed) → (o >>= λ k. r >>= λ l. Some (receiving w (settled x k s).0 (settled y l (settled x k s).1).0 (settled y l (settled x k s).1).1)) ≡ ((o >>= λ k. Some (settled_by x s k)) >>= λ k. (r >>= λ l. Some (settled_by y k.1 l)) >>= λ l. Some (receiving w k.0 l.0 l.1))
both_new s x y None r w = refl
both_new s x y (Some k) None w = refl
both_new s x y (Some k) (Some l) w = refl

define_both_is : (s : Scope) (pair : List ℕ × (List ℕ × Tree)) (w : Typed) → (taker s pair.0 w.0 >>= λ k. taker s pair.1.0 BoolType >>= λ l. Some (receiving w (settled pair.0 k s).0 (settled pair.1.0 l (settled pair.0 k s).1).0 (settled pair.1.0 l (settled pair.0 k s).1).1)) ≡ define_both s pair w
define_both_is s pair w =
    both_new s pair.0 pair.1.0 (taker s pair.0 w.0) (taker s pair.1.0 BoolType) w
    ∙ sym (ap (λ o. o >>= λ k. takes_new s pair.1.0 BoolType k.1 >>= λ l. Some (receiving w k.0 l.0 l.1)) (takes_new_is s pair.0 w.0 s)
    ∙ ap (λ f. (taker s pair.0 w.0 >>= λ k. Some (settled_by pair.0 s k)) >>= λ k. f k.1 >>= λ l. Some (receiving w k.0 l.0 l.1)) (fun_ext (takes_new_is s pair.1.0 BoolType)))

pub define_received_is : (fs : List Signature) (s : Scope) (pair : List ℕ × (List ℕ × Tree)) → define_received fs s pair ≡ (receive_in fs s pair.1.1 >>= define_both s pair)
define_received_is fs s pair =
    ap (λ f. receive_in fs s pair.1.1 >>= f) (fun_ext (define_both_is s pair))

pub assign_pair : (fs : List Signature) (s : Scope) (xs : List (List ℕ)) (es : Trees) (pair : List ℕ × (List ℕ × Tree)) → Some pair ≡ pair_of xs es → assign_received fs s pair ≡ assign_by fs s xs es (pair_of xs es)
assign_pair fs s xs es pair e = assign_received_is fs s pair ∙ ap (assign_by fs s xs es) e

pub define_pair : (fs : List Signature) (s : Scope) (xs : List (List ℕ)) (es : Trees) (pair : List ℕ × (List ℕ × Tree)) → Some pair ≡ pair_of xs es → define_received fs s pair ≡ define_by fs s xs es (pair_of xs es)
define_pair fs s xs es pair e = define_received_is fs s pair ∙ ap (define_by fs s xs es) e
