-- Names on the left in the order of the code: what each stands for, before any value. It is a stepping stone of the proofs: no
-- public clause speaks of it.
use Rattle.std.specs.Prelude.{ℕ, Bool, true, false, ◌&&◌, List, [], ◌∷◌, Option, Some, None}
use Rattle.std.proofs.Common.{cond}
use Rattle.gr_tree.specs.declared.expr.UnaryOp.TheVariants as unaries
use Rattle.gr_tree.specs.Exprs as tree
use Rattle.gr_tree.specs.Exprs.{Tree, Trees}
use Rattle.gr_program.specs.Types.{Ty, BoolType}
use Rattle.gr_typing.specs.Types.{assignable}
use Rattle.gr_program.specs.Programs.{zero_of, Expr, Exprs, none, more, AssignReceive}
use Rattle.gr_typing.specs.Names.{is_blank}
use Rattle.gr_typing.specs.Scopes.{Scope, variable_named, type_of_variable, is_old, is_free, declared, number_of, Signature}
use Rattle.gr_typing.specs.Values.{Value}
use Rattle.gr_typing.specs.Assignments.{may_define}
use Rattle.gr_exprs.specs.Finding.{◌>>=◌, where_true, Typed, typed, given}
use Rattle.gr_exprs.specs.Calling.{values_in}
use Rattle.gr_types.specs.FindingStatements.{receive_in, takes_new, Done, assigned}

-- what a name on the left of `=` stands for: a variable, or none for the blank identifier
abbrev pub target : Scope → List ℕ → Option (Option ℕ)
target s x = cond (is_blank x) (Some None) (variable_named s x >>= λ k. Some (Some k))

abbrev pub targets : Scope → List (List ℕ) → Option (List (Option ℕ))
targets s [] = Some []
targets s (x ∷ xs) = target s x >>= λ k. targets s xs >>= λ ks. Some (k ∷ ks)

-- a value that is given to it
abbrev pub given_variable : Scope → ℕ → Value → Option Expr
given_variable s k v = type_of_variable s k >>= λ t. given t v

abbrev pub fit : Scope → Option ℕ → Value → Option Expr
fit s None v = typed v >>= λ w. Some w.1
fit s (Some k) v = given_variable s k v

abbrev pub fits : Scope → List (Option ℕ) → List Value → Option Exprs
fits s [] vs = Some none
fits s (k ∷ ks) [] = None
fits s (k ∷ ks) (v ∷ vs) = fit s k v >>= λ p. fits s ks vs >>= λ ps. Some (more p ps)

-- whether it takes values of a type
abbrev pub is_wide : Option Ty → Ty → Bool
is_wide None t = false
is_wide (Some u) t = assignable t u

abbrev pub accepts : Scope → Option ℕ → Ty → Bool
accepts s None t = true
accepts s (Some k) t = is_wide (type_of_variable s k) t

abbrev pub all_accept : Scope → List (Option ℕ) → List Ty → Bool
all_accept s [] ts = true
all_accept s (k ∷ ks) [] = false
all_accept s (k ∷ ks) (t ∷ ts) = accepts s k t && all_accept s ks ts

-- what takes a value on the left of `:=`: what a name stands for already, or a new variable
pub data Taker : Type 0 where
  Old : (target : Option ℕ) → Taker
  New : (type : Ty) → Taker

abbrev pub old_taker : Scope → List ℕ → Ty → Option Taker
old_taker s x t = target s x >>= λ k. where_true (accepts s k t) (Old k)

abbrev pub taker : Scope → List ℕ → Ty → Option Taker
taker s x t = cond (is_old s x) (old_taker s x t) (Some (New t))

abbrev pub takers : Scope → List (List ℕ) → List Ty → Option (List Taker)
takers s [] ts = Some []
takers s (x ∷ xs) [] = None
takers s (x ∷ xs) (t ∷ ts) = taker s x t >>= λ k. takers s xs ts >>= λ ks. Some (k ∷ ks)

-- what takes a value on the left of `:=`, with the value's term
abbrev pub old_share : Scope → List ℕ → Value → Option (Taker × Expr)
old_share s x v = target s x >>= λ k. fit s k v >>= λ p. Some (Old k, p)

abbrev pub new_share : Typed → Option (Taker × Expr)
new_share w = Some (New w.0, w.1)

abbrev pub share : Scope → List ℕ → Value → Option (Taker × Expr)
share s x v = cond (is_old s x) (old_share s x v) (typed v >>= new_share)

abbrev pub with_share : Taker × Expr → List Taker × Exprs → List Taker × Exprs
with_share p rest = (p.0 ∷ rest.0, more p.1 rest.1)

abbrev pub shares : Scope → List (List ℕ) → List Value → Option (List Taker × Exprs)
shares s [] vs = Some ([], none)
shares s (x ∷ xs) [] = None
shares s (x ∷ xs) (v ∷ vs) = share s x v >>= λ p. shares s xs vs >>= λ rest. Some (with_share p rest)

-- the declarations of what is new, in order
abbrev pub settled : List ℕ → Taker → Scope → Option ℕ × Scope
settled x (Old k) m = (k, m)
settled x (New t) m = (number_of (declared m x t) x, declared m x t)

abbrev pub all_settled : List (List ℕ) → List Taker → Scope → List (Option ℕ) × Scope
all_settled [] ks m = ([], m)
all_settled (x ∷ xs) [] m = ([], m)
all_settled (x ∷ xs) (k ∷ ks) m =
    let first = settled x k m in
    let rest = all_settled xs ks first.1 in
    (first.0 ∷ rest.0, rest.1)

-- whether each name is free when its turn comes
abbrev pub may_settle : List ℕ → Taker → Scope → Bool
may_settle x (Old k) m = true
may_settle x (New t) m = is_free m x

abbrev pub may_settle_all : List (List ℕ) → List Taker → Scope → Bool
may_settle_all [] ks m = true
may_settle_all (x ∷ xs) [] m = true
may_settle_all (x ∷ xs) (k ∷ ks) m = may_settle x k m && may_settle_all xs ks (settled x k m).1

-- whether there are as many names as expressions
abbrev pub same_count : {A : Type 0} → List A → Trees → Bool
same_count [] tree.none = true
same_count [] (tree.more e es) = false
same_count (x ∷ xs) tree.none = false
same_count (x ∷ xs) (tree.more e es) = same_count xs es

-- whether an expression is a receive, in parentheses or not
abbrev pub is_receive : Tree → Bool
is_receive (tree.Unary unaries.Receive e) = true
is_receive (tree.Paren e) = is_receive e
is_receive e = false

-- assignments and definitions, in this order
abbrev pub values_for : List Signature → Scope → List (List ℕ) → Trees → Option (List Value)
values_for fs s xs es = where_true (same_count xs es) es >>= values_in fs s

abbrev pub assign_values : List Signature → Scope → List (List ℕ) → Trees → Option Done
assign_values fs s xs es = targets s xs >>= λ ks. values_for fs s xs es >>= fits s ks >>= λ ps. Some (assigned (ks, ps), s)

abbrev pub assign_received : List Signature → Scope → List ℕ × (List ℕ × Tree) → Option Done
assign_received fs s pair =
    target s pair.0 >>= λ k. target s pair.1.0 >>= λ l. receive_in fs s pair.1.1 >>= λ w.
    where_true (accepts s k w.0 && accepts s l BoolType) (AssignReceive k l w.1 (zero_of w.0), s)

abbrev pub shared_done : List (List ℕ) → Scope → List Taker × Exprs → Done
shared_done xs s p =
    let done = all_settled xs p.0 s in
    (assigned (done.0, p.1), done.1)

abbrev pub define_values : List Signature → Scope → List (List ℕ) → Trees → Option Done
define_values fs s xs es = values_for fs s xs es >>= shares s xs >>= λ p. Some (shared_done xs s p)

abbrev pub defined_all : Scope → List (List ℕ) → List Ty → Option (List (Option ℕ) × Scope)
defined_all s xs ts = takers s xs ts >>= λ ks. Some (all_settled xs ks s)

abbrev pub new_target : Scope → List ℕ → Ty → Option (Option ℕ × Scope)
new_target s x t = where_true (may_define s (x ∷ [])) x >>= λ x. takes_new s x t s

abbrev pub defined_one : Scope → List ℕ → Ty → Option (Option ℕ × Scope)
defined_one s x t = taker s x t >>= λ k. Some (settled x k s)

abbrev pub define_received : List Signature → Scope → List ℕ × (List ℕ × Tree) → Option Done
define_received fs s pair =
    receive_in fs s pair.1.1 >>= λ w. taker s pair.0 w.0 >>= λ k. taker s pair.1.0 BoolType >>= λ l.
    let first = settled pair.0 k s in
    let second = settled pair.1.0 l first.1 in
    Some (AssignReceive first.0 second.0 w.1 (zero_of w.0), second.1)
