-- Declarations of variables in the order of the code. It is a stepping stone of the proofs: no public clause speaks of it.
use Rattle.std.specs.Prelude.{◌≡◌, ℕ, true, List, [], ◌∷◌, Option, Some, None}
use Rattle.gr_tree.specs.Exprs.{Tree, Trees}
use Rattle.gr_program.specs.Types.{Ty, BoolType}
use Rattle.gr_typing.specs.Types.{assignable}
use Rattle.gr_program.specs.Programs.{Exprs, none, zero_of, AssignReceive}
use Rattle.gr_typing.specs.Scopes.{Scope, Signature, is_free, declared, number_of}
use Rattle.gr_typing.specs.Values.{Value}
use Rattle.gr_exprs.specs.Finding.{◌>>=◌, where_true, Typed}
use Rattle.gr_exprs.specs.Calling.{values_in}
use Rattle.gr_types.specs.FindingStatements.{Done, Defined, with_defined, declared_as, receive_in, assigned}

-- names that may be declared one after the other, whatever their types
abbrev pub Declarable : Scope → List (List ℕ) → Type 0
Declarable s [] = Unit {0}
Declarable s (x ∷ xs) = (is_free s x ≡ true) × ((t : Ty) → Declarable (declared s x t) xs)

-- a name declared by a value, and names by their values
abbrev pub placed : Option Ty → List ℕ → Value → Scope → Option Defined
placed t x v m = declared_as t v >>= λ w. Some ((number_of (declared m x w.0) x, w.1), declared m x w.0)

abbrev pub all_placed : Option Ty → List (List ℕ) → List Value → Scope → Option ((List (Option ℕ) × Exprs) × Scope)
all_placed t [] [] m = Some (([], none), m)
all_placed t [] (v ∷ vs) m = None
all_placed t (x ∷ xs) [] m = None
all_placed t (x ∷ xs) (v ∷ vs) m = placed t x v m >>= λ d. all_placed t xs vs d.1 >>= λ rest. Some (with_defined d.0 rest)

abbrev pub by_values : List Signature → Scope → List (List ℕ) → Option Ty → Trees → Option Done
by_values fs s xs t es = values_in fs s es >>= λ vs. all_placed t xs vs s >>= λ g. Some (assigned g.0, g.1)

-- the type of a variable that takes a value of a type
abbrev pub type_for : Option Ty → Ty → Option Ty
type_for None t = Some t
type_for (Some u) t = where_true (assignable t u) u

-- two names declared by a receive
abbrev pub both_declared : Scope → List ℕ → List ℕ → Ty → Ty → Scope
both_declared s x y t u = declared (declared s x t) y u

abbrev pub both_received : Typed → List ℕ → List ℕ → Scope → Option Done
both_received w x y n = Some (AssignReceive (number_of n x) (number_of n y) w.1 (zero_of w.0), n)

abbrev pub by_receive : List Signature → Scope → List ℕ → List ℕ → Option Ty → Tree → Option Done
by_receive fs s x y t e =
    receive_in fs s e >>= λ w. type_for t w.0 >>= λ a. type_for t BoolType >>= λ b. both_received w x y (both_declared s x y a b)
