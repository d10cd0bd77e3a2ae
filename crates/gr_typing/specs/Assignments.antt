-- Assignments and declarations of variables (Go: Assignment statements, Short variable declarations, Variable declarations).
use Rattle.std.specs.List.{list_all}
use Rattle.std.specs.Prelude.{◌≡◌, ℕ, Bool, true, false, not, ◌&&◌, List, [], ◌∷◌, Option, Some, None}
use Rattle.gr_tree.specs.Exprs.{WrittenType, Tree, Trees}
use Rattle.gr_tree.specs.Exprs as tree
use Rattle.gr_program.specs.Programs.{zero_of, Expr, Literally, Exprs, none, more}
use Rattle.gr_program.specs.Types.{Ty}
use Rattle.gr_typing.specs.Names.{is_blank}
use Rattle.gr_typing.specs.Scopes.{Scope, variable_named, type_of_variable, is_here, is_old, is_free, declare, declared, number_of, Signature, may_name}
use Rattle.gr_typing.specs.Types.{type_written, assignable}
use Rattle.gr_typing.specs.Values.{Value, HasType, Fits, IsValue}

-- the variable that a name stands for, and its type; the blank identifier stands for none
pub data HasVariable : Scope → List ℕ → ℕ → Ty → Type 0 where
  has : {s : Scope} {x : List ℕ} {k : ℕ} {t : Ty}
      → is_blank x ≡ false
      → variable_named s x ≡ Some k
      → type_of_variable s k ≡ Some t
      → HasVariable s x k t

-- a value given to a name on the left of `=`: the blank identifier takes a value of any type
pub data IsGiven (s : Scope) : List ℕ → Value → Option ℕ → Expr → Type 0 where
  to_blank : {x : List ℕ} {v : Value} {t : Ty} {p : Expr} → is_blank x ≡ true → HasType v t p → IsGiven s x v None p
  to_variable : {x : List ℕ} {v : Value} {k : ℕ} {t : Ty} {p : Expr}
      → HasVariable s x k t → Fits v t p → IsGiven s x v (Some k) p

-- the values of expressions given to names, each to its own, in one scope
pub data AreGiven (fs : List Signature) (s : Scope) : List (List ℕ) → Trees → List (Option ℕ) → Exprs → Type 0 where
  no_given : AreGiven fs s [] tree.none [] none
  given : {x : List ℕ} {xs : List (List ℕ)} {e : Tree} {es : Trees} {v : Value} {k : Option ℕ} {ks : List (Option ℕ)}
      {p : Expr} {ps : Exprs}
      → IsValue fs s e v
      → IsGiven s x v k p
      → AreGiven fs s xs es ks ps
      → AreGiven fs s (x ∷ xs) (tree.more e es) (k ∷ ks) (more p ps)

-- A name on the left of `:=`, seen from the scope s before the statement. One that the block declares already is assigned.
-- The blank identifier keeps nothing. Every other name is declared, with its value's own type. After the names before it
-- the scope is m, and n after this one.
pub data IsDefined (s : Scope) : List ℕ → Value → Scope → Option ℕ → Expr → Scope → Type 0 where
  blank : {x : List ℕ} {v : Value} {t : Ty} {p : Expr} {m : Scope}
      → is_blank x ≡ true → HasType v t p → IsDefined s x v m None p m
  old : {x : List ℕ} {v : Value} {k : ℕ} {t : Ty} {p : Expr} {m : Scope}
      → is_here s x ≡ true → HasVariable s x k t → Fits v t p → IsDefined s x v m (Some k) p m
  new : {x : List ℕ} {v : Value} {k : ℕ} {t : Ty} {p : Expr} {m : Scope}
      → is_blank x ≡ false → is_here s x ≡ false → HasType v t p
      → variable_named (declare m x t) x ≡ Some k
      → IsDefined s x v m (Some k) p (declare m x t)

pub data AreDefined (fs : List Signature) (s : Scope) : List (List ℕ) → Trees → Scope → List (Option ℕ) → Exprs
    → Scope → Type 0 where
  no_defined : {m : Scope} → AreDefined fs s [] tree.none m [] none m
  defined : {x : List ℕ} {xs : List (List ℕ)} {e : Tree} {es : Trees} {v : Value} {m n o : Scope} {k : Option ℕ}
      {ks : List (Option ℕ)} {p : Expr} {ps : Exprs}
      → IsValue fs s e v
      → IsDefined s x v m k p n
      → AreDefined fs s xs es n ks ps o
      → AreDefined fs s (x ∷ xs) (tree.more e es) m (k ∷ ks) (more p ps) o

-- names that `:=` may have on its left: none twice, none predeclared, and at least one that is new
abbrev pub may_define : Scope → List (List ℕ) → Bool
may_define s names = may_name names && not (list_all (is_old s) names)

-- names that `var` may have: none twice, none predeclared, none that the block declares already
abbrev pub may_declare : Scope → List (List ℕ) → Bool
may_declare s names = may_name names && list_all (is_free s) names

-- names declared with one type, and their values
abbrev pub all_declared : Scope → List (List ℕ) → Ty → Scope
all_declared s [] t = s
all_declared s (x ∷ xs) t = all_declared (declared s x t) xs t

abbrev pub zeros : List (List ℕ) → Ty → Exprs
zeros [] t = none
zeros (x ∷ xs) t = more (Literally (zero_of t)) (zeros xs t)

-- the type that a `var` gives to a name: the one that is written, or the value's own
pub data IsDeclaredAs : Option Ty → Value → Ty → Expr → Type 0 where
  written : {v : Value} {t : Ty} {p : Expr} → Fits v t p → IsDeclaredAs (Some t) v t p
  inferred : {v : Value} {t : Ty} {p : Expr} → HasType v t p → IsDeclaredAs None v t p

-- the values of expressions for the names of a `var`, in the scope s before it; each name is declared after those before it
pub data AreDeclared (fs : List Signature) (s : Scope) (written : Option Ty) : List (List ℕ) → Trees → Scope
    → List (Option ℕ) → Exprs → Scope → Type 0 where
  no_declared : {m : Scope} → AreDeclared fs s written [] tree.none m [] none m
  one_declared : {x : List ℕ} {xs : List (List ℕ)} {e : Tree} {es : Trees} {v : Value} {t : Ty} {m o : Scope}
      {ks : List (Option ℕ)} {p : Expr} {ps : Exprs}
      → IsValue fs s e v
      → IsDeclaredAs written v t p
      → AreDeclared fs s written xs es (declared m x t) ks ps o
      → AreDeclared fs s written (x ∷ xs) (tree.more e es) m (number_of (declared m x t) x ∷ ks) (more p ps) o

-- a name that takes a value of a type: as `=`, `:=` and `var` have it
pub data Takes (s : Scope) : List ℕ → Ty → Option ℕ → Type 0 where
  blank_takes : {x : List ℕ} {t : Ty} → is_blank x ≡ true → Takes s x t None
  variable_takes : {x : List ℕ} {k : ℕ} {t u : Ty} → HasVariable s x k u → assignable t u ≡ true
      → Takes s x t (Some k)

pub data TakesNew (s : Scope) : List ℕ → Ty → Scope → Option ℕ → Scope → Type 0 where
  blank_new : {x : List ℕ} {t : Ty} {m : Scope} → is_blank x ≡ true → TakesNew s x t m None m
  old_takes : {x : List ℕ} {k : ℕ} {t u : Ty} {m : Scope}
      → is_here s x ≡ true → HasVariable s x k u → assignable t u ≡ true → TakesNew s x t m (Some k) m
  new_takes : {x : List ℕ} {k : ℕ} {t : Ty} {m : Scope}
      → is_blank x ≡ false → is_here s x ≡ false → variable_named (declare m x t) x ≡ Some k
      → TakesNew s x t m (Some k) (declare m x t)

-- the type of a `var`, if one is written
pub data IsWritten : Option WrittenType → Option Ty → Type 0 where
  unwritten : IsWritten None None
  is_written : {w : WrittenType} {t : Ty} → type_written w ≡ Some t → IsWritten (Some w) (Some t)

-- names that take a received value, and whether there was one
pub data TakeAll (s : Scope) : List (List ℕ) → List Ty → List (Option ℕ) → Type 0 where
  take_none : {ts : List Ty} → TakeAll s [] ts []
  take_one : {x : List ℕ} {xs : List (List ℕ)} {t : Ty} {ts : List Ty} {k : Option ℕ} {ks : List (Option ℕ)}
      → Takes s x t k → TakeAll s xs ts ks → TakeAll s (x ∷ xs) (t ∷ ts) (k ∷ ks)

pub data TakeAllNew (s : Scope) : List (List ℕ) → List Ty → Scope → List (Option ℕ) → Scope → Type 0 where
  take_none_new : {ts : List Ty} {m : Scope} → TakeAllNew s [] ts m [] m
  take_one_new : {x : List ℕ} {xs : List (List ℕ)} {t : Ty} {ts : List Ty} {m n o : Scope} {k : Option ℕ}
      {ks : List (Option ℕ)}
      → TakesNew s x t m k n → TakeAllNew s xs ts n ks o → TakeAllNew s (x ∷ xs) (t ∷ ts) m (k ∷ ks) o
