-- Values given to names by `=`, `:=` and `var`: they have sorts that their variables take.
use Rattle.std.proofs.Common.{ℕ, List, [], ◌∷◌, map, Option}
use Rattle.gr_tree.specs.Exprs as written
use Rattle.gr_program.specs.Types.{Ty}
use Rattle.gr_program.specs.Programs.{Expr, Exprs, none, more}
use Rattle.gr_typing.specs.Scopes.{Scope, declared, number_of}
use Rattle.gr_typing.specs.Values.{Value, HasType, Fits, IsValue}
use Rattle.gr_typing.specs.Assignments as assignments
use Rattle.gr_typing.specs.Assignments.{IsGiven, AreGiven, IsDefined, AreDefined, IsDeclaredAs, AreDeclared, zeros}
use Rattle.gr_rules.specs.Operands.{operand_of, operands_of}
use Rattle.type_safety.proofs.Sorts as sorts
use Rattle.type_safety.proofs.Sorts.{Sort, sort_of, nothing_made, Setting, SortedOperand, SortedOperands}
use Rattle.type_safety.proofs.Promises.{Live, Begins, Grows}
use Rattle.type_safety.proofs.CheckedExprs.{zero_sorted, typed_sorted, fitting_sorted}
use Rattle.type_safety.proofs.DeclaredNames.{Declarable}
use Rattle.type_safety.proofs.Growing.{grows_self, grows_trans}
use Rattle.type_safety.proofs.NewVariables.{Sets, sets_none, sets_blank, sets_old, sets_new, sets_declared, sets_then, Definable}

pub zeros_sorted : (d : Setting) (live : List ℕ) (xs : List (List ℕ)) (t : Ty)
    → SortedOperands d nothing_made live (operands_of (zeros xs t)) (map (λ x. sort_of t) xs)
zeros_sorted d live [] t = sorts.no_operand
zeros_sorted d live (x ∷ xs) t =
    sorts.one_operand (sorts.done (zero_sorted nothing_made t)) (zeros_sorted d live xs t)

module _ (d : Setting) (live : List ℕ) (s : Scope) where
  -- expressions of these sorts, where the names of the scope s stand for variables that hold values
  abbrev Values : Exprs → List Sort → Type 0
  Values ps ls = Live s live → Begins s d.variables → SortedOperands d nothing_made live (operands_of ps) ls

  abbrev HasSortOf : Expr → Sort → Type 0
  HasSortOf p l = Live s live → Begins s d.variables → SortedOperand d nothing_made live (operand_of p) l

  -- a value and its variable, and values and theirs
  abbrev Gives : Scope → Scope → Option ℕ → Expr → Type 0
  Gives m n k p = (l : Sort) × Sets d.variables m n (k ∷ []) (l ∷ []) × HasSortOf p l

  abbrev pub AllGive : Scope → Scope → List (Option ℕ) → Exprs → Type 0
  AllGive m n ks ps = (ls : List Sort) × Sets d.variables m n ks ls × Values ps ls

  of_type : (e : written.Tree) (v : Value) (t : Ty) (p : Expr) → IsValue d.functions s e v → HasType v t p
      → HasSortOf p (sort_of t)
  of_type e v t p h is lives begins = typed_sorted d live s e v t p lives begins h is

  fitting : (e : written.Tree) (v : Value) (t : Ty) (p : Expr) → IsValue d.functions s e v → Fits v t p
      → HasSortOf p (sort_of t)
  fitting e v t p h fits lives begins = fitting_sorted d live s e v t p lives begins h fits

  none_give : (m : Scope) → AllGive m m [] none
  none_give m = ([], sets_none d.variables m [], λ lives begins. sorts.no_operand)

  give_then : (m n o : Scope) (k : Option ℕ) (ks : List (Option ℕ)) (p : Expr) (ps : Exprs) → Gives m n k p
      → AllGive n o ks ps → AllGive m o (k ∷ ks) (more p ps)
  give_then m n o k ks p ps first rest = (
    first.0 ∷ rest.0,
    sets_then d.variables m n o k ks first.0 rest.0 first.1 rest.1,
    λ lives begins. sorts.one_operand (first.2 lives begins) (rest.2 lives begins),
  )

  name_given : (x : List ℕ) (e : written.Tree) (v : Value) (k : Option ℕ) (p : Expr) → IsValue d.functions s e v
      → IsGiven s x v k p → Gives s s k p
  name_given x e v k p h (assignments.to_blank {t = t} b is) =
      (sort_of t, sets_blank d.variables s (sort_of t), of_type e v t p h is)
  name_given x e v k p h (assignments.to_variable {k = j} {t = t} variable fits) =
      (sort_of t, sets_old d.variables s s x j t (grows_self s) variable, fitting e v t p h fits)

  pub all_given : (xs : List (List ℕ)) (es : written.Trees) (ks : List (Option ℕ)) (ps : Exprs)
      → AreGiven d.functions s xs es ks ps → AllGive s s ks ps
  all_given xs es ks ps assignments.no_given = none_give s
  all_given xs es ks ps (assignments.given {x = x} {xs = ys} {e = e} {es = fs} {v = v} {k = k} {ks = js} {p = p} {ps = qs} h is rest) =
      give_then s s s k js p qs (name_given x e v k p h is) (all_given ys fs js qs rest)

  name_defined : (x : List ℕ) (xs : List (List ℕ)) (e : written.Tree) (v : Value) (m n : Scope) (k : Option ℕ)
      (p : Expr)
      → Grows s m → Definable s m (x ∷ xs) → IsValue d.functions s e v → IsDefined s x v m k p n → Gives m n k p
      × Definable s n xs
  name_defined x xs e v m n k p g may h (assignments.blank {t = t} b is) =
      ((sort_of t, sets_blank d.variables m (sort_of t), of_type e v t p h is), may.1)
  name_defined x xs e v m n k p g may h (assignments.old {k = j} {t = t} here variable fits) =
      ((sort_of t, sets_old d.variables s m x j t g variable, fitting e v t p h fits), may.1)
  name_defined x xs e v m n k p g may h (assignments.new {k = j} {t = t} b free is named) =
      ((sort_of t, sets_new d.variables m x j t (may.0 b free) named, of_type e v t p h is), may.2 b t)

  pub all_defined : (xs : List (List ℕ)) (es : written.Trees) (m o : Scope) (ks : List (Option ℕ)) (ps : Exprs)
      → Grows s m → Definable s m xs → AreDefined d.functions s xs es m ks ps o → AllGive m o ks ps
  all_defined xs es m o ks ps g may assignments.no_defined = none_give m
  all_defined xs es m o ks ps g may (assignments.defined {x = x} {xs = ys} {e = e} {es = fs} {v = v} {n = n} {k = k} {ks = js} {p = p} {ps = qs} h is rest) =
      let first = name_defined x ys e v m n k p g may h is in
      give_then m n o k js p qs first.0 (all_defined ys fs n o js qs (grows_trans s m n g first.0.1.grown) first.1 rest)

  name_declared : (type : Option Ty) (x : List ℕ) (e : written.Tree) (v : Value) (t : Ty) (m : Scope) (p : Expr)
      → Declarable m (x ∷ []) → IsValue d.functions s e v → IsDeclaredAs type v t p
      → Gives m (declared m x t) (number_of (declared m x t) x) p
  name_declared type x e v t m p may h (assignments.written fits) =
      (sort_of t, sets_declared d.variables m x t may.0, fitting e v t p h fits)
  name_declared type x e v t m p may h (assignments.inferred is) =
      (sort_of t, sets_declared d.variables m x t may.0, of_type e v t p h is)

  pub values_declared : (type : Option Ty) (xs : List (List ℕ)) (es : written.Trees) (m o : Scope)
      (ks : List (Option ℕ)) (ps : Exprs)
      → Declarable m xs → AreDeclared d.functions s type xs es m ks ps o → AllGive m o ks ps
  values_declared type xs es m o ks ps may assignments.no_declared = none_give m
  values_declared type xs es m o ks ps may (assignments.one_declared {x = x} {xs = ys} {e = e} {es = fs} {v = v} {t = t} {ks = js} {p = p} {ps = qs} h is rest) =
      let n = declared m x t in
      give_then m n o (number_of n x) js p qs (name_declared type x e v t m p (may.0, λ t. tt) h is) (values_declared type ys fs n o js qs (may.1 t) rest)
