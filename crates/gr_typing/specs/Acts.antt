-- Statements with no statements in them (Go: Simple statements, Variable declarations, Go statements, Return statements,
-- Break statements, Continue statements).
use Rattle.std.specs.Prelude.{◌≡◌, ℕ, true, List, [], ◌∷◌, map, Option, Some, None}
use Rattle.gr_tree.specs.Exprs.{WrittenType, Tree, Trees}
use Rattle.gr_tree.specs.Exprs as tree
use Rattle.gr_tree.specs.Statements.{Simple}
use Rattle.gr_tree.specs.Statements as statements
use Rattle.gr_program.specs.Programs.{zero_of, Expr, Call, Exprs, Act, Assign, AssignReceive, Go, Return, Break, Continue}
use Rattle.gr_program.specs.Types.{Ty, BoolType}
use Rattle.gr_typing.specs.Assignments.{may_declare, all_declared, zeros, AreDeclared, IsWritten}
use Rattle.gr_typing.specs.Communications.{IsReceive}
use Rattle.gr_typing.specs.Contexts.{Around, Context, Within, is_left, is_continued}
use Rattle.gr_typing.specs.Scopes.{Scope, declared, number_of, first_where, Signature}
use Rattle.gr_typing.specs.SimpleStatements.{DoesSimple}
use Rattle.gr_typing.specs.Types.{type_written, assignable}
use Rattle.gr_typing.specs.Values.{Value, Fits, IsValue, IsCall}

-- the result of the function and what `return` gives
pub data Returns (fs : List Signature) (s : Scope) : Option Ty → Option Tree → Option Expr → Type 0 where
  returns_nothing : Returns fs s None None None
  returns_value : {t : Ty} {e : Tree} {v : Value} {p : Expr} → IsValue fs s e v → Fits v t p
      → Returns fs s (Some t) (Some e) (Some p)

pub data DoesAct : Context → Scope → statements.Act → Act → Scope → Type 0 where
  simple : {fs : List Signature} {result : Option Ty} {around : List Around} {s n : Scope} {a : Simple} {b : Act}
      → DoesSimple fs s a b n → DoesAct (Within fs result around) s (statements.Plain a) b n
  var : {c : Context} {s : Scope} {xs : List (List ℕ)} {w : WrittenType} {t : Ty}
      → may_declare s xs ≡ true → type_written w ≡ Some t
      → DoesAct c s (statements.Var xs w) (Assign (map (number_of (all_declared s xs t)) xs) (zeros xs t)) (all_declared s xs t)
  var_values : {fs : List Signature} {result : Option Ty} {around : List Around} {s n : Scope} {xs : List (List ℕ)}
      {w : Option WrittenType} {t : Option Ty} {es : Trees} {ks : List (Option ℕ)} {ps : Exprs}
      → may_declare s xs ≡ true → IsWritten w t → AreDeclared fs s t xs es s ks ps n
      → DoesAct (Within fs result around) s (statements.VarValues xs w es) (Assign ks ps) n
  var_receive : {fs : List Signature} {result : Option Ty} {around : List Around} {s : Scope} {x y : List ℕ}
      {e : Tree} {t : Ty} {p : Expr}
      → may_declare s (x ∷ y ∷ []) ≡ true → IsReceive fs s e t p
      → DoesAct (Within fs result around) s (statements.VarValues (x ∷ y ∷ []) None (tree.more e tree.none))
      (AssignReceive (number_of (declared (declared s x t) y BoolType) x) (number_of (declared (declared s x t) y BoolType) y) p (zero_of t))
      (declared (declared s x t) y BoolType)
  var_receive_written : {fs : List Signature} {result : Option Ty} {around : List Around} {s : Scope} {x y : List ℕ}
      {w : WrittenType} {e : Tree} {t u : Ty} {p : Expr}
      → may_declare s (x ∷ y ∷ []) ≡ true → type_written w ≡ Some u → IsReceive fs s e t p → assignable t u ≡ true
      → assignable BoolType u ≡ true
      → DoesAct (Within fs result around) s (statements.VarValues (x ∷ y ∷ []) (Some w) (tree.more e tree.none))
      (AssignReceive (number_of (all_declared s (x ∷ y ∷ []) u) x) (number_of (all_declared s (x ∷ y ∷ []) u) y) p (zero_of t))
      (all_declared s (x ∷ y ∷ []) u)
  go : {fs : List Signature} {result : Option Ty} {around : List Around} {s : Scope} {x : List ℕ} {es : Trees}
      {r : Option Ty} {k : ℕ} {ps : Exprs}
      → IsCall fs s x es r (Call k ps)
      → DoesAct (Within fs result around) s (statements.Go x es) (Go k ps) s
  return : {fs : List Signature} {result : Option Ty} {around : List Around} {s : Scope} {e : Option Tree}
      {p : Option Expr}
      → Returns fs s result e p → DoesAct (Within fs result around) s (statements.Return e) (Return p) s
  break : {fs : List Signature} {result : Option Ty} {around : List Around} {s : Scope} {x : Option (List ℕ)} {k : ℕ}
      → first_where (is_left x) around ≡ Some k → DoesAct (Within fs result around) s (statements.Break x) (Break k) s
  continue : {fs : List Signature} {result : Option Ty} {around : List Around} {s : Scope} {x : Option (List ℕ)}
      {k : ℕ}
      → first_where (is_continued x) around ≡ Some k
      → DoesAct (Within fs result around) s (statements.Continue x) (Continue k) s
