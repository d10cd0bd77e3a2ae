-- The checked program of a file (Go: Function declarations, Program initialization and execution).
use Rattle.std.specs.Prelude.{◌≡◌, ℕ, Bool, true, not, ◌&&◌, List, [], ◌∷◌, ◌++◌, Option, Some, None, nat_eq, codes}
use Rattle.std.specs.List.{list_all}
use Rattle.std.specs.Cmp.Lexicographic.{pointwise}
use Rattle.gr_scan.specs.declared.token.Place.{Place}
use Rattle.gr_tree.specs.Exprs.{WrittenType}
use Rattle.gr_tree.specs.Statements.{Statements}
use Rattle.gr_tree.specs.Files as files
use Rattle.gr_tree.specs.Files.{Group, GroupOf, FileTree, FileOf}
use Rattle.gr_program.specs.Types.{Ty}
use Rattle.gr_typing.specs.Types.{type_written}
use Rattle.gr_program.specs.Programs.{Stmts, Declared, Parameter, Takes, Function, FunctionIs, Program, ProgramIs}
use Rattle.gr_program.specs.Order.{stands_in_order}
use Rattle.gr_typing.specs.Scopes.{Block, Scope, In, declared, number_of, Signature, Sign, function_in, signature, may_name}
use Rattle.gr_typing.specs.Contexts.{Within}
use Rattle.gr_typing.specs.Statements.{IsBody}
use Rattle.gr_typing.specs.Assignments.{IsWritten}
use Rattle.gr_typing.specs.Labels.{labels_fit}
use Rattle.gr_typing.specs.Endings.{ends}

-- the parameters' names, in order
abbrev pub parameter_names : List Group → List (List ℕ)
parameter_names [] = []
parameter_names (GroupOf names type ∷ groups) = names ++ parameter_names groups

-- the types of the parameters, one for each name
abbrev pub each : List (List ℕ) → Ty → List Ty
each [] t = []
each (x ∷ xs) t = t ∷ each xs t

pub data AreTypes : List Group → List Ty → Type 0 where
  no_group : AreTypes [] []
  one_group : {xs : List (List ℕ)} {w : WrittenType} {t : Ty} {gs : List Group} {ts : List Ty}
      → type_written w ≡ Some t → AreTypes gs ts → AreTypes (GroupOf xs w ∷ gs) (each xs t ++ ts)

-- parameters are variables of the block of the body, save the blank ones
abbrev pub scope_with : Scope → List (List ℕ) → List Ty → Scope
scope_with s [] ts = s
scope_with s (x ∷ xs) [] = s
scope_with s (x ∷ xs) (t ∷ ts) = scope_with (declared s x t) xs ts

abbrev pub parameters_with : Scope → List (List ℕ) → List Ty → List Parameter
parameters_with s [] ts = []
parameters_with s (x ∷ xs) [] = []
parameters_with s (x ∷ xs) (t ∷ ts) = Takes (number_of (declared s x t) x) t ∷ parameters_with (declared s x t) xs ts

abbrev pub empty_scope : Scope
empty_scope = In [] [] []

-- the signatures of functions, by their headings
pub data AreSignatures : List files.Function → List Signature → Type 0 where
  no_signature : AreSignatures [] []
  one_signature : {place closing : Place} {name : List ℕ} {groups : List Group} {w : Option WrittenType}
      {body : Statements} {ts : List Ty} {result : Option Ty} {others : List files.Function} {fs : List Signature}
      → AreTypes groups ts
      → IsWritten w result
      → may_name (parameter_names groups) ≡ true
      → AreSignatures others fs
      → AreSignatures (files.FunctionOf place name groups w body closing ∷ others) (Sign name ts result ∷ fs)

-- a function with a result ends in a terminating statement
abbrev pub ends_well : Option Ty → Statements → Bool
ends_well None body = true
ends_well (Some t) body = ends body

-- Functions among these signatures, each with its own. Its statements begin one after another, as in every text, so that no
-- two begin at one place.
pub data AreFunctions (fs : List Signature) : List files.Function → List Signature → List Function → Type 0 where
  no_function : AreFunctions fs [] [] []
  one_function : {place closing : Place} {name y : List ℕ} {groups : List Group} {w : Option WrittenType}
      {body : Statements} {ts : List Ty} {result : Option Ty} {stmts : Stmts} {here : Block} {around : List Block}
      {variables : List Declared} {others : List files.Function} {own : List Signature} {checked : List Function}
      → IsBody (Within fs result []) (scope_with empty_scope (parameter_names groups) ts) body stmts (In here around variables)
      → labels_fit body ≡ true
      → ends_well result body ≡ true
      → stands_in_order place.start stmts closing.start ≡ true
      → AreFunctions fs others own checked
      → AreFunctions fs (files.FunctionOf place name groups w body closing ∷ others) (Sign y ts result ∷ own)
      (FunctionIs name (parameters_with empty_scope (parameter_names groups) ts) result variables stmts closing ∷ checked)

abbrev pub names_of : List Signature → List (List ℕ)
names_of [] = []
names_of (Sign name parameters result ∷ fs) = name ∷ names_of fs

-- functions have distinct names, none predeclared and none `init`; one may be blank
abbrev pub may_be_functions : List Signature → Bool
may_be_functions fs = may_name (names_of fs) && list_all (λ x. not (pointwise nat_eq x (codes "init"))) (names_of fs)

-- the program of a file: package main with a function main, which has no parameters and no result
pub data ProgramOf : FileTree → Program → Type 0 where
  main : {place : Place} {package_name y : List ℕ} {functions : List files.Function} {fs : List Signature}
      {checked : List Function} {k : ℕ}
      → package_name ≡ codes "main"
      → AreSignatures functions fs
      → may_be_functions fs ≡ true
      → function_in fs (codes "main") ≡ Some k
      → signature fs k ≡ Some (Sign y [] None)
      → AreFunctions fs functions fs checked
      → ProgramOf (FileOf place package_name functions) (ProgramIs checked k)
