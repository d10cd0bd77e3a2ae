-- A file in the order of its text: each function's heading is whole before the next one's, and bodies come last. It is a
-- stepping stone of the proofs: no public clause speaks of it.
use Rattle.std.specs.Prelude.{ℕ, Bool, true, not, ◌&&◌, List, [], ◌∷◌, ◌++◌, Option, Some, if◌then◌else◌, is_none, codes}
use Rattle.gr_tree.specs.Files as files
use Rattle.gr_tree.specs.Files.{Group, GroupOf, FileTree, FileOf}
use Rattle.gr_program.specs.Types.{Ty}
use Rattle.gr_typing.specs.Types.{type_written}
use Rattle.gr_program.specs.Programs.{Parameter, Takes, Function, Program, ProgramIs}
use Rattle.gr_typing.specs.Names.{predeclared, among}
use Rattle.gr_program.specs.Order.{stands_in_order}
use Rattle.gr_typing.specs.Scopes.{Scope, declared, number_of, is_free, Signature, Sign, function_in}
use Rattle.gr_tree.specs.Statements.{Statements}
use Rattle.gr_exprs.specs.Finding.{◌>>=◌, where_true, has_text}
use Rattle.gr_typing.specs.Contexts.{Context, Within}
use Rattle.gr_types.specs.FindingStatements.{Checked, written_of, body_in}
use Rattle.gr_types.specs.FindingFiles.{checked_function, is_bare}
use Rattle.gr_typing.specs.Labels.{labels_fit}
use Rattle.gr_typing.specs.FileChecks.{empty_scope, ends_well}

-- parameters: their types, themselves, and the scope of the body with them
abbrev pub Taken : Type 0
Taken = List Ty × (List Parameter × Scope)

abbrev pub none_taken : Taken
none_taken = ([], ([], empty_scope))

abbrev pub may_take : Scope → List ℕ → Bool
may_take s x = not (among predeclared x) && is_free s x

abbrev pub taken_with : Taken → List ℕ → Ty → Taken
taken_with p x t =
    (p.0 ++ (t ∷ []), (p.1.0 ++ (Takes (number_of (declared p.1.1 x t) x) t ∷ []), declared p.1.1 x t))

-- one more parameter, parameters of one type, and parameters of more
abbrev pub take : Taken → List ℕ → Ty → Option Taken
take p x t = where_true (may_take p.1.1 x) (taken_with p x t)

abbrev pub take_each : Taken → List (List ℕ) → Ty → Option Taken
take_each p [] t = Some p
take_each p (x ∷ xs) t = take p x t >>= λ p. take_each p xs t

abbrev pub take_groups : Taken → List Group → Option Taken
take_groups p [] = Some p
take_groups p (GroupOf xs w ∷ gs) = type_written w >>= λ t. take_each p xs t >>= λ p. take_groups p gs

-- a function with a heading that fits: its parameters, its result, and the scope that its body begins with
pub data Outline : Type 0 where
  OutlineOf : (function : files.Function) (parameters : List Parameter) (result : Option Ty) (scope : Scope) → Outline

-- whether a function may have a name after these
abbrev pub name_fits : List Signature → List ℕ → Bool
name_fits fs x = not (among predeclared x) && (not (has_text x (codes "init")) && is_none (function_in fs x))

-- a function `main` has neither parameters nor a result
abbrev pub fits_main : Signature → Bool
fits_main (Sign name parameters result) = if has_text name (codes "main") then is_bare (Sign name parameters result) else true

abbrev pub Headed : Type 0
Headed = Signature × Outline

abbrev pub headed : files.Function → List ℕ → Taken → Option Ty → Option Headed
headed f name p r = where_true (fits_main (Sign name p.0 r)) (Sign name p.0 r, OutlineOf f p.1.0 r p.1.1)

-- the heading of a function after these
unfoldable pub heading_in : List Signature → files.Function → Option Headed
heading_in fs (files.FunctionOf place name groups w body closing) =
    where_true (name_fits fs name) groups >>= λ gs. take_groups none_taken gs >>= λ p. written_of w >>=
    headed (files.FunctionOf place name groups w body closing) name p

-- the headings of functions after those before
unfoldable pub headings_in : List Signature → List Outline → List files.Function → Option (List Signature × List Outline)
headings_in fs os [] = Some (fs, os)
headings_in fs os (f ∷ others) = heading_in fs f >>= λ h. headings_in (fs ++ (h.0 ∷ [])) (os ++ (h.1 ∷ [])) others

-- statements among which every label fits
abbrev pub labeled_in : Context → Scope → Statements → Option Checked
labeled_in c s body = body_in c s body >>= where_true (labels_fit body)

-- the function of an outline
unfoldable pub finished : List Signature → Outline → Option Function
finished fs (OutlineOf (files.FunctionOf place name groups w body closing) parameters result s) =
    labeled_in (Within fs result []) s body >>= where_true (ends_well result body) >>= λ b.
    where_true (stands_in_order place.start b.0 closing.start) b >>= λ b.
    Some (checked_function name parameters result closing b)

unfoldable pub finished_all : List Signature → List Outline → Option (List Function)
finished_all fs [] = Some []
finished_all fs (o ∷ os) = finished fs o >>= λ c. finished_all fs os >>= λ cs. Some (c ∷ cs)

abbrev pub with_main : List Signature × List Outline → ℕ → Option Program
with_main h k = finished_all h.0 h.1 >>= λ cs. Some (ProgramIs cs k)

abbrev pub with_headings : List Signature × List Outline → Option Program
with_headings h = function_in h.0 (codes "main") >>= with_main h

unfoldable pub program_read : FileTree → Option Program
program_read (FileOf place package_name functions) =
    where_true (has_text package_name (codes "main")) functions >>= headings_in [] [] >>= with_headings
