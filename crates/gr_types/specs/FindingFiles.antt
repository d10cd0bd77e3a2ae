-- What the checker finds of a file, as functions: the law `found_programs` compares it with the judgement.
use Rattle.std.specs.Prelude.{ℕ, Bool, true, false, List, [], ◌∷◌, ◌++◌, Option, Some, None, codes}
use Rattle.gr_scan.specs.declared.token.Place.{Place}
use Rattle.gr_tree.specs.Files as files
use Rattle.gr_tree.specs.Files.{Group, GroupOf, FileTree, FileOf}
use Rattle.gr_program.specs.Types.{Ty}
use Rattle.gr_typing.specs.Types.{type_written}
use Rattle.gr_program.specs.Programs.{Declared, Parameter, Function, FunctionIs, Program, ProgramIs}
use Rattle.gr_program.specs.Order.{stands_in_order}
use Rattle.gr_typing.specs.Scopes.{Scope, In, Signature, Sign, function_in, signature, may_name}
use Rattle.gr_exprs.specs.Finding.{◌>>=◌, where_true, has_text}
use Rattle.gr_typing.specs.Contexts.{Within}
use Rattle.gr_types.specs.FindingStatements.{Checked, written_of, body_in}
use Rattle.gr_typing.specs.Labels.{labels_fit}
use Rattle.gr_typing.specs.FileChecks.{parameter_names, each, scope_with, parameters_with, empty_scope, ends_well, may_be_functions}

unfoldable pub types_in : List Group → Option (List Ty)
types_in [] = Some []
types_in (GroupOf xs w ∷ gs) = type_written w >>= λ t. types_in gs >>= λ ts. Some (each xs t ++ ts)

unfoldable pub signature_in : files.Function → Option Signature
signature_in (files.FunctionOf place name groups w body closing) =
    types_in groups >>= λ ts. written_of w >>= λ r. where_true (may_name (parameter_names groups)) (Sign name ts r)

unfoldable pub signatures_in : List files.Function → Option (List Signature)
signatures_in [] = Some []
signatures_in (f ∷ others) = signature_in f >>= λ g. signatures_in others >>= λ fs. Some (g ∷ fs)

abbrev pub variables_of : Scope → List Declared
variables_of (In here around variables) = variables

abbrev pub checked_function : List ℕ → List Parameter → Option Ty → Place → Checked → Function
checked_function name parameters result closing b = FunctionIs name parameters result (variables_of b.1) b.0 closing

unfoldable pub function_checked : List Signature → files.Function → Signature → Option Function
function_checked fs (files.FunctionOf place name groups w body closing) (Sign y ts result) =
    body_in (Within fs result []) (scope_with empty_scope (parameter_names groups) ts) body >>= λ b.
    where_true (labels_fit body) b >>= λ b. where_true (ends_well result body) b >>= λ b.
    where_true (stands_in_order place.start b.0 closing.start) b >>= λ b.
    Some (checked_function name (parameters_with empty_scope (parameter_names groups) ts) result closing b)

unfoldable pub functions_in : List Signature → List files.Function → List Signature → Option (List Function)
functions_in fs [] [] = Some []
functions_in fs [] (g ∷ own) = None
functions_in fs (f ∷ others) [] = None
functions_in fs (f ∷ others) (g ∷ own) = function_checked fs f g >>= λ c. functions_in fs others own >>= λ cs. Some (c ∷ cs)

abbrev pub is_bare : Signature → Bool
is_bare (Sign y [] None) = true
is_bare _ = false

-- the number of `main`, which has neither parameters nor a result
unfoldable pub main_in : List Signature → Option ℕ
main_in fs = function_in fs (codes "main") >>= λ k. signature fs k >>= λ g. where_true (is_bare g) k

abbrev pub program_of : List Signature → List files.Function → ℕ → Option Program
program_of fs functions k = functions_in fs functions fs >>= λ cs. Some (ProgramIs cs k)

abbrev pub checked_signatures : List files.Function → List Signature → Option Program
checked_signatures functions fs = where_true (may_be_functions fs) fs >>= λ fs. main_in fs >>= program_of fs functions

unfoldable pub program_in : FileTree → Option Program
program_in (FileOf place package_name functions) = where_true (has_text package_name (codes "main")) functions >>= λ functions. signatures_in functions >>= checked_signatures functions
