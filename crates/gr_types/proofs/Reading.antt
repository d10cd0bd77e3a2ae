-- The program that is read in the order of the text is the one that the judgement has.
use Rattle.std.proofs.Common.{◌≡◌, ℕ, Bool, true, false, List, [], ◌∷◌, refl, ap, sym, ◌∙◌, subst}
use Rattle.std.specs.Prelude.{Option, Some, None, ◌&&◌, codes, Result, Ok, Err, IfOk, IfErr}
use Rattle.gr_tree.specs.Files as files
use Rattle.gr_tree.specs.Files.{FileTree, FileOf, Group}
use Rattle.gr_program.specs.declared.program.Program as code_program
use Rattle.gr_types.specs.declared.refusal.CheckError.{CheckError}
use Rattle.gr_types.specs.declared.refusal.CheckError.TheVariants as errors
use Rattle.gr_program.specs.Programs.{ProgramIs}
use Rattle.gr_program.specs.Views as views
use Rattle.gr_program.specs.Order.{stands_in_order}
use Rattle.gr_typing.specs.Scopes.{Signature, Sign, function_in}
use Rattle.gr_typing.specs.Labels.{labels_fit}
use Rattle.gr_typing.specs.FileChecks.{ends_well, may_be_functions, ProgramOf}
use Rattle.gr_exprs.specs.Finding.{◌>>=◌, where_true, has_text}
use Rattle.gr_typing.specs.Contexts.{Within}
use Rattle.gr_types.specs.FindingStatements.{body_in}
use Rattle.gr_types.specs.FindingFiles.{signature_in, signatures_in, function_checked, functions_in, checked_function, main_in, program_of, checked_signatures, program_in}
use Rattle.gr_types.specs.Refusals.{HasNoProgram}
use Rattle.gr_types.specs.Checking.{Settles}
use Rattle.gr_types.specs.Outlines.{headings_in, finished, finished_all, with_main, with_headings, program_read}
use Rattle.gr_exprs.proofs.Finds.{on_some, some_inj, none_some}
use Rattle.gr_types.proofs.FindsFiles.{file_sound, file_complete}
use Rattle.gr_types.proofs.TakenGroups.{made}
use Rattle.gr_types.proofs.Headed.{outlined, outlined_all, all_fit, headings_are}
use Rattle.gr_types.proofs.FitTogether.{first_bare, fit_is, main_is}

-- bodies
by_tests : {A B : Type 0} (o : Option A) (fit well : Bool) (f : A → Option B) → (((o >>= where_true fit) >>= where_true well) >>= f) ≡ (o >>= λ a. where_true fit a >>= λ a. where_true well a >>= f)
by_tests None fit well f = refl
by_tests (Some a) false well f = refl
by_tests (Some a) true well f = refl

finished_is : (all : List Signature) (f : files.Function) (g : Signature) → finished all (outlined f g) ≡ function_checked all f g
unfolding finished function_checked
finished_is all (files.FunctionOf place name groups w body closing) (Sign y ts r) =
    by_tests (body_in (Within all r []) (made groups ts).1 body) (labels_fit body) (ends_well r body) (λ b. where_true (stands_in_order place.start b.0 closing.start) b >>= λ b. Some (checked_function name (made groups ts).0 r closing b))

bodies_are : (all : List Signature) (fs : List files.Function) (own : List Signature) → signatures_in fs ≡ Some own → finished_all all (outlined_all fs own) ≡ functions_in all fs own
unfolding signatures_in finished_all functions_in
bodies_are all [] [] e = refl
bodies_are all [] (g ∷ own) e = absurd (cc)
bodies_are all (f ∷ others) own e =
    on_some (signature_in f) (λ g. signatures_in others >>= λ gs. Some (g ∷ gs)) own e (λ g is e.
    on_some (signatures_in others) (λ gs. Some (g ∷ gs)) own e (λ rest are e.
    subst (λ own. finished_all all (outlined_all (f ∷ others) own) ≡ functions_in all (f ∷ others) own) (some_inj e)
    (ap (λ o. o >>= λ c. finished_all all (outlined_all others rest) >>= λ cs. Some (c ∷ cs)) (finished_is all f g)
    ∙ ap (λ o. function_checked all f g >>= λ c. o >>= λ cs. Some (c ∷ cs)) (bodies_are all others rest are))))

-- the whole file
by_number : (fs : List files.Function) (own : List Signature) (o : Option ℕ) → signatures_in fs ≡ Some own → (o >>= with_main (own, outlined_all fs own)) ≡ ((o >>= λ k. where_true true k) >>= program_of own fs)
by_number fs own None e = refl
by_number fs own (Some k) e = ap (λ o. o >>= λ cs. Some (ProgramIs cs k)) (bodies_are own fs own e)

no_number : (o : Option ℕ) (fs : List files.Function) (own : List Signature) → None ≡ ((o >>= λ k. where_true false k) >>= program_of own fs)
no_number None fs own = refl
no_number (Some k) fs own = refl

by_tested : (fs : List files.Function) (own : List Signature) (may bare : Bool) → may_be_functions own ≡ may → first_bare own ≡ bare → signatures_in fs ≡ Some own
    → (where_true (may && bare) (own, outlined_all fs own) >>= with_headings) ≡ (where_true may own >>= λ own. main_in own >>= program_of own fs)
by_tested fs own false bare e f is = refl
by_tested fs own true false e f is = no_number (function_in own (codes "main")) fs own ∙ sym (ap (λ o. o >>= program_of own fs) (main_is own ∙ ap (λ b. function_in own (codes "main") >>= λ k. where_true b k) f))
by_tested fs own true true e f is = by_number fs own (function_in own (codes "main")) is ∙ sym (ap (λ o. o >>= program_of own fs) (main_is own ∙ ap (λ b. function_in own (codes "main") >>= λ k. where_true b k) f))

by_signatures : (fs : List files.Function) (o : Option (List Signature)) → signatures_in fs ≡ o → ((o >>= λ own. where_true (all_fit [] own) (own, outlined_all fs own)) >>= with_headings) ≡ (o >>= checked_signatures fs)
by_signatures fs None e = refl
by_signatures fs (Some own) e =
    ap (λ b. where_true b (own, outlined_all fs own) >>= with_headings) (fit_is own) ∙ by_tested fs own (may_be_functions own) (first_bare own) refl refl e

by_package : (fs : List files.Function) (b : Bool) → ((where_true b fs >>= headings_in [] []) >>= with_headings) ≡ (where_true b fs >>= λ fs. signatures_in fs >>= checked_signatures fs)
by_package fs false = refl
by_package fs true = ap (λ o. o >>= with_headings) (headings_are fs [] []) ∙ by_signatures fs (signatures_in fs) refl

read_is : (f : FileTree) → program_read f ≡ program_in f
unfolding program_read program_in
read_is (FileOf place package_name functions) = by_package functions (has_text package_name (codes "main"))

-- what an answer says of the file
pub program_found : (f : FileTree) (r : Result code_program.Program CheckError) → Settles views.program_of r (program_read f) → IfOk r (λ p. ProgramOf f (views.program_of p))
program_found f (Ok p) e = file_sound f (views.program_of p) (sym (read_is f) ∙ e)
program_found f (Err error) e = tt

pub none_found : (f : FileTree) (r : Result code_program.Program CheckError) → Settles views.program_of r (program_read f) → IfErr r (λ e. HasNoProgram e f)
none_found f (Ok p) e = tt
none_found f (Err (errors.Refused code at)) e = λ p is. none_some (sym e ∙ read_is f ∙ file_complete is)
none_found f (Err errors.Memory) e = tt
