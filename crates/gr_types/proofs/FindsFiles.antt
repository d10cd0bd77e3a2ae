-- The checker finds the program of a file exactly where the judgement has one.
use Rattle.std.proofs.Common.{◌≡◌, ℕ, true, List, [], ◌∷◌, ◌++◌, refl, ap, sym, ◌∙◌, subst}
use Rattle.std.specs.Prelude.{Option, Some, None, codes}
use Rattle.std.specs.Cmp.Lexicographic.{same_text}
use Rattle.gr_scan.specs.declared.token.Place.{Place}
use Rattle.gr_tree.specs.Exprs.{WrittenType}
use Rattle.gr_tree.specs.Statements.{Statements}
use Rattle.gr_tree.specs.Files as files
use Rattle.gr_tree.specs.Files.{Group, GroupOf, FileTree, FileOf}
use Rattle.gr_program.specs.Types.{Ty}
use Rattle.gr_typing.specs.Types.{type_written}
use Rattle.gr_program.specs.Programs.{Function, Program, ProgramIs}
use Rattle.gr_program.specs.Order.{stands_in_order}
use Rattle.gr_typing.specs.Scopes.{Block, Scope, In, Signature, Sign, function_in, signature, may_name}
use Rattle.gr_exprs.specs.Finding.{◌>>=◌, where_true, has_text}
use Rattle.gr_typing.specs.Contexts.{Within}
use Rattle.gr_typing.specs.Assignments.{IsWritten}
use Rattle.gr_typing.specs.Statements.{IsBody}
use Rattle.gr_types.specs.FindingStatements.{Checked, written_of, body_in}
use Rattle.gr_typing.specs.Labels.{labels_fit}
use Rattle.gr_typing.specs.FileChecks as rules
use Rattle.gr_typing.specs.FileChecks.{parameter_names, each, AreTypes, scope_with, parameters_with, empty_scope, AreSignatures, ends_well, AreFunctions, may_be_functions, ProgramOf}
use Rattle.gr_types.specs.FindingFiles.{types_in, signature_in, signatures_in, variables_of, checked_function, function_checked, functions_in, is_bare, main_in, program_of, checked_signatures, program_in}
use Rattle.gr_exprs.proofs.Finds.{some_inj, none_some, on_some, on_true, if_true, then_some}
use Rattle.gr_types.proofs.FindsStatements.{written_sound, body_sound}
use Rattle.gr_types.proofs.FindsStatementsAll.{written_complete, body_complete}

types_sound : (gs : List Group) (ts : List Ty) → types_in gs ≡ Some ts → AreTypes gs ts
unfolding types_in
types_sound [] ts q = subst (λ ts. AreTypes [] ts) (some_inj q) rules.no_group
types_sound (GroupOf xs w ∷ gs) ts q = on_some (type_written w) (λ t. types_in gs >>= λ ts. Some (each xs t ++ ts)) ts q (λ t it q.
    on_some (types_in gs) (λ ts. Some (each xs t ++ ts)) ts q (λ rest ir q. subst (λ ts. AreTypes (GroupOf xs w ∷ gs) ts) (some_inj q) (rules.one_group it (types_sound gs rest ir))))

types_complete : {gs : List Group} {ts : List Ty} → AreTypes gs ts → types_in gs ≡ Some ts
unfolding types_in
types_complete rules.no_group = refl
types_complete (rules.one_group {xs = xs} {w = w} {t = t} {gs = gs} {ts = ts} is rest) =
    then_some (type_written w) t (λ t. types_in gs >>= λ ts. Some (each xs t ++ ts)) is ∙ then_some (types_in gs) ts (λ ts. Some (each xs t ++ ts)) (types_complete rest)

-- the signature of one function
record IsSignature (place closing : Place) (name : List ℕ) (groups : List Group) (w : Option WrittenType) (g : Signature) : Type 0 where
  types : List Ty
  result : Option Ty
  are : AreTypes groups types
  is : IsWritten w result
  may : may_name (parameter_names groups) ≡ true
  same : Sign name types result ≡ g

signature_sound : (place closing : Place) (name : List ℕ) (groups : List Group) (w : Option WrittenType) (body : Statements) (g : Signature) → signature_in (files.FunctionOf place name groups w body closing) ≡ Some g → IsSignature place closing name groups w g
unfolding signature_in
signature_sound place closing name groups w body g q = on_some (types_in groups) (λ ts. written_of w >>= λ r. where_true (may_name (parameter_names groups)) (Sign name ts r)) g q (λ ts its q.
    on_some (written_of w) (λ r. where_true (may_name (parameter_names groups)) (Sign name ts r)) g q (λ r ir q.
    on_true (may_name (parameter_names groups)) (Sign name ts r) g q (λ may same.
    record { types = ts; result = r; are = types_sound groups ts its; is = written_sound w r ir; may = may; same = same })))

signatures_sound : (functions : List files.Function) (fs : List Signature) → signatures_in functions ≡ Some fs → AreSignatures functions fs
unfolding signatures_in
signatures_sound [] fs q = subst (λ fs. AreSignatures [] fs) (some_inj q) rules.no_signature
signatures_sound (files.FunctionOf place name groups w body closing ∷ others) fs q =
    on_some (signature_in (files.FunctionOf place name groups w body closing)) (λ g. signatures_in others >>= λ fs. Some (g ∷ fs)) fs q (λ g ig q.
    on_some (signatures_in others) (λ fs. Some (g ∷ fs)) fs q (λ rest ir q.
    let s = signature_sound place closing name groups w body g ig in
    subst (λ fs. AreSignatures (files.FunctionOf place name groups w body closing ∷ others) fs) (ap (λ g. g ∷ rest) s.same ∙ some_inj q) (rules.one_signature s.are s.is s.may (signatures_sound others rest ir))))

signature_complete : (place closing : Place) (name : List ℕ) (groups : List Group) (w : Option WrittenType) (body : Statements) (ts : List Ty) (r : Option Ty) → AreTypes groups ts → IsWritten w r → may_name (parameter_names groups) ≡ true → signature_in (files.FunctionOf place name groups w body closing) ≡ Some (Sign name ts r)
unfolding signature_in
signature_complete place closing name groups w body ts r are is may =
    then_some (types_in groups) ts (λ ts. written_of w >>= λ r. where_true (may_name (parameter_names groups)) (Sign name ts r)) (types_complete are)
    ∙ then_some (written_of w) r (λ r. where_true (may_name (parameter_names groups)) (Sign name ts r)) (written_complete is)
    ∙ if_true (may_name (parameter_names groups)) (Sign name ts r) may

signatures_complete : {functions : List files.Function} {fs : List Signature} → AreSignatures functions fs → signatures_in functions ≡ Some fs
unfolding signatures_in
signatures_complete rules.no_signature = refl
signatures_complete (rules.one_signature {place = place} {closing = closing} {name = name} {groups = groups} {w = w} {body = body} {ts = ts} {result = r} {others = others} {fs = fs} are is may rest) =
    then_some (signature_in (files.FunctionOf place name groups w body closing)) (Sign name ts r) (λ g. signatures_in others >>= λ fs. Some (g ∷ fs)) (signature_complete place closing name groups w body ts r are is may)
    ∙ then_some (signatures_in others) fs (λ fs. Some (Sign name ts r ∷ fs)) (signatures_complete rest)

-- functions
scope_is : (n : Scope) → (here : Block) × ((around : List Block) × (n ≡ In here around (variables_of n)))
scope_is (In here around variables) = (here, (around, refl))

functions_sound : (fs : List Signature) (functions : List files.Function) (own : List Signature) (cs : List Function) → functions_in fs functions own ≡ Some cs → AreFunctions fs functions own cs
unfolding functions_in function_checked
functions_sound fs [] [] cs q = subst (λ cs. AreFunctions fs [] [] cs) (some_inj q) rules.no_function
functions_sound fs [] (g ∷ own) cs q = none_some q
functions_sound fs (f ∷ others) [] cs q = none_some q
functions_sound fs (files.FunctionOf place name groups w body closing ∷ others) (Sign y ts result ∷ own) cs q =
    on_some (function_checked fs (files.FunctionOf place name groups w body closing) (Sign y ts result)) (λ c. functions_in fs others own >>= λ cs. Some (c ∷ cs)) cs q (λ c ic q.
    on_some (functions_in fs others own) (λ cs. Some (c ∷ cs)) cs q (λ rest ir q.
    on_some (body_in (Within fs result []) (scope_with empty_scope (parameter_names groups) ts) body) _ c ic (λ b ib ic.
    on_some (where_true (labels_fit body) b) _ c ic (λ d id ic.
    on_true (labels_fit body) b d id (λ fit same.
    on_some (where_true (ends_well result body) d) _ c ic (λ e ie ic.
    on_true (ends_well result body) d e ie (λ well again.
    on_some (where_true (stands_in_order place.start e.0 closing.start) e) _ c ic (λ g ig ic.
    on_true (stands_in_order place.start e.0 closing.start) e g ig (λ ordered last.
    let z = scope_is b.1 in
    let done : IsBody (Within fs result []) (scope_with empty_scope (parameter_names groups) ts) body b.0 (In z.0 z.1.0 (variables_of b.1)) = subst (λ n. IsBody (Within fs result []) (scope_with empty_scope (parameter_names groups) ts) body b.0 n) z.1.1 (body_sound (Within fs result []) (scope_with empty_scope (parameter_names groups) ts) body b ib) in
    subst (λ cs. AreFunctions fs (files.FunctionOf place name groups w body closing ∷ others) (Sign y ts result ∷ own) cs)
    (ap (λ b. checked_function name (parameters_with empty_scope (parameter_names groups) ts) result closing b ∷ rest) (same ∙ again ∙ last) ∙ ap (λ c. c ∷ rest) (some_inj ic) ∙ some_inj q)
    (rules.one_function done fit well (subst (λ b. stands_in_order place.start b.0 closing.start ≡ true) (sym (same ∙ again)) ordered) (functions_sound fs others own rest ir)))))))))))

function_complete : (fs : List Signature) (place closing : Place) (name y : List ℕ) (groups : List Group) (w : Option WrittenType) (body : Statements) (ts : List Ty) (result : Option Ty) (b : Checked) → body_in (Within fs result []) (scope_with empty_scope (parameter_names groups) ts) body ≡ Some b → labels_fit body ≡ true → ends_well result body ≡ true → stands_in_order place.start b.0 closing.start ≡ true → function_checked fs (files.FunctionOf place name groups w body closing) (Sign y ts result) ≡ Some (checked_function name (parameters_with empty_scope (parameter_names groups) ts) result closing b)
unfolding function_checked
function_complete fs place closing name y groups w body ts result b ib fit well ordered =
    then_some (body_in (Within fs result []) (scope_with empty_scope (parameter_names groups) ts) body) b _ ib
    ∙ then_some (where_true (labels_fit body) b) b _ (if_true (labels_fit body) b fit)
    ∙ then_some (where_true (ends_well result body) b) b _ (if_true (ends_well result body) b well)
    ∙ then_some (where_true (stands_in_order place.start b.0 closing.start) b) b _ (if_true (stands_in_order place.start b.0 closing.start) b ordered)

functions_complete : {fs : List Signature} {functions : List files.Function} {own : List Signature} {cs : List Function} → AreFunctions fs functions own cs → functions_in fs functions own ≡ Some cs
unfolding functions_in
functions_complete rules.no_function = refl
functions_complete {fs} (rules.one_function {place = place} {closing = closing} {name = name} {y = y} {groups = groups} {w = w} {body = body} {ts = ts} {result = r} {stmts = steps} {here = here} {around = around} {variables = variables} {others = others} {own = own} {checked = cs} d fit well ordered rest) =
    then_some (function_checked fs (files.FunctionOf place name groups w body closing) (Sign y ts r)) (checked_function name (parameters_with empty_scope (parameter_names groups) ts) r closing (steps, In here around variables)) (λ c. functions_in fs others own >>= λ cs. Some (c ∷ cs))
    (function_complete fs place closing name y groups w body ts r (steps, In here around variables) (body_complete d) fit well ordered)
    ∙ then_some (functions_in fs others own) cs (λ cs. Some (checked_function name (parameters_with empty_scope (parameter_names groups) ts) r closing (steps, In here around variables) ∷ cs)) (functions_complete rest)

-- the function main
record IsMain (fs : List Signature) (k : ℕ) : Type 0 where
  name : List ℕ
  is : function_in fs (codes "main") ≡ Some k
  bare : signature fs k ≡ Some (Sign name [] None)

bare_is : (g : Signature) → is_bare g ≡ true → (y : List ℕ) × (g ≡ Sign y [] None)
bare_is (Sign y [] None) e = (y, refl)
bare_is (Sign y [] (Some t)) e = absurd (cc)
bare_is (Sign y (t ∷ ts) None) e = absurd (cc)
bare_is (Sign y (t ∷ ts) (Some u)) e = absurd (cc)

main_sound : (fs : List Signature) (k : ℕ) → main_in fs ≡ Some k → IsMain fs k
unfolding main_in
main_sound fs k q = on_some (function_in fs (codes "main")) (λ k. signature fs k >>= λ g. where_true (is_bare g) k) k q (λ j ij q.
    on_some (signature fs j) (λ g. where_true (is_bare g) j) k q (λ g ig q.
    on_true (is_bare g) j k q (λ bare same.
    let y = bare_is g bare in
    subst (λ k. IsMain fs k) same (record { name = y.0; is = ij; bare = ig ∙ ap Some y.1 }))))

main_complete : (fs : List Signature) (k : ℕ) (y : List ℕ) → function_in fs (codes "main") ≡ Some k → signature fs k ≡ Some (Sign y [] None) → main_in fs ≡ Some k
unfolding main_in
main_complete fs k y is bare =
    then_some (function_in fs (codes "main")) k (λ k. signature fs k >>= λ g. where_true (is_bare g) k) is
    ∙ then_some (signature fs k) (Sign y [] None) (λ g. where_true (is_bare g) k) bare

pub file_sound : (f : FileTree) (p : Program) → program_in f ≡ Some p → ProgramOf f p
unfolding program_in
file_sound (FileOf place package_name functions) p q = on_some (where_true (has_text package_name (codes "main")) functions) (λ functions. signatures_in functions >>= checked_signatures functions) p q (λ gs ig q.
    on_true (has_text package_name (codes "main")) functions gs ig (λ named same.
    let q = ap (λ functions. signatures_in functions >>= checked_signatures functions) same ∙ q in
    on_some (signatures_in functions) (checked_signatures functions) p q (λ fs ifs q.
    on_some (where_true (may_be_functions fs) fs) (λ fs. main_in fs >>= program_of fs functions) p q (λ hs ih q.
    on_true (may_be_functions fs) fs hs ih (λ may again.
    let q = ap (λ fs. main_in fs >>= program_of fs functions) again ∙ q in
    on_some (main_in fs) (program_of fs functions) p q (λ k ik q.
    on_some (functions_in fs functions fs) (λ cs. Some (ProgramIs cs k)) p q (λ cs ics q.
    let m = main_sound fs k ik in
    subst (λ p. ProgramOf (FileOf place package_name functions) p) (some_inj q) (rules.main (same_text package_name (codes "main") (sym named)) (signatures_sound functions fs ifs) may m.is m.bare (functions_sound fs functions fs cs ics)))))))))

main_text : (x : List ℕ) → x ≡ codes "main" → has_text x (codes "main") ≡ true
main_text x e = rw e refl

pub file_complete : {f : FileTree} {p : Program} → ProgramOf f p → program_in f ≡ Some p
unfolding program_in
file_complete (rules.main {place = place} {package_name = x} {y = y} {functions = functions} {fs = fs} {checked = cs} {k = k} named are may is bare each) =
    then_some (where_true (has_text x (codes "main")) functions) functions (λ functions. signatures_in functions >>= checked_signatures functions) (if_true (has_text x (codes "main")) functions (main_text x named))
    ∙ then_some (signatures_in functions) fs (checked_signatures functions) (signatures_complete are)
    ∙ then_some (where_true (may_be_functions fs) fs) fs (λ fs. main_in fs >>= program_of fs functions) (if_true (may_be_functions fs) fs may)
    ∙ then_some (main_in fs) k (program_of fs functions) (main_complete fs k y is bare)
    ∙ then_some (functions_in fs functions fs) cs (λ cs. Some (ProgramIs cs k)) (functions_complete each)

pub one_program : (f : FileTree) (p q : Program) → ProgramOf f p → ProgramOf f q → p ≡ q
one_program f p q a b = some_inj (sym (file_complete a) ∙ file_complete b)
