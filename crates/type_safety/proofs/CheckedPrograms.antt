-- Programs that the checker takes are sorted.
use Rattle.std.proofs.Common.{◌≡◌, ℕ, true, false, List, [], ◌∷◌, map, Option, Some, None, refl, sym, ◌∙◌, ap, subst, inl, inr, append-nil, true≢false}
use Rattle.std.proofs.lemmas.Option.{none-some}
use Rattle.std.specs.Prelude.{◌&&◌}
use Rattle.std.specs.List.{list_all}
use Rattle.std.proofs.lemmas.Bool.{cases_Bool}
use Rattle.gr_tree.specs.Statements.{Statements}
use Rattle.gr_scan.specs.declared.token.Place.{Place}
use Rattle.gr_tree.specs.Files as files
use Rattle.gr_tree.specs.Files.{Group}
use Rattle.gr_program.specs.Types.{Ty}
use Rattle.gr_program.specs.Programs.{Stmts, Declared, Function, FunctionIs}
use Rattle.gr_typing.specs.Names.{is_blank}
use Rattle.gr_typing.specs.Scopes.{Block, Scope, In, is_free, declared, number_of, Signature, Sign, may_name}
use Rattle.gr_typing.specs.Contexts.{Within}
use Rattle.gr_typing.specs.Statements.{IsBody}
use Rattle.gr_typing.specs.FileChecks as rules
use Rattle.gr_typing.specs.FileChecks.{parameter_names, scope_with, parameters_with, empty_scope, AreSignatures, ends_well, AreFunctions}
use Rattle.gr_rules.specs.Frames.{variable_of}
use Rattle.type_safety.proofs.Sorts.{sort_of, Setting, AreTargets, numbers_of}
use Rattle.type_safety.proofs.Bodies as bodies
use Rattle.type_safety.proofs.Bodies.{SortedFunction, SortedFunctions}
use Rattle.type_safety.proofs.Promises.{Live, Begins, Grows, ProgramIsSorted}
use Rattle.type_safety.proofs.DeclaredNames.{Declarable, may_all}
use Rattle.type_safety.proofs.Growing.{begins_back}
use Rattle.type_safety.proofs.NewVariables.{Sets, sets_live, sets_none, sets_declared, sets_then}
use Rattle.type_safety.proofs.CheckedNests.{outermost}
use Rattle.type_safety.proofs.CheckedGrowth.{body_grows}
use Rattle.type_safety.proofs.CheckedBodies.{body_sorted}

-- parameters are variables of the block of the body
parameters_set : (ds : List Declared) (s : Scope) (xs : List (List ℕ)) (ts : List Ty) → Declarable s xs
    → Sets ds s (scope_with s xs ts) (map variable_of (parameters_with s xs ts)) (map sort_of ts)
parameters_set ds s [] ts may = sets_none ds s (map sort_of ts)
parameters_set ds s (x ∷ xs) [] may = sets_none ds s []
parameters_set ds s (x ∷ xs) (t ∷ ts) may =
    let m = declared s x t in
    sets_then ds s m (scope_with m xs ts) (number_of m x) (map variable_of (parameters_with m xs ts)) (sort_of t) (map sort_of ts) (sets_declared ds s x t may.0) (parameters_set ds m xs ts (may.1 t))

-- before a body its parameters hold values, and no other variable does
abbrev held : List (List ℕ) → List Ty → List (Option ℕ)
held xs ts = map variable_of (parameters_with empty_scope xs ts)

module _ (ds : List Declared) (xs : List (List ℕ)) (ts : List Ty) (n : Scope) (may : Declarable empty_scope xs) where
  parameters_live : Live (scope_with empty_scope xs ts) (numbers_of (held xs ts))
  parameters_live =
      subst (Live (scope_with empty_scope xs ts)) (append-nil (numbers_of (held xs ts)))
      (sets_live ds empty_scope (scope_with empty_scope xs ts) (held xs ts) (map sort_of ts) []
      (parameters_set ds empty_scope xs ts may) (λ x k e. absurd (none-some k e)))

  parameters_fit : Grows (scope_with empty_scope xs ts) n → Begins n ds → AreTargets ds (held xs ts) (map sort_of ts)
  parameters_fit g begins =
      (parameters_set ds empty_scope xs ts may).targets
      (begins_back (scope_with empty_scope xs ts) n ds g begins)

all_free : (xs : List (List ℕ)) → list_all (is_free empty_scope) xs ≡ true
all_free [] = refl
all_free (x ∷ xs) = elim (cases_Bool (is_blank x)) [ inl b ↦ rw b (all_free xs) | inr b ↦ rw b (all_free xs) ]

names_declarable : (xs : List (List ℕ)) → may_name xs ≡ true → Declarable empty_scope xs
names_declarable xs may = may_all empty_scope xs (ap (λ b. b && list_all (is_free empty_scope) xs) may ∙ all_free xs)

module _ (fs : List Signature) where
  -- a function's body, at the end of which control comes only where it has no result
  function_sorted : (y name : List ℕ) (xs : List (List ℕ)) (ts : List Ty) (result : Option Ty) (body : Statements)
      (stmts : Stmts) (last : Place) (here : Block) (around : List Block) (variables : List Declared)
      → Declarable empty_scope xs
      → IsBody (Within fs result []) (scope_with empty_scope xs ts) body stmts (In here around variables)
      → ends_well result body ≡ true
      → SortedFunction fs (Sign y ts result)
      (FunctionIs name (parameters_with empty_scope xs ts) result variables stmts last)
  function_sorted y name xs ts None body stmts last here around variables may h well =
      let n = In here around variables in
      let d : Setting = record { functions = fs; variables = variables; result = None } in
      bodies.function (parameters_fit variables xs ts n may (body_grows h) (λ k t e. e))
      (body_sorted d [] (numbers_of (held xs ts)) true h (λ e. absurd (true≢false e)) outermost
      (parameters_live variables xs ts n may) (λ k t e. e))
      (λ e. refl)
  function_sorted y name xs ts (Some t) body stmts last here around variables may h well =
      let n = In here around variables in
      let d : Setting = record { functions = fs; variables = variables; result = Some t } in
      bodies.function (parameters_fit variables xs ts n may (body_grows h) (λ k t e. e))
      (body_sorted d [] (numbers_of (held xs ts)) false h (λ e. well) outermost
      (parameters_live variables xs ts n may) (λ k t e. e))
      (λ e. absurd (true≢false (sym e)))

  functions_sorted : {functions : List files.Function} {own : List Signature} {checked : List Function}
      → AreFunctions fs functions own checked → AreSignatures functions own → SortedFunctions fs own checked
  functions_sorted rules.no_function signatures = bodies.no_function
  functions_sorted
      (rules.one_function {closing = closing} {name = name} {y = y} {groups = groups} {body = body} {ts = ts} {result = result} {stmts = stmts} {here = here} {around = around} {variables = variables} {others = others} h fit well ordered rest)
      (rules.one_signature types of may more) =
      bodies.one_function
      (function_sorted y name (parameter_names groups) ts result body stmts closing here around variables
      (names_declarable (parameter_names groups) may) h well)
      (functions_sorted rest more)

pub program_is_sorted : ProgramIsSorted
program_is_sorted file p (rules.main {fs = fs} named signatures may first is h) =
    (fs, bodies.main (functions_sorted fs h signatures) is)
