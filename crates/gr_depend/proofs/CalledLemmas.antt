-- The names of variables, one by one.
use Rattle.std.proofs.Common.{◌≡◌, ℕ, zero, suc, Bool, true, false, ◌||◌, List, [], ◌∷◌, map, Option, Some, None, refl, sym, ap, ◌∙◌}
use Rattle.std.specs.Prelude.{slice_get, option_map, option_and_then}
use Rattle.std.specs.Option.{option_map_or}
use Rattle.gr_code.specs.CodeFrames.{ProgramCode}
use Rattle.gr_code.specs.CodeFrames as frames
use Rattle.gr_code.specs.Instructions as instructions
use Rattle.gr_goros.specs.declared.undo.Spot.{Spot}
use Rattle.std.specs.List.{list_any}
use Rattle.gr_code.specs.declared.code.FunctionCode.{FunctionCode}
use Rattle.gr_code.specs.declared.code.Instruction.{Instruction}
use Rattle.gr_code.specs.CodeViews.{instruction_of, instructions_of, function_code_of, function_codes_of}
use Rattle.gr_program.specs.Programs.{Declared, Named}
use Rattle.gr_program.specs.Programs as pure
use Rattle.gr_program.specs.declared.program.Function.{Function}
use Rattle.gr_program.specs.declared.program.Parameter.{Parameter}
use Rattle.gr_program.specs.declared.program.Variable.{Variable}
use Rattle.gr_program.specs.TypeViews.{variable_of, declared_of}
use Rattle.gr_program.specs.Views.{parameters_of, function_of, functions_of}
use Rattle.gr_rules.specs.Assigned.{named, names_of, names_in, same_variable}
use Rattle.gr_rules.specs.Assigned.{parameters_of as parameters_of_it}
use Rattle.gr_rules.specs.Frames as rules
use Rattle.gr_depend.specs.Given.{is_called, any_called, parameters_named, given_at, given_there}

pub get_variable : (vs : List Variable) (k : ℕ) → slice_get (declared_of vs) k ≡ option_map variable_of (slice_get vs k)
get_variable [] k = refl
get_variable (v ∷ vs) zero = refl
get_variable (v ∷ vs) (suc k) = get_variable vs k

pub get_function : (fs : List Function) (k : ℕ) → slice_get (functions_of fs) k ≡ option_map function_of (slice_get fs k)
get_function [] k = refl
get_function (f ∷ fs) zero = refl
get_function (f ∷ fs) (suc k) = get_function fs k

pub get_code : (fs : List FunctionCode) (k : ℕ) → slice_get (function_codes_of fs) k ≡ option_map function_code_of (slice_get fs k)
get_code [] k = refl
get_code (f ∷ fs) zero = refl
get_code (f ∷ fs) (suc k) = get_code fs k

pub get_instruction : (is : List Instruction) (k : ℕ) → slice_get (instructions_of is) k ≡ option_map instruction_of (slice_get is k)
get_instruction [] k = refl
get_instruction (i ∷ is) zero = refl
get_instruction (i ∷ is) (suc k) = get_instruction is k

-- one name, and the others
before_others : (x : List ℕ) (o : Option Declared) (names : List (List ℕ)) → list_any (same_variable x) (named o names)
    ≡ (list_any (same_variable x) (named o []) || list_any (same_variable x) names)
before_others x None names = refl
before_others x (Some (Named y type)) names = one (same_variable x y) (list_any (same_variable x) names)
  where
    one : (a b : Bool) → (a || b) ≡ ((a || false) || b)
    one true b = refl
    one false b = refl

one_by_one : (x : List ℕ) (ds : List Declared) (k : Option ℕ) (ks : List (Option ℕ)) → list_any (same_variable x) (names_of ds (k ∷ ks))
    ≡ (is_called x ds k || list_any (same_variable x) (names_of ds ks))
one_by_one x ds None ks = refl
one_by_one x ds (Some k) ks = before_others x (slice_get ds k) (names_of ds ks)

pub each_called : (x : List ℕ) (ds : List Declared) (ks : List (Option ℕ)) → list_any (is_called x ds) ks ≡ list_any (same_variable x) (names_of ds ks)
each_called x ds [] = refl
each_called x ds (k ∷ ks) = ap (λ b. is_called x ds k || b) (each_called x ds ks) ∙ sym (one_by_one x ds k ks)

pub parameters_called : (x : List ℕ) (ds : List Declared) (ps : List Parameter)
    → list_any (λ (p : Parameter). is_called x ds p.variable) ps ≡ list_any (same_variable x) (names_of ds (map rules.variable_of (parameters_of ps)))
parameters_called x ds [] = refl
parameters_called x ds (p ∷ ps) =
    ap (λ b. is_called x ds p.variable || b) (parameters_called x ds ps) ∙ sym (one_by_one x ds p.variable (map rules.variable_of (parameters_of ps)))

-- look-ups that find something, and those that find nothing
or_false : (a : Bool) → a ≡ (a || false)
or_false true = refl
or_false false = refl

abbrev called_by : List ℕ → Option Declared → Bool
called_by x o = list_any (same_variable x) (named o [])

pub variable_found : (x : List ℕ) (vs : List Variable) (k : ℕ) (v : Variable) → Some v ≡ slice_get vs k
    → same_variable x v.name.items ≡ is_called x (declared_of vs) (Some k)
variable_found x vs k v e =
    or_false (same_variable x v.name.items) ∙ ap (called_by x) (sym (get_variable vs k ∙ ap (option_map variable_of) (sym e)))

pub no_variable : (x : List ℕ) (vs : List Variable) (k : ℕ) → None ≡ slice_get vs k → false ≡ is_called x (declared_of vs) (Some k)
no_variable x vs k e = ap (called_by x) (sym (get_variable vs k ∙ ap (option_map variable_of) (sym e)))

found : (fs : List Function) (k : ℕ) (o : Option Function) → o ≡ slice_get fs k → slice_get (functions_of fs) k ≡ option_map function_of o
found fs k o e = get_function fs k ∙ ap (option_map function_of) (sym e)

abbrev names_by : List ℕ → List (Option ℕ) → Option pure.Function → Bool
names_by x ks o = any_called x (names_in o ks)

abbrev takes_by : List ℕ → Option pure.Function → Bool
takes_by x o = any_called x (names_in o (parameters_of_it o))

pub named_found : (x : List ℕ) (ks : List (Option ℕ)) (fs : List Function) (k : ℕ) (f : Function) → Some f ≡ slice_get fs k
    → list_any (is_called x (declared_of f.variables.items)) ks ≡ any_called x (names_in (slice_get (functions_of fs) k) ks)
named_found x ks fs k f e = each_called x (declared_of f.variables.items) ks ∙ sym (ap (names_by x ks) (found fs k (Some f) e))

pub none_named : (x : List ℕ) (ks : List (Option ℕ)) (fs : List Function) (k : ℕ) → None ≡ slice_get fs k
    → false ≡ any_called x (names_in (slice_get (functions_of fs) k) ks)
none_named x ks fs k e = sym (ap (names_by x ks) (found fs k None e))

pub parameter_found : (x : List ℕ) (fs : List Function) (main k : ℕ) (f : Function) → Some f ≡ slice_get fs k
    → list_any (λ (p : Parameter). is_called x (declared_of f.variables.items) p.variable) f.parameters.items
    ≡ any_called x (parameters_named (pure.ProgramIs (functions_of fs) main) k)
parameter_found x fs main k f e = parameters_called x (declared_of f.variables.items) f.parameters.items ∙ sym (ap (takes_by x) (found fs k (Some f) e))

pub no_parameter : (x : List ℕ) (fs : List Function) (main k : ℕ) → None ≡ slice_get fs k
    → false ≡ any_called x (parameters_named (pure.ProgramIs (functions_of fs) main) k)
no_parameter x fs main k e = sym (ap (takes_by x) (found fs k None e))

module _ (x : List ℕ) (p : pure.Program) (fs : List FunctionCode) (main : ℕ) (s : Spot) where
  abbrev code : ProgramCode
  code = record { functions = function_codes_of fs; main = main }

  abbrev given_by : Option instructions.Instruction → Bool
  given_by o = any_called x (option_map_or (given_at p s.function) o [])

  abbrev given_in : Option frames.FunctionCode → Bool
  given_in o = given_by (option_and_then (λ c. slice_get c.instructions s.number) o)

  pub given_found : (f : FunctionCode) (i : Instruction) → Some f ≡ slice_get fs s.function → Some i ≡ slice_get f.instructions.items s.number
      → any_called x (given_at p s.function (instruction_of i)) ≡ any_called x (given_there p code s)
  given_found f i e h = sym (
      ap given_in (get_code fs s.function ∙ ap (option_map function_code_of) (sym e))
      ∙ ap given_by (get_instruction f.instructions.items s.number ∙ ap (option_map instruction_of) (sym h)))

  pub no_instruction : (f : FunctionCode) → Some f ≡ slice_get fs s.function → None ≡ slice_get f.instructions.items s.number
      → false ≡ any_called x (given_there p code s)
  no_instruction f e h = sym (
      ap given_in (get_code fs s.function ∙ ap (option_map function_code_of) (sym e))
      ∙ ap given_by (get_instruction f.instructions.items s.number ∙ ap (option_map instruction_of) (sym h)))

  pub no_code : None ≡ slice_get fs s.function → false ≡ any_called x (given_there p code s)
  no_code e = sym (ap given_in (get_code fs s.function ∙ ap (option_map function_code_of) (sym e)))
