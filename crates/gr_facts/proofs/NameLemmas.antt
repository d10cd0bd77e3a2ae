-- The names of variables of a function, one by one.
use Rattle.std.proofs.Common.{◌≡◌, ℕ, List, [], ◌∷◌, ◌++◌, map, slice_get, Option, Some, None, Vec, refl, sym, ap, ◌∙◌, append-nil}
use Rattle.std.specs.Prelude.{option_map, option_and_then, Result, Ok, Err, IfOk}
use Rattle.std.specs.Option.{option_map_or}
use Rattle.gr_code.specs.CodeFrames.{ProgramCode}
use Rattle.gr_code.specs.CodeFrames as frames
use Rattle.gr_code.specs.CodeViews.{function_code_of, function_codes_of, instruction_of}
use Rattle.gr_code.specs.Instructions as instructions
use Rattle.gr_code.specs.declared.code.FunctionCode.{FunctionCode}
use Rattle.gr_code.specs.declared.code.Instruction.{Instruction}
use Rattle.gr_goros.specs.declared.undo.Spot.{Spot}
use Rattle.gr_program.specs.Programs.{Declared, Named, Program}
use Rattle.gr_program.specs.Programs as pure
use Rattle.gr_program.specs.Views.{function_of, functions_of, parameters_of}
use Rattle.gr_program.specs.declared.program.Function.{Function}
use Rattle.gr_program.specs.declared.program.Parameter.{Parameter}
use Rattle.gr_program.specs.TypeViews.{declared_of, variable_of}
use Rattle.gr_program.specs.declared.program.Variable.{Variable}
use Rattle.gr_rules.specs.Assigned.{named, names_of, names_in}
use Rattle.gr_rules.specs.Assigned.{parameters_of as parameters_ruled}
use Rattle.gr_rules.specs.Frames as rules
use Rattle.gr_depend.specs.Given.{given_at, given_there, parameters_named}
use Rattle.gr_depend.proofs.CalledLemmas.{get_variable, get_function, get_code, get_instruction}
use Rattle.gr_facts.specs.Facts.{name_of}
use Rattle.gr_facts.specs.Recorded.{line_there}

-- the bytes of names
abbrev pub bytes_of : {A : Type 0} → List (Vec ℕ A) → List (List ℕ)
bytes_of names = map (λ name. name.items) names

bytes_pushed : {A : Type 0} (names : List (Vec ℕ A)) (name : Vec ℕ A) → bytes_of (names ++ name ∷ []) ≡ bytes_of names ++ name.items ∷ []
bytes_pushed [] name = refl
bytes_pushed (n ∷ names) name = ap (λ l. n.items ∷ l) (bytes_pushed names name)

-- a variable that is not there has no name; one that is there is pushed
pub no_name : {A : Type 0} (vs : List Variable) (k : ℕ) (names : List (Vec ℕ A)) → None ≡ slice_get vs k
    → bytes_of names ≡ bytes_of names ++ names_of (declared_of vs) (Some k ∷ [])
no_name vs k names none =
    sym (append-nil (bytes_of names))
    ∙ ap (λ o. bytes_of names ++ named o []) (sym (get_variable vs k ∙ ap (option_map variable_of) (sym none)))

pub name_pushed : {A : Type 0} (vs : List Variable) (k : ℕ) (v : Variable) (old new : List (Vec ℕ A)) (name : Vec ℕ A) → Some v ≡ slice_get vs k
    → name.items ≡ v.name.items → new ≡ old ++ name ∷ [] → bytes_of new ≡ bytes_of old ++ names_of (declared_of vs) (Some k ∷ [])
name_pushed vs k v old new name there copied pushed =
    ap bytes_of pushed ∙ bytes_pushed old name ∙ ap (λ x. bytes_of old ++ x ∷ []) copied
    ∙ ap (λ o. bytes_of old ++ named o []) (sym (get_variable vs k ∙ ap (option_map variable_of) (sym there)))

-- names that are the same
pub bytes_on : {A E : Type 0} (r : Result (Vec (Vec ℕ A) A) E) (xs ys : List (List ℕ)) → xs ≡ ys → IfOk r (λ names. bytes_of names.items ≡ xs)
    → IfOk r (λ names. bytes_of names.items ≡ ys)
bytes_on (Ok names) xs ys same told = told ∙ same
bytes_on (Err e) xs ys same told = tt

-- functions by their numbers
found : (fs : List Function) (k : ℕ) (o : Option Function) → o ≡ slice_get fs k → slice_get (functions_of fs) k ≡ option_map function_of o
found fs k o e = get_function fs k ∙ ap (option_map function_of) (sym e)

pub no_targets : (ks : List (Option ℕ)) (fs : List Function) (k : ℕ) → None ≡ slice_get fs k → [] ≡ names_in (slice_get (functions_of fs) k) ks
no_targets ks fs k e = sym (ap (λ o. names_in o ks) (found fs k None e))

pub targets_found : (ks : List (Option ℕ)) (fs : List Function) (k : ℕ) (f : Function) → Some f ≡ slice_get fs k
    → names_of (declared_of f.variables.items) ks ≡ names_in (slice_get (functions_of fs) k) ks
targets_found ks fs k f e = sym (ap (λ o. names_in o ks) (found fs k (Some f) e))

abbrev takes_by : Option pure.Function → List (List ℕ)
takes_by o = names_in o (parameters_ruled o)

variables_alike : (ps : List Parameter) → map (λ (p : Parameter). p.variable) ps ≡ map rules.variable_of (parameters_of ps)
variables_alike [] = refl
variables_alike (p ∷ ps) = ap (λ l. p.variable ∷ l) (variables_alike ps)

pub no_parameters : (fs : List Function) (main k : ℕ) → None ≡ slice_get fs k → [] ≡ parameters_named (pure.ProgramIs (functions_of fs) main) k
no_parameters fs main k e = sym (ap takes_by (found fs k None e))

pub parameters_found : (fs : List Function) (main k : ℕ) (f : Function) → Some f ≡ slice_get fs k
    → names_of (declared_of f.variables.items) (map (λ (p : Parameter). p.variable) f.parameters.items) ≡ parameters_named (pure.ProgramIs (functions_of fs) main) k
parameters_found fs main k f e =
    ap (names_of (declared_of f.variables.items)) (variables_alike f.parameters.items) ∙ sym (ap takes_by (found fs k (Some f) e))

-- the name of a function
pub no_function : (fs : List Function) (k : ℕ) → None ≡ slice_get fs k → None ≡ option_map name_of (slice_get (functions_of fs) k)
no_function fs k e = sym (ap (option_map name_of) (found fs k None e))

pub function_found : (fs : List Function) (k : ℕ) (f : Function) (name : List ℕ) → Some f ≡ slice_get fs k → name ≡ f.name.items
    → Some name ≡ option_map name_of (slice_get (functions_of fs) k)
function_found fs k f name e is = ap Some is ∙ sym (ap (option_map name_of) (found fs k (Some f) e))

-- what the code has at a spot
module _ (fs : List FunctionCode) (main : ℕ) (s : Spot) where
  abbrev code : ProgramCode
  code = record { functions = function_codes_of fs; main = main }

  coded : (o : Option FunctionCode) → o ≡ slice_get fs s.function → slice_get (function_codes_of fs) s.function ≡ option_map function_code_of o
  coded o e = get_code fs s.function ∙ ap (option_map function_code_of) (sym e)

  abbrev line_by : Option frames.FunctionCode → Option ℕ
  line_by o = option_and_then (λ c. slice_get c.lines s.number) o

  pub no_code : None ≡ slice_get fs s.function → None ≡ line_there code s
  no_code e = sym (ap line_by (coded None e))

  pub line_found : (f : FunctionCode) (o : Option ℕ) → Some f ≡ slice_get fs s.function → o ≡ slice_get f.lines.items s.number → o ≡ line_there code s
  line_found f o e is = is ∙ sym (ap line_by (coded (Some f) e))

  module _ (p : Program) where
    abbrev given_by : Option instructions.Instruction → List (List ℕ)
    given_by o = option_map_or (given_at p s.function) o []

    abbrev given_in : Option frames.FunctionCode → List (List ℕ)
    given_in o = given_by (option_and_then (λ c. slice_get c.instructions s.number) o)

    pub none_coded : None ≡ slice_get fs s.function → [] ≡ given_there p code s
    none_coded e = sym (ap given_in (coded None e))

    pub no_instruction : (f : FunctionCode) → Some f ≡ slice_get fs s.function → None ≡ slice_get f.instructions.items s.number → [] ≡ given_there p code s
    no_instruction f e h = sym (ap given_in (coded (Some f) e) ∙ ap given_by (get_instruction f.instructions.items s.number ∙ ap (option_map instruction_of) (sym h)))

    pub given_found : (f : FunctionCode) (i : Instruction) → Some f ≡ slice_get fs s.function → Some i ≡ slice_get f.instructions.items s.number
        → given_at p s.function (instruction_of i) ≡ given_there p code s
    given_found f i e h =
        sym (ap given_in (coded (Some f) e) ∙ ap given_by (get_instruction f.instructions.items s.number ∙ ap (option_map instruction_of) (sym h)))
