-- What the functions that write the code of functions need of it.
use Rattle.std.proofs.Common.{◌≡◌, ℕ, zero, suc, ◌+◌, ◌<◌, ◌≤◌, List, [], ◌∷◌, ◌++◌, length, get_or, drop, Option, refl, ap, ◌∙◌, arith, add-one, drop-cons}
use Rattle.gr_program.specs.declared.program.Function as code_function
use Rattle.gr_program.specs.declared.program.Variable as code_variable
use Rattle.gr_program.specs.TypeViews.{declared_of}
use Rattle.gr_program.specs.Views.{function_of, functions_of}
use Rattle.gr_code.specs.declared.code.FunctionCode as code
use Rattle.gr_code.specs.Instructions.{Instruction}
use Rattle.gr_code.specs.CodeFrames.{FunctionCode}
use Rattle.gr_code.specs.CodeViews.{function_code_of, function_codes_of}

pub drop_functions : (fs : List code_function.Function) (i : ℕ) (f : code_function.Function) → i < length fs
    → functions_of (drop i fs) ≡ function_of (get_or fs i f) ∷ functions_of (drop (i + 1) fs)
drop_functions fs i f lt = rw add-one (ap functions_of (drop-cons fs i f lt))

pub drop_no_functions : (fs : List code_function.Function) (i : ℕ) → length fs ≤ i → functions_of (drop i fs) ≡ []
drop_no_functions [] zero le = refl
drop_no_functions [] (suc i) le = refl
drop_no_functions (e ∷ es) zero le = absurd (omega arith)
drop_no_functions (e ∷ es) (suc i) le = drop_no_functions es i (omega arith)

pub codes_push : (cs : List code.FunctionCode) (c : code.FunctionCode) (rest : List FunctionCode)
    → function_codes_of (cs ++ c ∷ []) ++ rest ≡ function_codes_of cs ++ function_code_of c ∷ rest
codes_push [] c rest = refl
codes_push (d ∷ cs) c rest = ap (λ l. function_code_of d ∷ l) (codes_push cs c rest)

pub declared_length : (vs : List code_variable.Variable) → length (declared_of vs) ≡ length vs
declared_length [] = refl
declared_length (v ∷ vs) = omega (arith, declared_length vs)

abbrev pub make : List (Option ℕ) → ℕ → ℕ → List Instruction → List ℕ → FunctionCode
make p v n i l = record { parameters = p; variables = v; cells = n; instructions = i; lines = l }

-- code with equal parts is the same
pub same_code : (p q : List (Option ℕ)) (v w n m : ℕ) (i j : List Instruction) (k l : List ℕ) → p ≡ q → v ≡ w → n ≡ m → i ≡ j → k ≡ l
    → make p v n i k ≡ make q w m j l
same_code p q v w n m i j k l ep ev en ei el =
    ap (λ x. make x v n i k) ep ∙ ap (λ x. make q x n i k) ev ∙ ap (λ x. make q w x i k) en ∙ ap (λ x. make q w m x k) ei ∙ ap (make q w m j) el
