-- Look-ups in code.
use Rattle.std.proofs.Common.{◌≡◌, ℕ, zero, suc, List, [], ◌∷◌, Option, Some, None, refl, sym, ap, ◌∙◌}
use Rattle.std.specs.Prelude.{slice_get, option_map, option_and_then}
use Rattle.gr_rules.specs.Outcomes.{gives, wrong}
use Rattle.gr_code.specs.declared.code.Code.{Code}
use Rattle.gr_code.specs.CodeFrames.{CodeFrame}
use Rattle.gr_code.specs.CodeFrames as frames
use Rattle.gr_code.specs.Instructions as instructions
use Rattle.gr_code.specs.Goroutines.{instruction_in, instruction_here, line_of}
use Rattle.gr_code.specs.declared.code.Arm.{Arm}
use Rattle.gr_code.specs.declared.code.Instruction.{Instruction}
use Rattle.gr_code.specs.declared.code.FunctionCode.{FunctionCode}
use Rattle.gr_code.specs.CodeViews.{arm_of, arms_of, instruction_of, instructions_of, function_code_of, function_codes_of, program_code_of}

pub get_function : (fs : List FunctionCode) (k : ℕ) → slice_get (function_codes_of fs) k ≡ option_map function_code_of (slice_get fs k)
get_function [] k = refl
get_function (f ∷ fs) zero = refl
get_function (f ∷ fs) (suc k) = get_function fs k

pub get_instruction : (is : List Instruction) (k : ℕ) → slice_get (instructions_of is) k ≡ option_map instruction_of (slice_get is k)
get_instruction [] k = refl
get_instruction (i ∷ is) zero = refl
get_instruction (i ∷ is) (suc k) = get_instruction is k

pub get_arm : (as' : List Arm) (k : ℕ) → slice_get (arms_of as') k ≡ option_map arm_of (slice_get as' k)
get_arm [] k = refl
get_arm (a ∷ as') zero = refl
get_arm (a ∷ as') (suc k) = get_arm as' k

abbrev instruction_of_function : CodeFrame → Option frames.FunctionCode → Option instructions.Instruction
instruction_of_function f o = option_and_then (λ c. slice_get c.instructions f.number) o

pub found_function : (fs : List FunctionCode) (k : ℕ) (f : FunctionCode) → Some f ≡ slice_get fs k
    → slice_get (function_codes_of fs) k ≡ Some (function_code_of f)
found_function fs k f e = get_function fs k ∙ ap (option_map function_code_of) (sym e)

pub no_function : (fs : List FunctionCode) (k : ℕ) → None ≡ slice_get fs k → slice_get (function_codes_of fs) k ≡ None
no_function fs k e = get_function fs k ∙ ap (option_map function_code_of) (sym e)

pub found_instruction : (code : Code) (f : CodeFrame) (fn : FunctionCode) (i : Instruction)
    → Some fn ≡ slice_get code.functions.items f.function → Some i ≡ slice_get fn.instructions.items f.number
    → instruction_in (program_code_of code) f ≡ gives (instruction_of i)
found_instruction code f fn i e h =
    ap (λ o. instruction_here (instruction_of_function f o)) (found_function code.functions.items f.function fn e)
    ∙ ap instruction_here (get_instruction fn.instructions.items f.number ∙ ap (option_map instruction_of) (sym h))

pub no_instruction : (code : Code) (f : CodeFrame) (fn : FunctionCode)
    → Some fn ≡ slice_get code.functions.items f.function → None ≡ slice_get fn.instructions.items f.number
    → instruction_in (program_code_of code) f ≡ wrong
no_instruction code f fn e h =
    ap (λ o. instruction_here (instruction_of_function f o)) (found_function code.functions.items f.function fn e)
    ∙ ap instruction_here (get_instruction fn.instructions.items f.number ∙ ap (option_map instruction_of) (sym h))

pub no_function_in : (code : Code) (f : CodeFrame) → None ≡ slice_get code.functions.items f.function
    → instruction_in (program_code_of code) f ≡ wrong
no_function_in code f e = ap (λ o. instruction_here (instruction_of_function f o)) (no_function code.functions.items f.function e)

pub found_arm : (as' : List Arm) (k : ℕ) (a : Arm) → Some a ≡ slice_get as' k → slice_get (arms_of as') k ≡ Some (arm_of a)
found_arm as' k a e = get_arm as' k ∙ ap (option_map arm_of) (sym e)

pub no_arm : (as' : List Arm) (k : ℕ) → None ≡ slice_get as' k → slice_get (arms_of as') k ≡ None
no_arm as' k e = get_arm as' k ∙ ap (option_map arm_of) (sym e)

abbrev line_by : CodeFrame → Option frames.FunctionCode → Option ℕ
line_by f o = option_and_then (λ c. slice_get c.lines f.number) o

pub found_line : (code : Code) (f : CodeFrame) (fn : FunctionCode) (o : Option ℕ)
    → Some fn ≡ slice_get code.functions.items f.function → o ≡ slice_get fn.lines.items f.number
    → line_of (program_code_of code) f ≡ o
found_line code f fn o e h = ap (line_by f) (found_function code.functions.items f.function fn e) ∙ sym h

pub no_function_line : (code : Code) (f : CodeFrame) → None ≡ slice_get code.functions.items f.function
    → line_of (program_code_of code) f ≡ None
no_function_line code f e = ap (line_by f) (no_function code.functions.items f.function e)
