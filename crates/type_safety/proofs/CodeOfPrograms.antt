-- Programs that the checker takes have code.
use Rattle.std.proofs.Common.{ℕ, List, length, map, Option}
use Rattle.gr_scan.specs.declared.token.Place.{Place}
use Rattle.gr_tree.specs.Files as files
use Rattle.gr_tree.specs.Files.{FileTree}
use Rattle.gr_program.specs.Types.{Ty}
use Rattle.gr_program.specs.Programs.{Stmts, Declared, Parameter, Function, FunctionIs, Program, ProgramIs}
use Rattle.gr_typing.specs.Scopes.{Signature}
use Rattle.gr_typing.specs.FileChecks as rules
use Rattle.gr_typing.specs.FileChecks.{ProgramOf, AreFunctions}
use Rattle.gr_rules.specs.Frames.{variable_of}
use Rattle.gr_code.specs.Programs.{ProgramFits}
use Rattle.gr_code.specs.Vectors.{TargetsBelow}
use Rattle.gr_lower.specs.CanLower.{CanLowerAll, CanLower}
use Rattle.gr_lower.specs.Lowered.{lowered, meaning}
use Rattle.gr_lower.proofs.FunctionsFit.{program_fits}
use Rattle.type_safety.proofs.Sorts.{Setting}
use Rattle.type_safety.proofs.Bodies as bodies
use Rattle.type_safety.proofs.Bodies.{SortedFunction, SortedFunctions, SortedProgram}
use Rattle.type_safety.proofs.CheckedPrograms.{program_is_sorted}
use Rattle.type_safety.proofs.CodeOfActs.{targets_below}
use Rattle.type_safety.proofs.CodeOfBodies.{body_can}

-- parameters by their sorts
parameters_below : {fs : List Signature} {g : Signature} {name : List ℕ} {parameters : List Parameter}
    {result : Option Ty} {variables : List Declared} {body : Stmts} {last : Place}
    → SortedFunction fs g (FunctionIs name parameters result variables body last)
    → TargetsBelow (length variables) (map variable_of parameters)
parameters_below (bodies.function targets body ending) = targets_below targets

-- functions by the judgement of their bodies
functions_can : (fs gs : List Signature) {functions : List files.Function} {own others : List Signature}
    {checked : List Function}
    → AreFunctions fs functions own checked → SortedFunctions gs others checked → CanLowerAll checked
functions_can fs gs rules.no_function bodies.no_function = tt
functions_can fs gs (rules.one_function {result = result} {variables = variables} h fit well ordered rest) (bodies.one_function sorted more) =
    let d : Setting = record { functions = fs; variables = variables; result = result } in
    ((parameters_below sorted, body_can d h (λ k t e. e)), functions_can fs gs rest more)

sorted_can : (fs gs : List Signature) {functions : List files.Function} {own : List Signature} {checked : List Function}
    {k : ℕ}
    → AreFunctions fs functions own checked → SortedProgram gs (ProgramIs checked k) → CanLowerAll checked
sorted_can fs gs h (bodies.main sorted is) = functions_can fs gs h sorted

pub checked_can : (file : FileTree) (p : Program) → ProgramOf file p → CanLower p
checked_can file p (rules.main {fs = fs} {checked = checked} {k = k} named signatures may first is h) =
    let sorted = program_is_sorted file (ProgramIs checked k) (rules.main named signatures may first is h) in
    sorted_can fs sorted.0 h sorted.1

pub checked_fits : (file : FileTree) (p : Program) → ProgramOf file p → ProgramFits (meaning p) p (lowered p)
checked_fits file p h = program_fits p (checked_can file p h)
