use Rattle.std.proofs.Common.{◌≡◌, ◌++◌, drop, map}
use Rattle.gr_program.specs.Views.{functions_of}
use Rattle.gr_code.specs.CodeViews.{function_codes_of}
use Rattle.gr_lower.specs.Lowered.{lowered_function}
use Rattle.gr_lower.proofs.lowering.lower.Given as goal

abbrev pub invariant-loop-function : goal.invariant-loop-function
invariant-loop-function l = function_codes_of l.functions.items ++ map lowered_function (functions_of (drop l.function-index l.function-items))
    ≡ map lowered_function (functions_of l.function-items)
