use Rattle.std.proofs.Common.{◌≡◌, drop}
use Rattle.gr_tree.specs.Files.{functions_of}
use Rattle.gr_types.specs.Codes.{is_function}
use Rattle.gr_types.proofs.parameters.is_function.Given as goal

abbrev pub invariant-loop-func : goal.invariant-loop-func
invariant-loop-func l = is_function (functions_of (drop l.func-index l.funcs)) l.name ≡ is_function (functions_of l.funcs) l.name
