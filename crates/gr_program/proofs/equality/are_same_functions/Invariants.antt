use Rattle.std.proofs.Common.{◌≡◌, drop}
use Rattle.std.specs.Cmp.Lexicographic.{pointwise}
use Rattle.gr_program.specs.Views.{functions_of}
use Rattle.gr_program.specs.Sameness.{same_function}
use Rattle.gr_program.proofs.equality.are_same_functions.Given as goal

abbrev pub invariant-loop-number : goal.invariant-loop-number
invariant-loop-number l = pointwise same_function (functions_of (drop l.number l.a)) (functions_of (drop l.number l.b)) ≡ pointwise same_function (functions_of l.a) (functions_of l.b)
