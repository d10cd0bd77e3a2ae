use Rattle.std.proofs.Common.{◌≡◌, drop}
use Rattle.std.specs.Cmp.Lexicographic.{pointwise}
use Rattle.gr_program.specs.Views.{parameters_of}
use Rattle.gr_program.specs.Sameness.{same_parameter}
use Rattle.gr_program.proofs.equality.are_same_parameters.Given as goal

abbrev pub invariant-loop-number : goal.invariant-loop-number
invariant-loop-number l = pointwise same_parameter (parameters_of (drop l.number l.a)) (parameters_of (drop l.number l.b)) ≡ pointwise same_parameter (parameters_of l.a) (parameters_of l.b)
