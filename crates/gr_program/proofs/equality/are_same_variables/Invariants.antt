use Rattle.std.proofs.Common.{◌≡◌, drop}
use Rattle.std.specs.Cmp.Lexicographic.{pointwise}
use Rattle.gr_program.specs.TypeViews.{declared_of}
use Rattle.gr_program.specs.Sameness.{same_declared}
use Rattle.gr_program.proofs.equality.are_same_variables.Given as goal

abbrev pub invariant-loop-number : goal.invariant-loop-number
invariant-loop-number l = pointwise same_declared (declared_of (drop l.number l.a)) (declared_of (drop l.number l.b)) ≡ pointwise same_declared (declared_of l.a) (declared_of l.b)
