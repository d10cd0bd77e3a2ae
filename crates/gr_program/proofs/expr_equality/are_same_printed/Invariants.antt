use Rattle.std.proofs.Common.{◌≡◌, drop}
use Rattle.std.specs.Cmp.Lexicographic.{pointwise}
use Rattle.gr_program.specs.Views.{prints_of}
use Rattle.gr_program.specs.Sameness.{same_printed}
use Rattle.gr_program.proofs.expr_equality.are_same_printed.Given as goal

abbrev pub invariant-loop-number : goal.invariant-loop-number
invariant-loop-number l = pointwise same_printed (prints_of (drop l.number l.a)) (prints_of (drop l.number l.b)) ≡ pointwise same_printed (prints_of l.a) (prints_of l.b)
