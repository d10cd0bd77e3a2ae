use Rattle.std.proofs.Common.{◌≡◌, drop}
use Rattle.gr_program.specs.Views.{exprs_of}
use Rattle.gr_program.specs.Sameness.{same_exprs}
use Rattle.gr_program.proofs.expr_equality.+same_exprs.Given as goal

abbrev pub invariant-are_same_exprs-loop-number : goal.invariant-are_same_exprs-loop-number
invariant-are_same_exprs-loop-number l = same_exprs (exprs_of (drop l.number l.a)) (exprs_of (drop l.number l.b)) ≡ same_exprs (exprs_of l.a) (exprs_of l.b)
