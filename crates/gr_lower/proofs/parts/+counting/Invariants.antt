use Rattle.std.proofs.Common.{◌≡◌, ◌+◌, drop}
use Rattle.gr_program.specs.Views.{exprs_of}
use Rattle.gr_rules.specs.Operands.{operands_of}
use Rattle.gr_code.specs.Passing.{parts_in}
use Rattle.gr_lower.proofs.parts.+counting.Given as goal

abbrev pub invariant-count_all-loop-expr : goal.invariant-count_all-loop-expr
invariant-count_all-loop-expr l = l.found + parts_in (operands_of (exprs_of (drop l.expr-index l.exprs))) ≡ parts_in (operands_of (exprs_of l.exprs))
