use Rattle.std.proofs.Common.{◌≡◌, drop}
use Rattle.gr_code.specs.CodeViews.{operands_of}
use Rattle.gr_rules.specs.Evaluation as rules
use Rattle.gr_eval.proofs.Turns.{values_after}
use Rattle.gr_eval.proofs.evaluation.evaluate_all.Given as goal

-- the values so far, and those of the operands to come
abbrev pub invariant-loop-operand : goal.invariant-loop-operand
invariant-loop-operand l =
    values_after l.cells l.values.items (drop l.operand-index l.operands) ≡ rules.evaluate_all l.cells (operands_of l.operands)
