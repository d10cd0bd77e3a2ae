use Rattle.gr_eval.proofs.FaultLemmas.{Rest}
use Rattle.gr_eval.proofs.stopping.any_faults.Given as goal

abbrev pub invariant-loop-operand : goal.invariant-loop-operand
invariant-loop-operand l = Rest l.cells l.operands l.operand-index
