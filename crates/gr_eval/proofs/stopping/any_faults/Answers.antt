use Rattle.gr_eval.proofs.FaultLemmas.{next_right}
use Rattle.gr_eval.proofs.stopping.any_faults.Goals as goal

pub faults-requires : goal.faults-requires
faults-requires c =
    next_right c.args.cells.now c.args.operands.now c.loop-operand.operand-index c.operand-item.result c.loop-operand-test.true c.operand-item.is
    c.loop-operand.invariant
