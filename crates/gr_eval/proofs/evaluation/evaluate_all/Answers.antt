use Rattle.gr_eval.proofs.Turns.{next_right}
use Rattle.gr_eval.proofs.evaluation.evaluate_all.Goals as goal

pub evaluate-requires : goal.evaluate-requires
evaluate-requires c =
    let loop = c.loop-operand in
    next_right c.args.cells.now loop.values.items c.args.operands.now loop.operand-index c.operand-item.result c.loop-operand-test.true
    c.operand-item.is loop.invariant c.requires
