use Rattle.std.proofs.Common.{Some}
use Rattle.gr_step.proofs.QueueLemmas.{waits_next, waits_done}
use Rattle.gr_step.proofs.queues.all_waits.Goals as goal

pub loop-clause-preserved : goal.loop-clause-preserved
loop-clause-preserved c =
    waits_next c.args.pending.now c.loop-clause.clause-index c.loop-clause.waits.items _ c.loop-clause.invariant
    c.loop-clause-item.result (Some c.in-Some.wait) c.push.new.self.items c.loop-clause-test.true c.loop-clause-item.is
    (rw c.in-Some.is at c.in_ok-wait.ensures) c.in_ok-push.ensures.items

pub returns : goal.returns
returns c =
    waits_done c.args.pending.now c.loop-clause.clause-index c.loop-clause.waits.items _ c.loop-clause.invariant c.loop-clause-test.false
