use Rattle.gr_rollback.proofs.Basics.{true_not_false}
use Rattle.gr_rollback.proofs.PoolLemmas.{settles_still, settles_unready}
use Rattle.gr_rollback.proofs.readiness.settle_own.Goals as goal

pub returns-then-is_ready : goal.returns-then-is_ready
returns-then-is_ready c = settles_still _ _ _ (c.is_ready.ensures.0 c.if-is_ready.true) c.requires

pub returns : goal.returns
returns c = settles_unready _ _ _ _ (λ r. true_not_false (c.is_ready.ensures.1 r) c.if-is_ready.false) c.remove.ensures.ready c.remove.ensures.known
