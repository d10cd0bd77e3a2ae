use Rattle.gr_rollback.proofs.Basics.{true_not_false}
use Rattle.gr_rollback.proofs.PoolLemmas.{itself_alone, settles_ready, settles_unready}
use Rattle.gr_rollback.proofs.readiness.settle.Goals as goal

pub insert-requires : goal.insert-requires
insert-requires c = c.requires c.args.go.now (itself_alone c.args.go.now) (c.is_ready.ensures.0 c.if-is_ready.true)

pub returns-then-is_ready : goal.returns-then-is_ready
returns-then-is_ready c = settles_ready _ _ _ _ (c.is_ready.ensures.0 c.if-is_ready.true) c.insert.ensures.ready c.insert.ensures.known

pub returns-else-is_ready : goal.returns-else-is_ready
returns-else-is_ready c = settles_unready _ _ _ _ (λ r. true_not_false (c.is_ready.ensures.1 r) c.if-is_ready.false) c.remove.ensures.ready c.remove.ensures.known
