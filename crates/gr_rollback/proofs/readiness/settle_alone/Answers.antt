use Rattle.gr_rollback.proofs.PoolLemmas.{settles_still}
use Rattle.gr_rollback.proofs.readiness.settle_alone.Goals as goal

pub returns-in-Same : goal.returns-in-Same
returns-in-Same c = settles_still _ _ _ (c.requires.ready c.in-Same.ensures) c.requires.own
