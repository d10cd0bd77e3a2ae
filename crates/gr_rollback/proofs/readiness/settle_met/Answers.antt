use Rattle.gr_step.specs.Stores.{contents_at}
use Rattle.gr_rollback.specs.Readiness.{names_met}
use Rattle.gr_rollback.proofs.PoolLemmas.{settles_more, ready_here, met_here}
use Rattle.gr_rollback.proofs.readiness.settle_met.Goals as goal

pub settle-requires : goal.settle-requires
settle-requires c =
    let at = met_here c.args.met.now c.loop-go.go-index c.loop-go-item.result c.loop-go-test.true c.loop-go-item.is in
    ready_here (names_met c.args.met.now) c.loop-go.go-index c.loop-go-item.result.0 at.0 at.1 (contents_at c.args.store.now) c.args.pool.now c.loop-go.pool
    c.loop-go.invariant.known c.requires

pub loop-go-preserved : goal.loop-go-preserved
loop-go-preserved c =
    let at = met_here c.args.met.now c.loop-go.go-index c.loop-go-item.result c.loop-go-test.true c.loop-go-item.is in
    settles_more (names_met c.args.met.now) c.loop-go.go-index c.loop-go-item.result.0 at.0 at.1 (contents_at c.args.store.now) c.args.pool.now
    c.loop-go.pool c.settle.new.pool c.loop-go.invariant c.settle.ensures
