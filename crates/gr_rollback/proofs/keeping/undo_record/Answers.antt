use Rattle.std.proofs.Common.{◌∷◌, sym, subst}
use Rattle.gr_step.specs.Record.{Record}
use Rattle.gr_step.specs.Stores.{contents_at}
use Rattle.gr_rollback.specs.Readiness.{HasReady, KnowsThere, Settles, others_of}
use Rattle.gr_rollback.proofs.PoolBackLemmas.{own_known, met_known, ready_before, ready_again, knows_still}
use Rattle.gr_rollback.proofs.keeping.undo_record.Goals as goal

pub bring_step_back-requires-clause-own : goal.bring_step_back-requires-clause-own
bring_step_back-requires-clause-own c =
    own_known c.args.step.id.go c.args.step.change (contents_at c.args.store.now) c.requires.fits c.args.pool.now c.requires.ready.knows

pub bring_step_back-requires-clause-met : goal.bring_step_back-requires-clause-met
bring_step_back-requires-clause-met c =
    met_known c.args.step.id.go c.args.step.change (contents_at c.args.store.now) c.requires.fits c.args.pool.now c.requires.ready.knows

pub returns-in-Ok-clause-ready : goal.returns-in-Ok-clause-ready
returns-in-Ok-clause-ready c =
    subst (HasReady c.bring_step_back.new.pool) (sym c.in-Ok.ensures.back)
    (ready_before c.args.step.id.go c.args.step.change (contents_at c.args.store.now) c.requires.fits c.args.pool.now c.bring_step_back.new.pool c.requires.ready
    c.bring_step_back.ensures)

pub settle_again-requires : goal.settle_again-requires
settle_again-requires c =
    subst (KnowsThere c.bring_step_back.new.pool) (sym c.in-Err.ensures.err)
    (knows_still c.args.step.id.go c.args.step.change (contents_at c.args.store.now) c.requires.fits c.args.pool.now c.bring_step_back.new.pool c.requires.ready
    c.bring_step_back.ensures)

pub returns-in-Err-clause-ready : goal.returns-in-Err-clause-ready
returns-in-Err-clause-ready c =
    let step = c.args.step in
    let settles = subst (λ (r : Record). Settles (r.id.go ∷ others_of r.change) (contents_at c.unstep.new.self) c.bring_step_back.new.pool c.settle_again.new.pool)
    c.in-Err.ensures.returned c.settle_again.ensures in
    subst (HasReady c.settle_again.new.pool) (sym c.in-Err.ensures.err)
    (ready_again step.id.go step.change (contents_at c.args.store.now) c.requires.fits c.args.pool.now c.bring_step_back.new.pool c.requires.ready
    c.bring_step_back.ensures c.settle_again.new.pool
    (subst (λ s. Settles (step.id.go ∷ others_of step.change) s c.bring_step_back.new.pool c.settle_again.new.pool) c.in-Err.ensures.err settles))
