use Rattle.std.proofs.Common.{◌∙◌, ap, sym, subst}
use Rattle.gr_step.specs.Effects.{Effect, effect_in}
use Rattle.gr_step.specs.Form.TheVariants.{Alone, WaitsToSend, WaitsToReceive, Passes, Exchanges}
use Rattle.gr_rollback.specs.Readiness.{met_by, AllKnown}
use Rattle.gr_rollback.proofs.PoolLemmas.{itself_alone}
use Rattle.gr_rollback.proofs.PoolBackLemmas.{brings_in, brings_own, brings_unstarted, brings_waiting}
use Rattle.gr_rollback.proofs.bringing.bring_step_back.Goals as goal

pub returns-in-Alone : goal.returns-in-Alone
returns-in-Alone c =
    let step = c.args.step.now in
    brings_in step.id.go c.form.result.now (Alone c.in-Alone.field-0 c.in-Alone.own) step.change c.args.pool.now c.bring_back.new.pool c.form.ensures c.in-Alone.is
    (brings_own step.id.go c.in-Alone.own c.args.pool.now c.bring_back.new.pool c.bring_back.ensures)

pub returns-in-WaitsToSend : goal.returns-in-WaitsToSend
returns-in-WaitsToSend c =
    let step = c.args.step.now in
    let arm = c.in-WaitsToSend in
    brings_in step.id.go c.form.result.now (WaitsToSend arm.field-0 arm.field-1 arm.field-2) step.change c.args.pool.now c.insert.new.self c.form.ensures arm.is
    (brings_own step.id.go _ c.args.pool.now c.insert.new.self
    (brings_waiting step.id.go arm.field-2 c.args.pool.now c.insert.new.self c.insert.ensures.known c.insert.ensures.ready))

pub returns-in-WaitsToReceive : goal.returns-in-WaitsToReceive
returns-in-WaitsToReceive c =
    let step = c.args.step.now in
    let arm = c.in-WaitsToReceive in
    brings_in step.id.go c.form.result.now (WaitsToReceive arm.field-0 arm.field-1 arm.field-2) step.change c.args.pool.now c.insert-in-WaitsToReceive.new.self c.form.ensures arm.is
    (brings_own step.id.go _ c.args.pool.now c.insert-in-WaitsToReceive.new.self
    (brings_waiting step.id.go arm.field-2 c.args.pool.now c.insert-in-WaitsToReceive.new.self c.insert-in-WaitsToReceive.ensures.known c.insert-in-WaitsToReceive.ensures.ready))

pub returns-in-Passes : goal.returns-in-Passes
returns-in-Passes c =
    let step = c.args.step.now in
    brings_in step.id.go c.form.result.now (Passes c.in-Passes.field-0 c.in-Passes.passage) step.change c.args.pool.now c.bring_back-in-Passes.new.pool
    c.form.ensures c.in-Passes.is
    (brings_own step.id.go c.in-Passes.passage.value.own c.args.pool.now c.bring_back-in-Passes.new.pool (rw c.deref.ensures at c.bring_back-in-Passes.ensures))

pub bring_both_back-requires-clause-met : goal.bring_both_back-requires-clause-met
bring_both_back-requires-clause-met c =
    let known = subst (λ (e : Effect). AllKnown (met_by e) c.args.pool.now) (sym c.form.ensures ∙ ap effect_in c.in-Exchanges.is) c.requires.met in
    let go = c.in-Exchanges.exchange.value.met.0 in
    rw c.deref-in-Exchanges-2.ensures (known go (itself_alone go))

pub returns-in-Exchanges : goal.returns-in-Exchanges
returns-in-Exchanges c =
    let step = c.args.step.now in
    brings_in step.id.go c.form.result.now (Exchanges c.in-Exchanges.field-0 c.in-Exchanges.exchange) step.change c.args.pool.now c.bring_both_back.new.pool
    c.form.ensures c.in-Exchanges.is (brings_unstarted _ c.args.pool.now c.bring_both_back.new.pool (rw (c.deref-in-Exchanges.ensures, c.deref-in-Exchanges-2.ensures) at c.bring_both_back.ensures))
