use Rattle.std.proofs.Common.{ap, sym, subst, ◌∙◌}
use Rattle.std.specs.Option.{option_to_list}
use Rattle.gr_step.specs.Effects.{Effect, effect_in}
use Rattle.gr_step.specs.Fews.{members}
use Rattle.gr_step.specs.Parts.{begun_in}
use Rattle.gr_step.specs.Stores.{contents_at}
use Rattle.gr_rollback.specs.Readiness.{KnowsReady, Settles, met_by, names_met, others_of}
use Rattle.gr_rollback.proofs.PoolLemmas.{settles_join}
use Rattle.gr_rollback.proofs.readiness.settle_others.Goals as goal

pub returns-in-Further : goal.returns-in-Further
returns-in-Further c =
    let b = c.in-Further.further.value.beyond in
    let s = contents_at c.args.store.now in
    let first : Settles (names_met (members b.met)) s c.args.pool.now c.settle_met.new.pool =
    rw (c.as_slice.ensures, c.deref-in-Further.ensures) at c.settle_met.ensures in
    let second : Settles (option_to_list (begun_in b)) s c.settle_met.new.pool c.settle_child.new.pool =
    rw (c.begins.ensures, c.deref-in-Further.ensures) at c.settle_child.ensures in
    subst (λ (e : Effect). Settles (others_of e) s c.args.pool.now c.settle_child.new.pool) (ap effect_in (sym c.in-Further.is) ∙ c.form.ensures)
    (settles_join (names_met (members b.met)) (option_to_list (begun_in b)) s c.args.pool.now c.settle_met.new.pool c.settle_child.new.pool first second)

pub settle-requires : goal.settle-requires
settle-requires c =
    let s = contents_at c.args.store.now in
    let known = subst (λ (e : Effect). KnowsReady (met_by e) s c.args.pool.now) (sym c.form.ensures ∙ ap effect_in c.in-Exchanges.is) c.requires.met in
    rw c.deref.ensures known

pub returns-in-Exchanges : goal.returns-in-Exchanges
returns-in-Exchanges c =
    let s = contents_at c.args.store.now in
    subst (λ (e : Effect). Settles (others_of e) s c.args.pool.now c.settle.new.pool) (ap effect_in (sym c.in-Exchanges.is) ∙ c.form.ensures)
    (rw c.deref.ensures at c.settle.ensures)
