use Rattle.std.proofs.Common.{ℕ, max, if◌then◌else◌, subst, ap, ◌∙◌}
use Rattle.std.proofs.lemmas.List.{take_all}
use Rattle.gr_touches.specs.declared.touch.Touch.{Touch}
use Rattle.gr_depend.specs.declared.turning.Latest.{Latest}
use Rattle.gr_depend.specs.Turned.{place_at, TouchesTurnedFrom}
use Rattle.gr_depend.proofs.TurningLemmas.{none_seen, seen_after}
use Rattle.gr_depend.proofs.turning.first_turned.Goals as goal

pub loop-i-init : goal.loop-i-init
loop-i-init c = none_seen c.args.to.now c.args.bound

abbrev made : ℕ → ℕ → Latest
made touch write = record { touch = touch; write = write }

pub loop-i-preserved : goal.loop-i-preserved
loop-i-preserved c =
    let touch = c.index-touches-i in
    let latest = c.loop-i.latest in
    let place = c.target_of-place.result in
    seen_after c.args.to.now c.args.touches.now c.args.bound c.loop-i.first c.if_before-first.result place c.in_conflict.result c.loop-i.i
    latest c.with-latest.result touch.result c.loop-i-test.true
    (c.target_of-place.ensures ∙ ap (place_at c.args.to.now) c.place.ensures ∙ ap (λ (t : Touch). place_at c.args.to.now t.place) touch.is)
    (c.in_conflict.ensures ∙ ap (λ (t : Touch). if t.writes then latest.touch else latest.write) touch.is)
    c.if_before-first.ensures
    (c.with-latest.ensures ∙ ap (λ (t : Touch). made (max latest.touch place) (if t.writes then max latest.write place else latest.write)) touch.is)
    c.loop-i.invariant

pub returns-clause-turned : goal.returns-clause-turned
returns-clause-turned c = subst (TouchesTurnedFrom c.loop-i.first c.args.to.now) (take_all c.loop-i.i c.args.touches.now c.loop-i-test.false) c.loop-i.invariant.turned
