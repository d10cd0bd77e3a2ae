use Rattle.std.proofs.Common.{◌≡◌, true, false, add-one, refl, sym}
use Rattle.gr_causal.specs.Mailboxes.{clash}
use Rattle.gr_causal.proofs.FrontLemmas.{blocked_at, clears_more, never_there, fronts_along, front_at, apart_events}
use Rattle.gr_causal.proofs.FrontLemmas.Fronts.{now}
use Rattle.gr_causal.proofs.mailbox_trips.place_in_front.Goals as goal

false_not : false ≡ true → ⊥
false_not e = cc

pub returns-then-are_equal-clause-some : goal.returns-then-are_equal-clause-some
returns-then-are_equal-clause-some c = (
  c.loop-place-test.true,
  (front_at clash apart_events c.args.log.now c.loop-place.place c.args.event.now _ c.loop-place-test.true c.loop-place.invariant (c.if-are_equal.ensures.0 refl)),
)

pub returns-then-conflicts-clause-none : goal.returns-then-conflicts-clause-none
returns-then-conflicts-clause-none c e rest w =
    blocked_at clash c.args.log.now c.loop-place.place c.args.event.now _ c.loop-place-test.true c.loop-place.invariant (λ q. false_not (c.if-are_equal.ensures.1 q)) (sym c.if-conflicts.ensures)
    (fronts_along clash apart_events c.args.event.now _ _ w now)

pub loop-place-preserved : goal.loop-place-preserved
loop-place-preserved c =
    rw add-one (clears_more clash c.args.log.now c.loop-place.place c.args.event.now _ c.loop-place-test.true c.loop-place.invariant (λ q. false_not (c.if-are_equal.ensures.1 q)) (sym c.if-conflicts.ensures))

pub returns-clause-none : goal.returns-clause-none
returns-clause-none c e rest w =
    never_there clash c.args.log.now c.loop-place.place c.args.event.now c.loop-place-test.false c.loop-place.invariant (fronts_along clash apart_events c.args.event.now _ _ w now)
