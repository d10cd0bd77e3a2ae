use Rattle.std.proofs.Common.{arith}
use Rattle.gr_follow.proofs.MoveLemmas.{one_more_same}
use Rattle.gr_follow.proofs.following.shared.Goals as goal

pub loop-place-preserved : goal.loop-place-preserved
loop-place-preserved c =
    one_more_same c.args.steps.now c.args.others.now c.loop-place.place _ _ (omega (arith, c.loop-place-test.true, c.requires.steps))
    (omega (arith, c.loop-place-test.true, c.requires.others)) c.index-steps-place.is c.index-others-place.is
    (c.is_of_event.ensures c.if-not-is_of_event.false) c.loop-place.invariant
