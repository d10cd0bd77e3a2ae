use Rattle.gr_queries.proofs.Copying.{copied_next, copied_end}
use Rattle.gr_queries.proofs.Waiting.{receiver_is}
use Rattle.gr_queries.proofs.showing.receivers_shown.Goals as goal

pub loop-waiter-preserved : goal.loop-waiter-preserved
loop-waiter-preserved c =
    copied_next _ _ _ _ _ _ _ _ c.in-Some.ensures c.len.ensures (receiver_is _ _ c.in_ok-go.ensures)
    c.in_ok-push.ensures.items c.in_ok-push.ensures.len c.loop-waiter.invariant

pub returns : goal.returns
returns c = copied_end _ _ _ _ c.in_default.ensures c.len.ensures c.loop-waiter.invariant
