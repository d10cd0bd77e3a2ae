use Rattle.gr_queries.proofs.Copying.{copied_next, copied_end}
use Rattle.gr_queries.proofs.showing.items_shown.Goals as goal

pub loop-item-preserved : goal.loop-item-preserved
loop-item-preserved c =
    copied_next _ _ _ _ _ _ _ _ c.in-Some.ensures c.len.ensures c.in_ok-value.ensures.ok
    c.in_ok-push.ensures.items c.in_ok-push.ensures.len c.loop-item.invariant

pub returns : goal.returns
returns c = copied_end _ _ _ _ c.in_default.ensures c.len.ensures c.loop-item.invariant
