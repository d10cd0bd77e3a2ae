use Rattle.std.proofs.Common.{◌≡◌, length}
use Rattle.std.specs.List.{list_any}
use Rattle.gr_code.specs.CodeViews.{arms_of}
use Rattle.gr_step.specs.Picks.{is_send}
use Rattle.gr_step.proofs.picking.some_sends.Given as goal

abbrev pub invariant-loop-left : goal.invariant-loop-left
invariant-loop-left l = list_any is_send (arms_of l.left) ≡ list_any is_send (arms_of l.fn.arms)

abbrev pub decreases-loop-left : goal.decreases-loop-left
decreases-loop-left l = length l.left
