use Rattle.std.proofs.Common.{◌≤◌, ◌-◌}
use Rattle.gr_share.specs.Seats.{AreAll}
use Rattle.gr_share.proofs.finishing.are_all.Given as goal

abbrev pub invariant-loop-number : goal.invariant-loop-number
invariant-loop-number g l = (l.first ≤ l.number) × AreAll l.first l.number l.desks l.workers

abbrev pub decreases-loop-number : goal.decreases-loop-number
decreases-loop-number g l = l.last - l.number
