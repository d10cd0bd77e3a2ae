use Rattle.std.proofs.Common.{◌≤◌, length, drop}
use Rattle.gr_rollback.specs.Prior.{BringsBack}
use Rattle.gr_rollback.proofs.bringing.bring_all_back.Given as goal

-- the last of the changes are behind it
abbrev pub invariant-loop-left : goal.invariant-loop-left
invariant-loop-left l = record {
  within : l.left ≤ length l.changes;
  brings : BringsBack (drop l.left l.changes) l.fn.pool l.pool;
}

abbrev pub decreases-loop-left : goal.decreases-loop-left
decreases-loop-left l = l.left
