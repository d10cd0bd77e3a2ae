use Rattle.std.proofs.Common.{◌≡◌, ◌++◌, length}
use Rattle.gr_base.specs.Counts.{IsGoName}
use Rattle.gr_step.proofs.leasing.own_name.Given as goal

-- the name has the counts that were passed
abbrev pub invariant-loop-left : goal.invariant-loop-left
invariant-loop-left l = record { passed : l.name ++ l.left ≡ l.fn.go; valid : IsGoName l.left }

abbrev pub decreases-loop-left : goal.decreases-loop-left
decreases-loop-left l = length l.left
