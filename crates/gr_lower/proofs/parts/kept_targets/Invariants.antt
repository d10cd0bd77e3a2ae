use Rattle.std.proofs.Common.{◌≡◌, ◌++◌, drop}
use Rattle.gr_lower.proofs.parts.kept_targets.Given as goal

abbrev pub invariant-loop-target : goal.invariant-loop-target
invariant-loop-target l = l.found.items ++ drop l.target-index l.targets ≡ l.targets
