use Rattle.std.proofs.Common.{◌≡◌, drop}
use Rattle.gr_code.specs.CodeViews.{arms_of}
use Rattle.gr_lower.specs.Lowered as spec
use Rattle.gr_lower.proofs.frames.arms_cells.Given as goal

abbrev pub invariant-loop-arm : goal.invariant-loop-arm
invariant-loop-arm l = spec.arms_cells l.found (arms_of (drop l.arm-index l.arms)) ≡ spec.arms_cells 0 (arms_of l.arms)
