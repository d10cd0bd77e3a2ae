use Rattle.std.proofs.Common.{◌≡◌, drop}
use Rattle.gr_code.specs.CodeViews.{instructions_of}
use Rattle.gr_lower.specs.Lowered as spec
use Rattle.gr_lower.proofs.frames.cells_of.Given as goal

abbrev pub invariant-loop-instruction : goal.invariant-loop-instruction
invariant-loop-instruction l = spec.cells_of l.found (instructions_of (drop l.instruction-index l.instructions))
    ≡ spec.cells_of l.variables (instructions_of l.instructions)
