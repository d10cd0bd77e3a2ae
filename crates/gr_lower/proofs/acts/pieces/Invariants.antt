use Rattle.std.proofs.Common.{◌≡◌, ◌++◌, drop}
use Rattle.gr_program.specs.Views.{prints_of}
use Rattle.gr_rules.specs.Points as points
use Rattle.gr_code.specs.CodeViews.{pieces_of}
use Rattle.gr_lower.proofs.acts.pieces.Given as goal

abbrev pub invariant-loop-printed : goal.invariant-loop-printed
invariant-loop-printed l = pieces_of l.found.items ++ points.pieces_of (prints_of (drop l.printed-index l.values)) ≡ points.pieces_of (prints_of l.values)
