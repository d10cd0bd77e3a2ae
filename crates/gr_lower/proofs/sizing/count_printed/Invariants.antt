use Rattle.std.proofs.Common.{◌≡◌, ◌+◌, drop}
use Rattle.gr_program.specs.Views.{prints_of}
use Rattle.gr_rules.specs.Points.{printed_operands}
use Rattle.gr_code.specs.Passing.{parts_in}
use Rattle.gr_lower.proofs.sizing.count_printed.Given as goal

abbrev pub invariant-loop-printed : goal.invariant-loop-printed
invariant-loop-printed l = l.found + parts_in (printed_operands (prints_of (drop l.printed-index l.values))) ≡ parts_in (printed_operands (prints_of l.values))
