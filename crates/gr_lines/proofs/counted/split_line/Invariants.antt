use Rattle.std.proofs.Common.{take}
use Rattle.gr_lines.specs.Bytes.{Plain}
use Rattle.gr_lines.proofs.counted.split_line.Given as goal

abbrev pub invariant-loop-i : goal.invariant-loop-i
invariant-loop-i l = Plain (take l.i l.bytes)
