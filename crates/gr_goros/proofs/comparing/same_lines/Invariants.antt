use Rattle.std.proofs.Common.{◌≡◌, take}
use Rattle.gr_goros.specs.Views.{lines_of}
use Rattle.gr_goros.proofs.comparing.same_lines.Given as goal

abbrev pub invariant-loop-i : goal.invariant-loop-i
invariant-loop-i l = lines_of (take l.i l.one) ≡ lines_of (take l.i l.other)
