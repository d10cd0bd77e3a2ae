use Rattle.std.proofs.Common.{take}
use Rattle.gr_touches.specs.Marks.{hits, Marks}
use Rattle.gr_touches.proofs.marks.mark_earlier.Given as goal

abbrev pub invariant-loop-i : goal.invariant-loop-i
invariant-loop-i l = Marks l.origin (hits l.wanted (take l.i l.touches)) l.initial.marks l.marks
