use Rattle.std.proofs.Common.{take}
use Rattle.gr_depend.proofs.TurningLemmas.{AreSeen}
use Rattle.gr_depend.proofs.turning.first_turned.Given as goal

abbrev pub invariant-loop-i : goal.invariant-loop-i
invariant-loop-i l = AreSeen l.first l.latest l.to (take l.i l.touches) l.bound
