use Rattle.gr_depend.proofs.OrderingLemmas.{AreFound}
use Rattle.gr_depend.proofs.log.Log.find_moves.Given as goal

abbrev pub invariant-loop-i : goal.invariant-loop-i
invariant-loop-i l = AreFound l.self.records.items l.order l.i l.from l.to
