use Rattle.gr_depend.proofs.ArrangeLemmas.{ArePutBack}
use Rattle.gr_depend.proofs.log.Log.rearrange.Given as goal

abbrev pub invariant-loop-i : goal.invariant-loop-i
invariant-loop-i l = ArePutBack l.fn.self l.self l.from l.i l.steps.items
