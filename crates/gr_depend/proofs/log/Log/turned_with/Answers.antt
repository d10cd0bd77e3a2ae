use Rattle.std.proofs.Common.{arith}
use Rattle.gr_depend.proofs.OrderingLemmas.{turned_here, least_of, one_more_not, not_turned}
use Rattle.gr_depend.proofs.log.Log.turned_with.Goals.{else-to-later-via-then-to-later+else-conflicts, else-to-later-via-else-to-later}
use Rattle.gr_depend.proofs.log.Log.turned_with.Goals as goal

pub returns-then-conflicts : goal.returns-then-conflicts
returns-then-conflicts c = (
  turned_here c.args.self.now.records.items c.args.to.now c.loop-earlier.earlier c.args.later c.conflicts.result c.loop-earlier-test.true c.requires.within
      c.conflicts.ensures c.if-conflicts.true c.if-to-later.true,
  least_of c.loop-earlier.earlier _ c.loop-earlier.invariant,
)

pub loop-earlier-preserved : goal.loop-earlier-preserved
loop-earlier-preserved c = elim c.else-to-later.branch [
  | else-to-later-via-then-to-later+else-conflicts w ↦
      one_more_not c.loop-earlier.earlier _ c.loop-earlier.invariant
      (λ t. not_turned c.args.self.now.records.items c.args.to.now c.loop-earlier.earlier c.args.later w.conflicts.result w.conflicts.ensures w.if-conflicts.false t)
  | else-to-later-via-else-to-later w ↦
      one_more_not c.loop-earlier.earlier _ c.loop-earlier.invariant (λ t. let no = w.if-to-later.false in let l = t.turned in omega (arith, no, l))
]

pub returns : goal.returns
returns c p t = c.loop-earlier.invariant p (let l = t.in_log in let end = c.loop-earlier-test.false in omega (arith, l, end)) t
