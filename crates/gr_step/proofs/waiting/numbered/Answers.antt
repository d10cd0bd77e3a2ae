use Rattle.std.proofs.Common.{ap, arith, length}
use Rattle.gr_step.proofs.WaitForLemmas.{numbered_next}
use Rattle.gr_step.proofs.waiting.numbered.Goals as goal

pub loop-clause-preserved : goal.loop-clause-preserved
loop-clause-preserved c =
    let steps = c.in-Some.ensures.steps in
    let gone = steps.1 in
    let short = ap length steps.0 in
    record {
      told = numbered_next c.loop-clause.pending.items c.push_reserved.new.self.items c.loop-clause.number c.in-Some-checked_add.next c.in-Some.clause _ _ _ steps.0
          c.in-Some-checked_add.ensures.1 c.push_reserved.ensures.items c.loop-clause.invariant.told;
      counted = omega arith;
      passed = omega (arith, short, c.loop-clause.invariant.passed, c.in-Some-checked_add.ensures.1);
      room = omega (arith, c.push_reserved.ensures.capacity, c.push_reserved.ensures.len);
    }
