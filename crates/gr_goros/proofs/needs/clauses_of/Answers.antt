use Rattle.std.proofs.Common.{◌∙◌, arith}
use Rattle.gr_goros.proofs.NeedLemmas.{goes_on}
use Rattle.gr_goros.proofs.needs.clauses_of.Goals as goal

pub loop-arm-preserved : goal.loop-arm-preserved
loop-arm-preserved c = (
  goes_on c.args.cells.now c.args.arms.now _ c.loop-arm.arm-index c.loop-arm.clauses.items c.push_reserved.new.self.items _ c.in_ok-clause_of.field-0
      c.loop-arm.invariant.0 c.loop-arm-test.true c.arm-item.is c.in_ok-clause_of.ensures.ok c.push_reserved.ensures.items,
  omega (arith, c.push_reserved.ensures.len, c.loop-arm.invariant.1),
  c.push_reserved.ensures.capacity ∙ c.loop-arm.invariant.2,
)
