use Rattle.gr_goros.proofs.CallLemmas.{ends, goes_on}
use Rattle.gr_goros.proofs.calling.pass.Goals as goal

pub loop-number-preserved : goal.loop-number-preserved
loop-number-preserved c =
    goes_on c.args.own.now c.args.operands.now c.args.parameters.now _ c.loop-number.number c.loop-number.cells.items c.loop-number.invariant
    c.index-operands-number.result c.loop-number-test.true c.index-operands-number.is c.in_ok-value.value _ c.in_ok-value.ensures.ok c.give.ensures

pub returns-clause-ok : goal.returns-clause-ok
returns-clause-ok c =
    ends c.args.own.now c.args.operands.now c.args.parameters.now _ c.loop-number.number c.loop-number.cells.items c.loop-number.invariant
    c.loop-number-test.false
