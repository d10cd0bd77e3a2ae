use Rattle.std.proofs.Common.{arith}
use Rattle.gr_depend.proofs.OrderingLemmas.{one_each}
use Rattle.gr_depend.proofs.log.Log.moves.Goals as goal

pub returns-then-order-len-clause-err : goal.returns-then-order-len-clause-err
returns-then-order-len-clause-err c = λ each.
    let log = c.args.self.now in
    let many = one_each log.records.items c.args.order.now c.requires each in
    c.if-order-len.true (omega (arith, many, c.len.ensures, log.records.ok.0))
