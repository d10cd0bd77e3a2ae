use Rattle.std.proofs.Common.{arith}
use Rattle.gr_depend.proofs.TurnedLemmas.{steps_turned}
use Rattle.gr_depend.proofs.log.Log.first_turned.Goals as goal

pub returns-clause-turned : goal.returns-clause-turned
returns-clause-turned c =
    steps_turned c.args.self.now.lanes c.args.self.now.records.items c.args.to.now c.loop-number.first c.loop-number.number c.args.self.now.touches (omega arith)
    c.loop-number.invariant.turned
