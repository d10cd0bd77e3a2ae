use Rattle.std.proofs.Common.{◌-◌, arith}
use Rattle.gr_depend.proofs.MiddleLemmas.{one_less}
use Rattle.gr_depend.proofs.middle.forget_from.Goals as goal

pub loop-left-preserved : goal.loop-left-preserved
loop-left-preserved c =
    let steps = c.args.steps.now in
    let within = c.loop-left.invariant.within in
    let from = c.loop-left.invariant.from in
    record {
      from = omega (arith, c.loop-left-test.true);
      within = omega (arith, within);
      lists = one_less steps c.requires.once (c.loop-left.left - 1) c.index-steps-left.result (omega (arith, within, c.loop-left-test.true)) c.index-steps-left.is
          c.loop-left.left c.loop-left.lanes c.forget.new.self (omega (arith, c.loop-left-test.true)) c.loop-left.invariant.lists c.forget.ensures.lists;
      room = λ lists fits. c.forget.ensures.room lists (c.loop-left.invariant.room lists fits);
    }
