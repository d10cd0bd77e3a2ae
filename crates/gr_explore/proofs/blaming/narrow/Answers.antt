use Rattle.std.proofs.Common.{◌∙◌, arith}
use Rattle.gr_step.specs.Stores.{program_at}
use Rattle.gr_rollback.specs.Machines.{store_of}
use Rattle.gr_explore.proofs.MoveLemmas.{along_by}
use Rattle.gr_explore.proofs.BlameLemmas.{lost_by, next_lost}
use Rattle.gr_explore.proofs.blaming.narrow.Goals as goal

pub loop-well-preserved : goal.loop-well-preserved
loop-well-preserved c =
    let a = c.loop-well.invariant.apart in
    let k = c.loop-well.invariant.within in
    record {
      of = record { is = c.look_after.ensures.of.is; program = c.look_after.ensures.of.program ∙ c.loop-well.invariant.of.program };
      along = along_by c.args.events.now c.look_after.new.machine _ (omega (arith, a, k)) c.in_ok-look_after.ensures.there;
      apart = omega arith;
      within = omega (arith, a, k);
      is_well = c.loop-well.invariant.is_well;
      is_lost = lost_by (program_at (store_of c.loop-well.machine)) (program_at (store_of c.args.machine.now)) c.args.events.now _ c.loop-well.invariant.of.program
          c.in_ok-look_after.field-0 c.in-Lost.is c.in_ok-look_after.ensures.verdict;
    }

pub returns-clause-blame : goal.returns-clause-blame
returns-clause-blame c =
    let a = c.loop-well.invariant.apart in
    let k = c.loop-well.invariant.within in (
      omega (arith, a, k),
      c.loop-well.invariant.is_well,
      next_lost (program_at (store_of c.args.machine.now)) c.args.events.now c.loop-well.well c.loop-well.lost a c.loop-well-test.false c.loop-well.invariant.is_lost,
    )
