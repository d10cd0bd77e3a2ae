use Rattle.std.proofs.Common.{refl}
use Rattle.gr_step.specs.Stores.{program_at}
use Rattle.gr_rollback.specs.Machines.{store_of}
use Rattle.gr_explore.proofs.BlameLemmas.{some_step, well_by}
use Rattle.gr_explore.proofs.blaming.blame_within.Goals as goal

pub narrow-requires-clause-apart : goal.narrow-requires-clause-apart
narrow-requires-clause-apart c =
    let p = program_at (store_of c.args.machine.now) in
    some_step p c.args.events.now (well_by p p c.args.events.now 0 refl c.in_ok-look_after.field-0 c.in-Well.is c.in_ok-look_after.ensures.verdict) c.requires.lost
