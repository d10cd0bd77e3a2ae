use Rattle.std.proofs.Common.{sym, length}
use Rattle.gr_step.specs.Stores.{program_at}
use Rattle.gr_rollback.specs.Machines.{store_of}
use Rattle.gr_explore.proofs.BlameLemmas.{lost_by}
use Rattle.gr_explore.proofs.blaming.blame_along.Goals as goal

pub blame_within-requires-clause-lost : goal.blame_within-requires-clause-lost
blame_within-requires-clause-lost c =
    lost_by (program_at (store_of c.args.machine.now)) (program_at (store_of c.look_after.new.machine)) c.args.events.now (length c.args.events.now) (sym c.look_after.ensures.of.program)
    c.in_ok-look_after.field-0 c.in-Lost.is c.in_ok-look_after.ensures.verdict
