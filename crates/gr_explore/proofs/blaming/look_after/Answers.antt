use Rattle.gr_step.specs.Stores.{program_at}
use Rattle.gr_rollback.specs.Machines.{store_of}
use Rattle.gr_explore.specs.Exploring.{events_at}
use Rattle.gr_explore.proofs.BlameLemmas.{verdict_by}
use Rattle.gr_explore.proofs.blaming.look_after.Goals as goal

pub returns-clause-verdict : goal.returns-clause-verdict
returns-clause-verdict c =
    verdict_by (program_at (store_of c.move_to.new.machine)) (program_at (store_of c.args.machine.now)) c.args.events.now (events_at c.move_to.new.machine) c.args.place c.search_there-verdict.result
    c.move_to.ensures.of.program c.in_ok-move_to.ensures.there c.search_there-verdict.ensures.verdict
