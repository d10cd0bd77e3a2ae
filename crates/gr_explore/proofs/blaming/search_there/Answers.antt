use Rattle.gr_step.specs.Stores.{program_at}
use Rattle.gr_rollback.specs.Machines.{store_of}
use Rattle.gr_explore.proofs.BlameLemmas.{lost_here, well_here, found_on, nothing_on, limited_on}
use Rattle.gr_explore.proofs.blaming.search_there.Goals as goal

pub returns-in-Found-clause-on : goal.returns-in-Found-clause-on
returns-in-Found-clause-on c =
    found_on c.args.machine.now c.requires c.explore_for.new.machine (c.explore_for.ensures.found (program_at (store_of c.args.machine.now)) c.requires.world c.requires.stands c.in-Found.is)

pub returns-in-Found-clause-verdict : goal.returns-in-Found-clause-verdict
returns-in-Found-clause-verdict c =
    well_here c.args.machine.now c.requires c.explore_for.new.machine (c.explore_for.ensures.found (program_at (store_of c.args.machine.now)) c.requires.world c.requires.stands c.in-Found.is)

pub returns-in-Nothing-clause-on : goal.returns-in-Nothing-clause-on
returns-in-Nothing-clause-on c =
    nothing_on c.args.machine.now c.requires c.explore_for.new.machine (c.in-Nothing.ensures.home (program_at (store_of c.args.machine.now)) c.requires.world c.requires.stands)

pub returns-in-Nothing-clause-verdict : goal.returns-in-Nothing-clause-verdict
returns-in-Nothing-clause-verdict c =
    lost_here c.args.machine.now c.requires (c.explore_for.ensures.nothing (program_at (store_of c.args.machine.now)) c.requires.world _ c.requires.stands c.in-Nothing.is)

pub returns-in-Limited-clause-on : goal.returns-in-Limited-clause-on
returns-in-Limited-clause-on c =
    limited_on c.args.machine.now c.requires c.explore_for.new.machine c.in-Limited.limit (c.in-Limited.ensures.home (program_at (store_of c.args.machine.now)) c.requires.world c.requires.stands)
