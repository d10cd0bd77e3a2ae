use Rattle.std.proofs.Common.{subst, sym}
use Rattle.gr_step.specs.Stores.{program_at}
use Rattle.gr_rollback.specs.Machines.{store_of}
use Rattle.gr_schedules.specs.Keys.{IsKey}
use Rattle.gr_schedules.specs.Matters.{matter}
use Rattle.gr_explore.specs.Exploring.{state_seen}
use Rattle.gr_explore.proofs.explorer.ExplorerSearched.key.Goals as goal

pub returns-in-Ok-clause-means : goal.returns-in-Ok-clause-means
returns-in-Ok-clause-means c =
    let m = c.args.self.now.machine.now in
    subst (λ key. IsKey (program_at (store_of m)) key (matter (state_seen m))) (sym c.new.ensures) c.in-Ok.ensures.key
