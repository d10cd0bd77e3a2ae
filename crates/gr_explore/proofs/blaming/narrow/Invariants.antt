use Rattle.std.proofs.Common.{◌<◌, ◌≤◌, ◌-◌, length}
use Rattle.gr_step.specs.Stores.{program_at}
use Rattle.gr_rollback.specs.Machines.{store_of}
use Rattle.gr_explore.specs.Blaming.{CanEndWell, IsLost, IsOf, StandsAlong}
use Rattle.gr_explore.proofs.blaming.narrow.Given as goal

abbrev pub invariant-loop-well : goal.invariant-loop-well
invariant-loop-well l =
    let p = program_at (store_of l.fn.machine) in
    record {
      of : IsOf p l.machine;
      along : StandsAlong l.events l.machine;
      apart : l.well < l.lost;
      within : l.lost ≤ length l.events;
      is_well : CanEndWell p l.events l.well;
      is_lost : IsLost p l.events l.lost;
    }

abbrev pub decreases-loop-well : goal.decreases-loop-well
decreases-loop-well l = l.lost - l.well
