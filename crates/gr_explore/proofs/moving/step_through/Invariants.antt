use Rattle.std.proofs.Common.{◌≡◌, ◌++◌, drop}
use Rattle.gr_step.specs.Stores.{program_at}
use Rattle.gr_rollback.specs.Machines.{store_of}
use Rattle.gr_explore.specs.Exploring.{events_at}
use Rattle.gr_explore.specs.Blaming.{IsOf}
use Rattle.gr_explore.proofs.moving.step_through.Given as goal

abbrev pub invariant-loop-event : goal.invariant-loop-event
invariant-loop-event l = record {
  of : IsOf (program_at (store_of l.fn.machine)) l.machine;
  forth : events_at l.machine ++ drop l.event-index l.events ≡ events_at l.fn.machine ++ l.events;
}
