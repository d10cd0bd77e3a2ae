use Rattle.std.proofs.Common.{◌≡◌, ◌++◌, drop, map}
use Rattle.gr_follow.specs.Following.{IsOf, events_at}
use Rattle.gr_rollback.specs.Machines.{store_of}
use Rattle.gr_step.specs.Records.{event_of}
use Rattle.gr_step.specs.Stores.{program_at}
use Rattle.gr_follow.proofs.moving.step_through.Given as goal

abbrev pub invariant-loop-step : goal.invariant-loop-step
invariant-loop-step l = record {
  of : IsOf (program_at (store_of l.fn.machine)) l.machine;
  forth : events_at l.machine ++ map event_of (drop l.step-index l.steps) ≡ events_at l.fn.machine ++ map event_of l.steps;
}
