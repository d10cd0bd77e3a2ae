use Rattle.std.proofs.Common.{◌≡◌, ◌≤◌, length, take}
use Rattle.gr_follow.specs.Following.{IsOf, events_at}
use Rattle.gr_rollback.specs.Machines.{steps_of, store_of}
use Rattle.gr_step.specs.Stores.{program_at}
use Rattle.gr_follow.proofs.moving.back_to.Given as goal

abbrev pub invariant-loop-alloc : goal.invariant-loop-alloc
invariant-loop-alloc l = record {
  of : IsOf (program_at (store_of l.fn.machine)) l.machine;
  within : l.place ≤ length (events_at l.machine);
  kept : take l.place (events_at l.machine) ≡ take l.place (events_at l.fn.machine);
}

abbrev pub decreases-loop-alloc : goal.decreases-loop-alloc
decreases-loop-alloc l = length (steps_of l.machine)
