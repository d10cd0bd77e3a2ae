use Rattle.std.proofs.Common.{◌≡◌, length}
use Rattle.gr_step.specs.Stores.{taken_at, SameListing}
use Rattle.gr_depend.specs.Logs.{records_of}
use Rattle.gr_rollback.specs.Walks.{IsRolling, GoesOn}
use Rattle.gr_rollback.proofs.course.Course.unwind.Given as goal

-- it is still on its way
abbrev pub invariant-loop-alloc : goal.invariant-loop-alloc
invariant-loop-alloc l = record {
  way : GoesOn l.at l.marks l.fn.self l.fn.rollback l.self l.rollback;
  rolls : IsRolling l.at l.marks l.self l.rollback;
  listing : SameListing l.fn.self.store l.self.store;
  taken : taken_at l.self.store ≡ taken_at l.fn.self.store;
}

abbrev pub decreases-loop-alloc : goal.decreases-loop-alloc
decreases-loop-alloc l = length (records_of l.self.log)
