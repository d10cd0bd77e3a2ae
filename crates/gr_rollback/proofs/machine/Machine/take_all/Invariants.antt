use Rattle.std.proofs.Common.{◌≡◌, ◌+◌, ◌≤◌, vec_len, vec_capacity}
use Rattle.gr_program.specs.Programs.{Program}
use Rattle.gr_step.specs.Stores.{contents_at, taken_at, SameListing}
use Rattle.gr_rollback.specs.Pasts.{Timeline}
use Rattle.gr_rollback.specs.Machines.{store_of, Stands, IsMachine}
use Rattle.gr_rollback.specs.Redoing.{GoesOn}
use Rattle.gr_rollback.specs.Stepping.{counted}
use Rattle.gr_rollback.proofs.machine.Machine.take_all.Given as goal

abbrev pub invariant-loop-alloc : goal.invariant-loop-alloc
invariant-loop-alloc l =
    ((p : Program) (w : Timeline p) → Stands p w l.fn.self → GoesOn p w l.fn.ids.items l.ids.items l.self)
    × IsMachine l.self
    × (vec_len l.ids + vec_len l.self.again ≤ vec_capacity l.ids)
    × SameListing (store_of l.fn.self) (store_of l.self)
    × (taken_at (store_of l.self) ≡ counted (vec_len l.ids) (taken_at (store_of l.fn.self)))
    × (vec_len l.ids ≡ 0 → contents_at (store_of l.self) ≡ contents_at (store_of l.fn.self))

abbrev pub decreases-loop-alloc : goal.decreases-loop-alloc
decreases-loop-alloc l = vec_len l.self.again
