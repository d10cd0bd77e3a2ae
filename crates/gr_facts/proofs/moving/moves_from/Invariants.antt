use Rattle.std.proofs.Common.{◌≤◌, ◌+◌, ◌-◌, vec_len}
use Rattle.gr_facts.specs.MovedAsked.{MoveAll}
use Rattle.gr_follow.specs.Following.{IsOf, StandsAfter}
use Rattle.gr_program.specs.Programs.{Program}
use Rattle.gr_rollback.specs.Machines.{Stands, store_of}
use Rattle.gr_rollback.specs.Pasts.{Timeline}
use Rattle.gr_step.specs.Stores.{program_at}
use Rattle.gr_facts.proofs.moving.moves_from.Given as goal

abbrev pub invariant-loop-alloc : goal.invariant-loop-alloc
invariant-loop-alloc l = record {
  of : IsOf (program_at (store_of l.leader)) l.follower;
  few : vec_len l.rows ≤ l.count;
  there : (p : Program) (w : Timeline p) → Stands p w l.leader → StandsAfter p w.past.log (l.place + vec_len l.rows) l.follower;
  moves : (p : Program) (w : Timeline p) → Stands p w l.leader → MoveAll p w.past.log l.place l.rows.items;
}

abbrev pub decreases-loop-alloc : goal.decreases-loop-alloc
decreases-loop-alloc l = l.count - vec_len l.rows
