use Rattle.std.proofs.Common.{◌≤◌, ◌-◌, vec_len}
use Rattle.gr_program.specs.Programs.{Program}
use Rattle.gr_rollback.specs.Machines.{Stands}
use Rattle.gr_rollback.specs.Pasts.{Timeline}
use Rattle.gr_protocol.specs.About.{TellAll}
use Rattle.gr_protocol.proofs.about.rows_from.Given as goal

abbrev pub invariant-loop-alloc : goal.invariant-loop-alloc
invariant-loop-alloc l = record {
  tell : (p : Program) (w : Timeline p) → Stands p w l.machine → TellAll p w.past.log l.place l.told.items;
  few : vec_len l.told ≤ l.rows;
}

abbrev pub decreases-loop-alloc : goal.decreases-loop-alloc
decreases-loop-alloc l = l.rows - vec_len l.told
