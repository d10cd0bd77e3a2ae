-- Steps that are being done again, one after the other.
use Rattle.std.specs.Prelude.{◌≡◌, List, ◌++◌}
use Rattle.gr_base.specs.declared.names.StepId.{StepId}
use Rattle.gr_program.specs.Programs.{Program}
use Rattle.gr_rollback.specs.declared.machine.Machine.{Machine}
use Rattle.gr_rollback.specs.Machines.{Stands}
use Rattle.gr_rollback.specs.Pasts.{Timeline}
use Rattle.gr_rollback.specs.Backs.{Redoes}

-- the first of them are taken, and their names join those of the steps before them
pub record GoesOn (p : Program) (w : Timeline p) (before after : List StepId) (m : Machine) : Type 0 where
  pub world : Timeline p
  pub names : List StepId
  pub joined : after ≡ before ++ names
  pub redoes : Redoes p w names world
  pub stands : Stands p world m
