-- A machine of a program, and where the first steps of a log lead.
use Rattle.std.specs.Prelude.{◌≡◌, ℕ, List, map, take}
use Rattle.gr_base.specs.declared.events.Event.{Event}
use Rattle.gr_laws.specs.Reached.{Logged, IsRun}
use Rattle.gr_program.specs.Programs.{Program}
use Rattle.gr_rollback.specs.declared.machine.Machine.{Machine}
use Rattle.gr_rollback.specs.Machines.{IsMachine, Stands, steps_of, store_of}
use Rattle.gr_rules.specs.States.{State}
use Rattle.gr_step.specs.Records.{event_of}
use Rattle.gr_step.specs.Stores.{program_at}

-- the events of its steps, the oldest first
abbrev pub events_at : Machine → List Event
events_at m = map event_of (steps_of m)

-- a machine of the program
pub record IsOf (p : Program) (m : Machine) : Type 0 where
  pub is : IsMachine m
  pub program : program_at (store_of m) ≡ p

-- the machine stands where so many of the first steps of a log lead, from the start of the program
pub record StandsAfter (p : Program) (log : List (Logged p)) (steps : ℕ) (m : Machine) : Type 0 where
  pub state : State
  pub again : List Event
  pub run : IsRun p (take steps log) state
  pub stands : Stands p (record { past = record { log = take steps log; state = state }; again = again }) m
