-- What a machine is: a past of a program, and steps that may be done again.
use Rattle.std.specs.Prelude.{◌≡◌, ◌+◌, ◌≤◌, List, length, reverse}
use Rattle.gr_base.specs.declared.events.Event.{Event}
use Rattle.gr_causal.specs.Machine.{IsLog}
use Rattle.gr_program.specs.Programs.{Program}
use Rattle.gr_rules.specs.States.{State}
use Rattle.gr_rules.specs.Steps.{machine}
use Rattle.gr_laws.specs.Reached.{Logged}
use Rattle.gr_step.specs.Record.{Record}
use Rattle.gr_step.specs.declared.store.Store.{Store}
use Rattle.gr_step.specs.Stores.{program_at}
use Rattle.gr_depend.specs.declared.log.Log.{Log}
use Rattle.gr_depend.specs.Logs.{records_of}
use Rattle.gr_rollback.specs.declared.TheConstants.{LOG_LIMIT}
use Rattle.gr_rollback.specs.declared.machine.Machine.{Machine}
use Rattle.gr_rollback.specs.Pasts.{Timeline, events_in}
use Rattle.gr_rollback.specs.Courses.{Holds}

-- its store, its log, the records of its steps, and the events that `redo` would take, the first of them first
abbrev pub store_of : Machine → Store
store_of m = m.course.store

abbrev pub log_of : Machine → Log
log_of m = m.course.log

abbrev pub steps_of : Machine → List Record
steps_of m = records_of (log_of m)

abbrev pub again_of : Machine → List Event
again_of m = reverse m.again.items

-- the events can be taken, one after the other, from the state
pub record CanGo (p : Program) (s : State) (events : List Event) : Type 0 where
  pub steps : List (Logged p)
  pub state : State
  pub leads : IsLog (machine p) s steps state
  pub events_are : events_in p steps ≡ events

-- the machine is that of a world of a program
pub record Stands (p : Program) (w : Timeline p) (m : Machine) : Type 0 where
  pub holds : Holds p w.past m.course
  pub again : again_of m ≡ w.again
  pub can_go : CanGo p w.past.state w.again
  pub short : length (steps_of m) + length w.again ≤ LOG_LIMIT

-- the machine is that of some world
pub record IsMachine (m : Machine) : Type 0 where
  pub world : Timeline (program_at (store_of m))
  pub stands : Stands (program_at (store_of m)) world m
