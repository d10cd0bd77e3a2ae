-- A machine that explores the schedules of its program, from where it stood with so many steps.
use Rattle.std.specs.Prelude.{◌≤◌, ◌-◌, ℕ, List, [], ◌++◌, map, take, drop, length}
use Rattle.gr_base.specs.declared.events.Event.{Event}
use Rattle.gr_causal.specs.Machine.{IsLog}
use Rattle.gr_program.specs.Programs.{Program}
use Rattle.gr_rules.specs.Limits.{most_steps}
use Rattle.gr_rules.specs.States.{State}
use Rattle.gr_rules.specs.Steps.{machine}
use Rattle.gr_laws.specs.Reached.{Logged}
use Rattle.gr_step.specs.Records.{event_of}
use Rattle.gr_step.specs.Stores.{program_at, state_at}
use Rattle.gr_rollback.specs.declared.machine.Machine.{Machine}
use Rattle.gr_rollback.specs.Machines.{store_of, steps_of, Stands, IsMachine}
use Rattle.gr_rollback.specs.Pasts.{Timeline}
use Rattle.gr_schedules.specs.declared.Aim.{Aim}
use Rattle.gr_schedules.specs.Schedules.{Origin, newest_first}
use Rattle.gr_schedules.specs.Aims.{IsAim}
use Rattle.gr_search.specs.declared.searched.Limit.TheVariants.{Back}
use Rattle.gr_search.specs.declared.search.Answer.{Answer}
use Rattle.gr_search.specs.declared.search.Answer.TheVariants.{Nothing, Found, Limited}

-- the events of its steps, the oldest first
abbrev pub events_at : Machine → List Event
events_at m = map event_of (steps_of m)

-- where it stood with so many steps
abbrev pub origin_of : Machine → ℕ → Origin
origin_of m base = record { program = program_at (store_of m); before = take base (events_at m) }

-- the events of its steps since, the last first
abbrev pub events_since : Machine → ℕ → List Event
events_since m base = newest_first (drop base (events_at m)) []

abbrev pub state_seen : Machine → State
state_seen m = state_at (store_of m)

-- how many steps it may take after so many
abbrev pub longest_after : Origin → ℕ
longest_after o = most_steps - length o.before

pub record StandsSince (m : Machine) (base : ℕ) : Type 0 where
  pub is : IsMachine m
  pub within : base ≤ length (events_at m)

-- steps lead on from where a machine stood, and the machine stands there: they are the last of its log
pub record StandsOn (p : Program) (w : Timeline p) (m : Machine) : Type 0 where
  pub steps : List (Logged p)
  pub state : State
  pub leads : IsLog (machine p) w.past.state steps state
  pub again : List Event
  pub stands : Stands p (record { past = record { log = w.past.log ++ steps; state = state }; again = again }) m

-- they lead to the aim
pub record ComesTo (aim : Aim) (p : Program) (w : Timeline p) (m : Machine) : Type 0 where
  pub steps : List (Logged p)
  pub state : State
  pub leads : IsLog (machine p) w.past.state steps state
  pub comes : IsAim aim state
  pub again : List Event
  pub stands : Stands p (record { past = record { log = w.past.log ++ steps; state = state }; again = again }) m

-- it stands where it stood, but for what may be done again
pub record StandsAgain (p : Program) (w : Timeline p) (m : Machine) : Type 0 where
  pub again : List Event
  pub stands : Stands p (record { past = w.past; again = again }) m

-- after every answer but one that was found it stands where it stood; or after more steps, where one could not be taken back
abbrev pub IsHome : (p : Program) → Timeline p → Answer → Machine → Type 0
IsHome p w Found m = Unit {0}
IsHome p w (Limited Back) m = StandsOn p w m
IsHome p w (Limited limit) m = StandsAgain p w m
IsHome p w (Nothing states) m = StandsAgain p w m
