-- A step that is taken: it joins those that are kept, and nothing may be done again.
use Rattle.std.specs.Prelude.{◌≡◌, ◌<◌, [], ◌∷◌, ◌++◌, length, Result, Ok, Err, Some, None}
use Rattle.gr_base.specs.declared.events.Event.{Event}
use Rattle.gr_causal.specs.Machine.{IsLog}
use Rattle.gr_program.specs.Programs.{Program}
use Rattle.gr_rules.specs.Attempts as rules
use Rattle.gr_rules.specs.Limits.{most_steps}
use Rattle.gr_rules.specs.States.{State}
use Rattle.gr_rules.specs.Steps.{machine, refusal}
use Rattle.gr_laws.specs.Reached.{Logged}
use Rattle.gr_step.specs.declared.refusal.StepRefused.{StepRefused}
use Rattle.gr_step.specs.declared.refusal.StepRefused.TheVariants as refusals
use Rattle.gr_rollback.specs.declared.course.Course.{Course}
use Rattle.gr_rollback.specs.declared.machine.Machine.{Machine}
use Rattle.gr_rollback.specs.declared.stepped.Stepped.{Stepped}
use Rattle.gr_rollback.specs.Stepping.{told_of}
use Rattle.gr_rollback.specs.Pasts.{Past, Timeline}
use Rattle.gr_rollback.specs.Courses.{Holds}
use Rattle.gr_rollback.specs.Machines.{Stands}

-- the past with one step more
abbrev pub with_step : (p : Program) → Past p → Logged p → State → Past p
with_step p w r t = record { log = w.log ++ r ∷ []; state = t }

-- the step of an event joins those that are kept
pub record Joins (p : Program) (w : Past p) (e : Event) (r : Logged p) (t : State) : Type 0 where
  pub event : r.event ≡ e
  pub leads : IsLog (machine p) w.state (r ∷ []) t
  pub room : length w.log < most_steps

-- why an event is no step: the reason of the rules; or the rules allow it, and there was no memory, or the log is full
abbrev pub IsNoStep : (p : Program) → Past p → Event → StepRefused → Type 0
IsNoStep p w e refusals.Over = refusal p w.state e ≡ Some rules.program_is_over
IsNoStep p w e refusals.NotThere = refusal p w.state e ≡ Some rules.no_such_goroutine
IsNoStep p w e refusals.Done = refusal p w.state e ≡ Some rules.goroutine_is_done
IsNoStep p w e refusals.Waits = refusal p w.state e ≡ Some rules.goroutine_waits
IsNoStep p w e refusals.NoChoice = refusal p w.state e ≡ Some rules.no_such_choice
IsNoStep p w e refusals.NoMemory = refusal p w.state e ≡ None

-- the course after the step of an event, and what is told of the step; or nothing has changed
pub record Keeps (p : Program) (w : Past p) (e : Event) (told : Stepped) (c : Course) : Type 0 where
  pub step : Logged p
  pub state : State
  pub joins : Joins p w e step state
  pub tells : told ≡ told_of p step
  pub holds : Holds p (with_step p w step state) c

abbrev pub Kept : (p : Program) → Past p → Event → Result Stepped StepRefused → Course → Type 0
Kept p w e (Ok told) c = Keeps p w e told c
Kept p w e (Err why) c = IsNoStep p w e why × Holds p w c

-- the machine after the step of an event, and what is told of the step; or nothing has changed
pub record Takes (p : Program) (w : Timeline p) (e : Event) (told : Stepped) (m : Machine) : Type 0 where
  pub step : Logged p
  pub state : State
  pub joins : Joins p w.past e step state
  pub tells : told ≡ told_of p step
  pub stands : Stands p (record { past = with_step p w.past step state; again = [] }) m

abbrev pub Taken : (p : Program) → Timeline p → Event → Result Stepped StepRefused → Machine → Type 0
Taken p w e (Ok told) m = Takes p w e told m
Taken p w e (Err why) m = IsNoStep p w.past e why × Stands p w m
