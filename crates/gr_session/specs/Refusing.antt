-- Why a step is not taken, as a reply tells it.
use Rattle.std.specs.Prelude.{◌≡◌, ◌≤◌, ◌<◌, [], length, Some, None, Result, Ok, Err}
use Rattle.gr_base.specs.declared.events.Event.{Event}
use Rattle.gr_program.specs.Programs.{Program}
use Rattle.gr_rules.specs.Attempts as attempts
use Rattle.gr_rules.specs.Limits.{most_steps}
use Rattle.gr_rules.specs.States.{State}
use Rattle.gr_rules.specs.Steps.{refusal}
use Rattle.gr_laws.specs.Reached.{Logged}
use Rattle.gr_command.specs.declared.refusal.Refusal.{Refusal}
use Rattle.gr_command.specs.declared.refusal.Refusal.TheVariants as refusals
use Rattle.gr_command.specs.Replies.{refusal_told}
use Rattle.gr_rollback.specs.StepRefused.{StepRefused}
use Rattle.gr_rollback.specs.declared.stepped.Stepped.{Stepped}
use Rattle.gr_rollback.specs.Steps as rollback
use Rattle.gr_rollback.specs.Steps.{Joins, with_step}
use Rattle.gr_rollback.specs.Stepping.{told_of}
use Rattle.gr_session.specs.declared.debuggee.Debuggee.{Debuggee}
use Rattle.gr_session.specs.declared.journal.Memory.{Memory}
use Rattle.gr_session.specs.declared.journal.Memory.TheVariants.{Enough, EnoughFor}
use Rattle.gr_session.specs.Journal.{World, past_of, moved}
use Rattle.gr_session.specs.Debuggees.{Stands}

-- the memory of an entry is less than enough only where it ran out
abbrev pub memory_of : Refusal → Memory
memory_of refusals.NoMemory = EnoughFor 0
memory_of why = Enough

-- why the step of an event is not kept
pub data IsNoStep (p : Program) (w : World p) (e : Event) : Refusal → Type 0 where
  by_rules : {why : Refusal} (reason : attempts.Refusal) → refusal p w.state e ≡ Some reason → refusal_told reason ≡ Some why → IsNoStep p w e why
  by_limit : refusal p w.state e ≡ None → most_steps ≤ length w.log → IsNoStep p w e refusals.LogFull
  by_memory : refusal p w.state e ≡ None → length w.log < most_steps → IsNoStep p w e refusals.NoMemory

-- why the step of an event that is asked of a program under the debugger is not kept
abbrev pub SaysNoStep : Debuggee → Refusal → Type 0
SaysNoStep d why = (p : Program) (w : World p) (e : Event) → Stands p w d → refusal p w.state e ≡ None → IsNoStep p w e why

-- why it is not kept, where its machine refuses it for a reason
abbrev pub Refuses : Debuggee → StepRefused → Refusal → Type 0
Refuses d reason why = (p : Program) (w : World p) (e : Event) → Stands p w d → rollback.IsNoStep p (past_of p w) e reason → IsNoStep p w e why

-- the step of an event joins those that are kept, and this is told of it
pub record TakesStep (p : Program) (w : World p) (e : Event) (told : Stepped) (d : Debuggee) : Type 0 where
  pub step : Logged p
  pub state : State
  pub joins : Joins p (past_of p w) e step state
  pub tells : told ≡ told_of p step
  pub stands : Stands p (moved p w (with_step p (past_of p w) step state) []) d

-- the step of an event is taken, or nothing has changed
abbrev pub Takes : (p : Program) → World p → Event → Result Stepped StepRefused → Debuggee → Type 0
Takes p w e (Ok told) d = TakesStep p w e told d
Takes p w e (Err why) d = rollback.IsNoStep p (past_of p w) e why × Stands p w d
