-- What the commands of a journal mean: what each makes of the steps that are kept, and its reply.
-- Lanese, Nishida, Palacios and Vidal, A theory of reversibility for Erlang (2018): forward and backward steps of a system with
-- its history, and rollback of an action with its consequences.
use Rattle.std.specs.Prelude.{◌≡◌, ℕ, zero, suc, ◌-◌, ◌≤◌, ◌<◌, min, not, nat_eq, List, [], ◌∷◌, length, filter, Option, Some, None}
use Rattle.gr_base.specs.declared.events.Event.{Event}
use Rattle.gr_base.specs.declared.events.Choice.TheVariants.{Pick}
use Rattle.gr_base.specs.declared.names.ChName.{ChName}
use Rattle.gr_base.specs.declared.names.StepId.{StepId}
use Rattle.gr_causal.specs.Dependence.{dependents, causes}
use Rattle.gr_causal.specs.OrderByNames.Ordered.{accepted, other_steps, broken}
use Rattle.gr_program.specs.Programs.{Program}
use Rattle.gr_rules.specs.Attempts as attempts
use Rattle.gr_rules.specs.Limits.{most_steps}
use Rattle.gr_rules.specs.States.{State, start}
use Rattle.gr_rules.specs.Steps.{refusal}
use Rattle.gr_rules.specs.Tells.{usual_choice}
use Rattle.gr_rules.specs.Turns as turns
use Rattle.gr_rules.specs.Turns.{Runs, IsTurn, last_owner, why_end}
use Rattle.gr_laws.specs.Dependence.{clash, ordered_by}
use Rattle.gr_laws.specs.Reached.{Logged}
use Rattle.gr_command.specs.declared.command.Command.{Command}
use Rattle.gr_command.specs.declared.command.Command.TheVariants as commands
use Rattle.gr_command.specs.declared.target.Target.{Target}
use Rattle.gr_command.specs.declared.refusal.Refusal.{Refusal}
use Rattle.gr_command.specs.declared.refusal.Refusal.TheVariants as refusals
use Rattle.gr_command.specs.declared.reply.RunEnd.{RunEnd}
use Rattle.gr_command.specs.declared.reply.RunEnd.TheVariants as ends
use Rattle.gr_command.specs.Replies.{Said, end_in, refusal_told}
use Rattle.gr_command.specs.Replies as replies
use Rattle.gr_rollback.specs.Pasts as rollback
use Rattle.gr_rollback.specs.Pasts.{Past, first_past, id_of, ids_of, events_in}
use Rattle.gr_rollback.specs.Steps.{Joins, with_step}
use Rattle.gr_rollback.specs.Backs.{IsNamed, LosesLast, LosesAll, LosesSome, again_after, names_in, Redoes}
use Rattle.gr_queries.specs.Said.{step_kind, goroutine_said, channel_said, text_said, console_said, log_said}
use Rattle.gr_session.specs.declared.journal.Memory.{Memory}
use Rattle.gr_session.specs.declared.journal.Memory.TheVariants.{Enough, EnoughFor}
use Rattle.gr_session.specs.Targets.{step_asked}

-- A world: the steps that are kept, the oldest first, and the state to which they lead. Beside these, the events that `redo`
-- takes, the first of them first, the lines with a breakpoint, and the grant: how many steps workers may still take.
pub record World (p : Program) : Type 0 where
  pub log : List (Logged p)
  pub state : State
  pub again : List Event
  pub lines : List ℕ
  pub grant : ℕ

-- no step, the state in which the program starts, nothing to take again, no breakpoint, and a grant of 0
abbrev pub first_world : (p : Program) → World p
first_world p = record { log = []; state = start p; again = []; lines = []; grant = 0 }

-- the steps and the state alone, and with what may be taken again
abbrev pub past_of : (p : Program) → World p → Past p
past_of p w = record { log = w.log; state = w.state }

abbrev pub course_of : (p : Program) → World p → rollback.Timeline p
course_of p w = record { past = past_of p w; again = w.again }

-- the world with other steps, and with these events to take again
abbrev pub moved : (p : Program) → World p → Past p → List Event → World p
moved p w u again = record { log = u.log; state = u.state; again = again; lines = w.lines; grant = w.grant }

-- what may be taken again after this many steps
abbrev pub again_past : ℕ → List Event → List Event
again_past zero again = again
again_past (suc taken) again = []

-- the lines without one of them
abbrev pub without_line : ℕ → List ℕ → List ℕ
without_line line lines = filter (λ n. not (nat_eq line n)) lines

-- the event that is asked for: at a select with a clause that it is to pick, or with the usual choice
abbrev pub event_asked : Program → State → List ℕ → Option ℕ → Event
event_asked p s go None = record { go = go; choice = usual_choice p s go }
event_asked p s go (Some i) = record { go = go; choice = Pick i }

-- the step at the place is the one that is asked for
pub record IsAsked (p : Program) (log : List (Logged p)) (target : Target) (place : ℕ) : Type 0 where
  pub id : StepId
  pub asked : step_asked p log target ≡ Some id
  pub named : IsNamed p log id place

-- At most this many steps, round robin, as far as memory allowed: to which past they lead, how many were taken, and why they
-- ended.
pub data ByTurns (p : Program) (w : World p) (wanted : ℕ) : Memory → Past p → ℕ → RunEnd → Type 0 where
  -- a reason ended them
  until_end : {taken : ℕ} {after : Past p} {why : RunEnd} (reason : turns.RunEnd)
      → Runs p w.lines wanted 0 w.state w.log after.state after.log taken reason → end_in why ≡ Some reason
      → ByTurns p w wanted Enough after taken why
  -- a growth for the next step was refused
  until_want : {taken : ℕ} {after : Past p} (g : List ℕ)
      → Runs p w.lines taken 0 w.state w.log after.state after.log taken turns.all_taken
      → IsTurn after.state (last_owner p after.log) (Some g)
      → why_end after.state w.lines wanted taken (length after.log) (Some g) ≡ None
      → ByTurns p w wanted (EnoughFor taken) after taken ends.Memory

-- the world after this many steps, round robin
abbrev pub turned : (p : Program) → World p → Past p → ℕ → World p
turned p w after taken = moved p w after (again_past taken w.again)

-- What comes of a command in a world, as far as memory allowed: the next world and the reply.
pub data Leads (p : Program) (w : World p) : Command → Memory → World p → Said → Type 0 where
  -- a step that the rules allow joins the log, and nothing may be taken again
  steps : {go : List ℕ} {clause : Option ℕ} {t : State} (r : Logged p)
      → Joins p (past_of p w) (event_asked p w.state go clause) r t
      → Leads p w (commands.Step go clause) Enough (moved p w (with_step p (past_of p w) r t) []) (replies.Stepped (id_of p r) (step_kind p r))
  -- one that they refuse is refused
  is_no_step : {go : List ℕ} {clause : Option ℕ} {why : Refusal} (reason : attempts.Refusal)
      → refusal p w.state (event_asked p w.state go clause) ≡ Some reason → refusal_told reason ≡ Some why
      → Leads p w (commands.Step go clause) Enough w (replies.No why)
  -- a step for which the log has no room is refused
  has_no_room : {go : List ℕ} {clause : Option ℕ}
      → refusal p w.state (event_asked p w.state go clause) ≡ None → most_steps ≤ length w.log
      → Leads p w (commands.Step go clause) Enough w (replies.No refusals.LogFull)
  -- a step for which a growth was refused is refused
  has_no_memory : {go : List ℕ} {clause : Option ℕ}
      → refusal p w.state (event_asked p w.state go clause) ≡ None → length w.log < most_steps
      → Leads p w (commands.Step go clause) (EnoughFor 0) w (replies.No refusals.NoMemory)
  -- the next steps of the round robin are taken
  runs : {wanted taken : ℕ} {memory : Memory} {after : Past p} {why : RunEnd}
      → ByTurns p w wanted memory after taken why
      → Leads p w (commands.Run wanted) memory (turned p w after taken) (replies.Ran taken why)
  -- one of them at most, out of the grant
  takes_turn : {taken : ℕ} {memory : Memory} {after : Past p} {why : RunEnd}
      → ByTurns p w (min w.grant 1) memory after taken why
      → Leads p w commands.Turn memory (record (turned p w after taken) { grant = w.grant - taken }) (replies.Ran taken why)
  -- a new grant
  frees : {steps : ℕ} → Leads p w (commands.Free steps) Enough (record w { grant = steps }) (replies.Granted steps)
  -- the last step is taken back, and may be taken again
  undoes : {u : Past p} (r : Logged p) → LosesLast p (past_of p w) r u
      → Leads p w commands.Undo Enough (moved p w u (r.event ∷ [])) (replies.Undone (id_of p r))
  has_no_step : w.log ≡ [] → Leads p w commands.Undo Enough w (replies.No refusals.NothingToUndo)
  cannot_undo : ¬ (w.log ≡ []) → Leads p w commands.Undo (EnoughFor 0) w (replies.PartlyDone [])
  -- the step that is asked for is taken back with its consequences, and they may be taken again
  takes_back : {target : Target} {u : Past p} (place : ℕ) → IsAsked p w.log target place → LosesAll p (past_of p w) place u
      → Leads p w (commands.Back target) Enough (moved p w u (events_in p (dependents (clash p) w.log place)))
      (replies.Steps (ids_of p (dependents (clash p) w.log place)))
  -- only the last of the consequences are taken back, until a growth was refused
  takes_some_back : {target : Target} {u : Past p} {taken : ℕ} (place : ℕ) (gone : List (Logged p)) → IsAsked p w.log target place
      → LosesSome p (past_of p w) place gone u → length gone ≡ taken
      → Leads p w (commands.Back target) (EnoughFor taken) (moved p w u (again_after (events_in p gone) w.again))
      (replies.PartlyDone (ids_of p gone))
  asks_for_none : {target : Target} → ((place : ℕ) → ¬ IsAsked p w.log target place)
      → Leads p w (commands.Back target) Enough w (replies.No refusals.NotKept)
  -- the steps that were taken back last are taken again, in their order
  takes_again : {ids : List StepId} {u : Past p} → ¬ (w.again ≡ [])
      → Redoes p (course_of p w) ids (record { past = u; again = [] })
      → Leads p w commands.Redo Enough (moved p w u []) (replies.Steps ids)
  -- only the first of the steps are taken again, until a growth was refused
  takes_some_again : {ids : List StepId} {u : rollback.Timeline p} {taken : ℕ} → ¬ (u.again ≡ [])
      → Redoes p (course_of p w) ids u → length ids ≡ taken
      → Leads p w commands.Redo (EnoughFor taken) (moved p w u.past u.again) (replies.PartlyDone ids)
  has_none_again : w.again ≡ [] → Leads p w commands.Redo Enough w (replies.No refusals.NothingToRedo)
  -- the steps stand in another order that respects dependence, and nothing may be taken again
  orders : {ids : List StepId} (log : List (Logged p)) → ordered_by p (names_in ids) w.log ≡ accepted log
      → Leads p w (commands.Order ids) Enough (moved p w (record { log = log; state = w.state }) []) replies.Acknowledged
  has_other_steps : {ids : List StepId} → ordered_by p (names_in ids) w.log ≡ other_steps
      → Leads p w (commands.Order ids) Enough w (replies.No refusals.NotTheSteps)
  breaks_dependence : {ids : List StepId} (earlier later : Logged p) → ordered_by p (names_in ids) w.log ≡ broken earlier later
      → Leads p w (commands.Order ids) Enough w (replies.BreaksDependence (id_of p earlier) (id_of p later))
  cannot_order : {ids : List StepId} → length ids ≡ length w.log → Leads p w (commands.Order ids) (EnoughFor 0) w (replies.PartlyDone [])
  -- breakpoints
  breaks : {line : ℕ} → Leads p w (commands.Break line) Enough (record w { lines = line ∷ w.lines }) replies.Acknowledged
  clears : {line : ℕ} → Leads p w (commands.Clear line) Enough (record w { lines = without_line line w.lines }) replies.Acknowledged
  -- queries
  tells_dependents : {id : StepId} (place : ℕ) → IsNamed p w.log id place
      → Leads p w (commands.Dependents id) Enough w (replies.Steps (ids_of p (dependents (clash p) w.log place)))
  has_no_dependents : {id : StepId} → ((place : ℕ) → ¬ IsNamed p w.log id place)
      → Leads p w (commands.Dependents id) Enough w (replies.No refusals.NotKept)
  tells_causes : {id : StepId} (place : ℕ) → IsNamed p w.log id place
      → Leads p w (commands.Causes id) Enough w (replies.Steps (ids_of p (causes (clash p) w.log place)))
  has_no_causes : {id : StepId} → ((place : ℕ) → ¬ IsNamed p w.log id place)
      → Leads p w (commands.Causes id) Enough w (replies.No refusals.NotKept)
  shows : {go : List ℕ} → Leads p w (commands.Show go) Enough w (goroutine_said p go (w.state.goroutines go))
  shows_channel : {c : ChName} → Leads p w (commands.Chan c) Enough w (channel_said w.state c (w.state.gates c))
  tells_text : {go : List ℕ} → Leads p w (commands.Text go) Enough w (text_said (w.state.goroutines go))
  tells_console : Leads p w commands.Console Enough w (console_said p w.log)
  tells_log : Leads p w commands.Log Enough w (log_said p w.log)
