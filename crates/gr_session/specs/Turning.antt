-- Steps of the ready goroutines, round robin, one after the other, and why they end.
use Rattle.std.specs.Prelude.{◌≡◌, ℕ, List, [], length, Option, Some, None, Result, Ok, Err}
use Rattle.gr_program.specs.Programs.{Program}
use Rattle.gr_rules.specs.States.{State}
use Rattle.gr_rules.specs.Tells.{usual_choice}
use Rattle.gr_rules.specs.Turns as turns
use Rattle.gr_rules.specs.Turns.{IsTurn, last_owner, why_end}
use Rattle.gr_laws.specs.Reached.{Logged}
use Rattle.gr_command.specs.declared.reply.RunEnd.{RunEnd}
use Rattle.gr_command.specs.declared.reply.RunEnd.TheVariants as ends
use Rattle.gr_command.specs.Replies.{end_in}
use Rattle.gr_rollback.specs.Pasts.{Past}
use Rattle.gr_rollback.specs.Steps.{Joins, with_step}
use Rattle.gr_session.specs.declared.debuggee.Debuggee.{Debuggee}
use Rattle.gr_session.specs.declared.journal.Memory.{Memory}
use Rattle.gr_session.specs.declared.journal.Memory.TheVariants.{Enough, EnoughFor}
use Rattle.gr_session.specs.Journal.{World, past_of, moved, ByTurns, turned}
use Rattle.gr_session.specs.Debuggees.{Stands}

-- for how many steps, round robin, memory was enough
abbrev pub memory_at : ℕ → RunEnd → Memory
memory_at taken ends.Memory = EnoughFor taken
memory_at taken why = Enough

-- it is the turn of this goroutine, with no reason to end
pub record HasTurn (p : Program) (w : World p) (wanted taken : ℕ) (g : List ℕ) : Type 0 where
  pub turn : IsTurn w.state (last_owner p w.log) (Some g)
  pub goes : why_end w.state w.lines wanted taken (length w.log) (Some g) ≡ None

-- it is the turn of this goroutine, with no reason to end, and its step joins those that are kept
pub record TakesTurn (p : Program) (w : World p) (wanted taken : ℕ) (d : Debuggee) : Type 0 where
  pub owner : List ℕ
  pub has_turn : HasTurn p w wanted taken owner
  pub step : Logged p
  pub state : State
  pub joins : Joins p (past_of p w) (record { go = owner; choice = usual_choice p w.state owner }) step state
  pub stands : Stands p (moved p w (with_step p (past_of p w) step state) []) d

-- why no more steps are taken
pub record EndsBy (p : Program) (w : World p) (wanted taken : ℕ) (reason : turns.RunEnd) : Type 0 where
  pub owner : Option (List ℕ)
  pub turn : IsTurn w.state (last_owner p w.log) owner
  pub why : why_end w.state w.lines wanted taken (length w.log) owner ≡ Some reason

-- why no more steps are taken, as a reply tells it: memory ran out, or a reason of the rules
abbrev pub Ends : (p : Program) → World p → ℕ → ℕ → RunEnd → Type 0
Ends p w wanted taken ends.Memory = (g : List ℕ) × HasTurn p w wanted taken g
Ends p w wanted taken why = (reason : turns.RunEnd) × EndsBy p w wanted taken reason × (end_in why ≡ Some reason)

-- the next step of the round robin is taken, or nothing has changed
abbrev pub Turns : (p : Program) → World p → ℕ → ℕ → Result (Unit {0}) RunEnd → Debuggee → Type 0
Turns p w wanted taken (Ok done) d = TakesTurn p w wanted taken d
Turns p w wanted taken (Err why) d = Ends p w wanted taken why × Stands p w d

-- at most this many steps were taken, round robin, and the program stands where they lead
pub record GoesByTurns (p : Program) (w : World p) (wanted taken : ℕ) (why : RunEnd) (d : Debuggee) : Type 0 where
  pub after : Past p
  pub by_turns : ByTurns p w wanted (memory_at taken why) after taken why
  pub stands : Stands p (turned p w after taken) d
