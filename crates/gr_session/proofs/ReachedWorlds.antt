-- Each world of a journal is one of a run.
use Rattle.std.proofs.Common.{ℕ, min, []}
use Rattle.gr_causal.proofs.PathLemmas.{log_push}
use Rattle.gr_program.specs.Programs.{Program}
use Rattle.gr_rules.specs.States.{start}
use Rattle.gr_rules.specs.Steps.{machine}
use Rattle.gr_rules.specs.Turns as turns
use Rattle.gr_laws.specs.Reached.{IsRun}
use Rattle.gr_command.specs.declared.command.Command.{Command}
use Rattle.gr_command.specs.declared.reply.RunEnd.{RunEnd}
use Rattle.gr_command.specs.Replies.{Said}
use Rattle.gr_rollback.specs.Backs.{names_in}
use Rattle.gr_rollback.specs.Pasts.{Past}
use Rattle.gr_session.specs.declared.journal.Memory.{Memory}
use Rattle.gr_session.specs.Journal.{World, course_of, ByTurns, until_end, until_want, Leads}
use Rattle.gr_session.specs.Journal as leads
use Rattle.gr_session.proofs.OneMeaningTurns.{runs_lead_on}
use Rattle.gr_session.proofs.OneMeaningRedo.{redo_leads_on}
use Rattle.gr_session.proofs.OneMeaningOrders.{order_leads_on}

module _ (p : Program) where
  -- steps by the round robin lead on from a world of a run
  turns_lead_on : (w : World p) (wanted : ℕ) (memory : Memory) (x : Past p) (m : ℕ) (why : RunEnd) → IsRun p w.log w.state
      → ByTurns p w wanted memory x m why → IsRun p x.log x.state
  turns_lead_on w wanted memory x m why run (until_end reason all told) = runs_lead_on p w.lines wanted 0 w.state x.state w.log x.log m reason all run
  turns_lead_on w wanted memory x m why run (until_want g all turn on) = runs_lead_on p w.lines m 0 w.state x.state w.log x.log m turns.all_taken all run

  -- a world of a run leads to worlds of runs
  pub next_of_run : (w u : World p) (command : Command) (memory : Memory) (a : Said) → IsRun p w.log w.state → Leads p w command memory u a → IsRun p u.log u.state
  next_of_run w u command memory a run (leads.steps {t = t} r joins) = log_push (machine p) (start p) w.log w.state r t run joins.leads
  next_of_run w u command memory a run (leads.is_no_step reason refused told) = run
  next_of_run w u command memory a run (leads.has_no_room allowed full) = run
  next_of_run w u command memory a run (leads.has_no_memory allowed room) = run
  next_of_run w u command memory a run (leads.runs {wanted = wanted} {taken = m} {after = x} {why = why} goes) =
      turns_lead_on w wanted memory x m why run goes
  next_of_run w u command memory a run (leads.takes_turn {taken = m} {after = x} {why = why} goes) =
      turns_lead_on w (min w.grant 1) memory x m why run goes
  next_of_run w u command memory a run leads.frees = run
  next_of_run w u command memory a run (leads.undoes r loses) = loses.run
  next_of_run w u command memory a run (leads.has_no_step none) = run
  next_of_run w u command memory a run (leads.cannot_undo some) = run
  next_of_run w u command memory a run (leads.takes_back i asked loses) = loses.run
  next_of_run w u command memory a run (leads.takes_some_back i gone asked loses count) = loses.run
  next_of_run w u command memory a run (leads.asks_for_none none) = run
  next_of_run w u command memory a run (leads.takes_again {ids = ids} {u = x} some redoes) = redo_leads_on p (course_of p w) (record { past = x; again = [] }) ids run redoes
  next_of_run w u command memory a run (leads.takes_some_again {ids = ids} {u = x} left redoes count) = redo_leads_on p (course_of p w) x ids run redoes
  next_of_run w u command memory a run (leads.has_none_again none) = run
  next_of_run w u command memory a run (leads.orders {ids = ids} log taken) = order_leads_on p w.state w.log log (names_in ids) run taken
  next_of_run w u command memory a run (leads.has_other_steps others) = run
  next_of_run w u command memory a run (leads.breaks_dependence x y broken) = run
  next_of_run w u command memory a run (leads.cannot_order many) = run
  next_of_run w u command memory a run leads.breaks = run
  next_of_run w u command memory a run leads.clears = run
  next_of_run w u command memory a run (leads.tells_dependents i named) = run
  next_of_run w u command memory a run (leads.has_no_dependents none) = run
  next_of_run w u command memory a run (leads.tells_causes i named) = run
  next_of_run w u command memory a run (leads.has_no_causes none) = run
  next_of_run w u command memory a run leads.shows = run
  next_of_run w u command memory a run leads.shows_channel = run
  next_of_run w u command memory a run leads.tells_text = run
  next_of_run w u command memory a run leads.tells_console = run
  next_of_run w u command memory a run leads.tells_log = run
