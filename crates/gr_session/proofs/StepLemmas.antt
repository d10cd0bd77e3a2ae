-- Steps that join the log, and steps that are refused.
use Rattle.std.proofs.Common.{◌≡◌, ℕ, ◌≤◌, ◌<◌, List, [], length, Option, Some, None, Result, Ok, Err, refl, sym, ap, subst, ◌∙◌}
use Rattle.gr_base.specs.declared.events.Event.{Event}
use Rattle.gr_program.specs.Programs.{Program}
use Rattle.gr_rules.specs.Attempts as attempts
use Rattle.gr_rules.specs.Limits.{most_steps}
use Rattle.gr_rules.specs.Steps.{refusal}
use Rattle.gr_command.specs.declared.command.Command.TheVariants.{Step}
use Rattle.gr_command.specs.declared.refusal.Refusal.{Refusal}
use Rattle.gr_command.specs.declared.refusal.Refusal.TheVariants as refusals
use Rattle.gr_command.specs.Replies as said
use Rattle.gr_command.specs.Replies.{No, refusal_told}
use Rattle.gr_rollback.specs.Logs.{records_of}
use Rattle.gr_queries.specs.Said.{step_kind}
use Rattle.gr_rollback.specs.declared.TheConstants.{LOG_LIMIT}
use Rattle.gr_rollback.specs.declared.machine.Machine.{Machine}
use Rattle.gr_rollback.specs.declared.stepped.Stepped.{Stepped}
use Rattle.gr_rollback.specs.Pasts.{id_of}
use Rattle.gr_rollback.specs.Steps.{with_step, Taken}
use Rattle.gr_rollback.specs.StepRefused.{StepRefused}
use Rattle.gr_session.specs.declared.debuggee.Debuggee.{Debuggee}
use Rattle.gr_session.specs.declared.journal.Memory.TheVariants.{Enough}
use Rattle.gr_session.specs.Journal.{World, past_of, course_of, moved, event_asked, Leads, steps, is_no_step, has_no_room, has_no_memory}
use Rattle.gr_session.specs.Debuggees.{log_in, Stands}
use Rattle.gr_session.specs.Refusing.{IsNoStep, by_rules, by_limit, by_memory, TakesStep, Takes, memory_of}
use Rattle.gr_session.specs.Carried.{LeadsTo}
use Rattle.gr_session.proofs.DebuggeeLemmas.{log_length}
use Rattle.gr_session.proofs.Basics.{some_inj}

-- a step that the log has no room for, and one that was out of memory
pub no_room : (p : Program) (w : World p) (d : Debuggee) (e : Event) → Stands p w d → refusal p w.state e ≡ None
    → LOG_LIMIT ≤ length (records_of (log_in d)) → IsNoStep p w e refusals.LogFull
no_room p w d e s allowed full = by_limit allowed (subst (λ n. most_steps ≤ n) (log_length p w d s) full)

pub no_memory : (p : Program) (w : World p) (d : Debuggee) (e : Event) → Stands p w d → refusal p w.state e ≡ None
    → length (records_of (log_in d)) < LOG_LIMIT → IsNoStep p w e refusals.NoMemory
no_memory p w d e s allowed room = by_memory allowed (subst (λ n. n < most_steps) (log_length p w d s) room)

-- the rules never tell of memory
rules_forget : (reason : attempts.Refusal) (why : Refusal) → refusal_told reason ≡ Some why → memory_of why ≡ Enough
rules_forget attempts.program_is_over why e = ap memory_of (sym (some_inj e))
rules_forget attempts.no_such_goroutine why e = ap memory_of (sym (some_inj e))
rules_forget attempts.goroutine_is_done why e = ap memory_of (sym (some_inj e))
rules_forget attempts.goroutine_waits why e = ap memory_of (sym (some_inj e))
rules_forget attempts.no_such_choice why e = ap memory_of (sym (some_inj e))
rules_forget attempts.unsound why e = cc

-- the event that is asked for is of this goroutine
pub asked_of : (p : Program) (w : World p) (go : List ℕ) (clause : Option ℕ) → (event_asked p w.state go clause).go ≡ go
asked_of p w go None = refl
asked_of p w go (Some i) = refl

module _ (p : Program) (w : World p) (d : Debuggee) (s : Stands p w d) (go : List ℕ) (clause : Option ℕ) where
  by_reason : (why : Refusal) → IsNoStep p w (event_asked p w.state go clause) why → Leads p w (Step go clause) (memory_of why) w (No why)
  by_reason why (by_rules reason refused told) =
      subst (λ m. Leads p w (Step go clause) m w (No why)) (sym (rules_forget reason why told)) (is_no_step reason refused told)
  by_reason _ (by_limit allowed full) = has_no_room allowed full
  by_reason _ (by_memory allowed room) = has_no_memory allowed room

  pub refused_leads : (why : Refusal) → IsNoStep p w (event_asked p w.state go clause) why
      → LeadsTo p w (Step go clause) (memory_of why) (No why) d
  refused_leads why none = record { world = w; leads = by_reason why none; stands = s }

-- the step that was asked for joins the log
pub joined_leads : (p : Program) (w : World p) (d : Debuggee) (go : List ℕ) (clause : Option ℕ) (told : Stepped)
    → TakesStep p w (event_asked p w.state go clause) told d
    → LeadsTo p w (Step go clause) Enough (said.Stepped (record { go = go; n = told.ordinal }) told.kind) d
joined_leads p w d go clause told j =
    let named : id_of p j.step ≡ record { go = go; n = told.ordinal } =
    λ i. record { go = (ap (λ (e : Event). e.go) j.joins.event ∙ asked_of p w go clause) i; n = ap (λ (t : Stepped). t.ordinal) (sym j.tells) i } in
    let after : World p = moved p w (with_step p (past_of p w) j.step j.state) [] in
    record {
      world = after;
      leads = subst (λ x. Leads p w (Step go clause) Enough after x)
          (ap (λ x. said.Stepped x (step_kind p j.step)) named
          ∙ ap (said.Stepped (record { go = go; n = told.ordinal })) (ap (λ (t : Stepped). t.kind) (sym j.tells)))
          (steps j.step j.joins);
      stands = j.stands;
    }

-- why the machine refuses a step, except out of memory
pub machine_refuses : (p : Program) (w : World p) (e : Event) (why : Refusal) (reason : attempts.Refusal)
    → refusal p w.state e ≡ Some reason → refusal_told reason ≡ Some why → IsNoStep p w e why
machine_refuses p w e why reason refused told = by_rules reason refused told

-- what the machine takes is taken of the program under the debugger
pub taken_by : (p : Program) (w : World p) (d : Debuggee) → Stands p w d → (e : Event) (r : Result Stepped StepRefused) (m : Machine)
    → Taken p (course_of p w) e r m → Takes p w e r (record { machine = m; lines = d.lines; grant = d.grant })
taken_by p w d s e (Ok told) m t = record {
  step = t.step;
  state = t.state;
  joins = t.joins;
  tells = t.tells;
  stands = record { machine = t.stands; lines = s.lines; grant = s.grant };
}
taken_by p w d s e (Err why) m t = (t.0, record { machine = t.1; lines = s.lines; grant = s.grant })
