-- The step that a command asks for, by the records and by the rules.
use Rattle.std.proofs.Common.{◌≡◌, ℕ, List, Option, sym, ap, subst, ◌∙◌}
use Rattle.std.specs.Prelude.{map, slice_get, option_map, option_and_then}
use Rattle.gr_base.specs.declared.names.StepId.{StepId}
use Rattle.gr_program.specs.Programs.{Program}
use Rattle.gr_rules.specs.Assigned.{last_assignment}
use Rattle.gr_rules.specs.States.{State}
use Rattle.gr_code.specs.CodeFrames.{ProgramCode}
use Rattle.gr_lower.specs.Lowered.{lowered}
use Rattle.gr_rollback.specs.Kept.{Kept}
use Rattle.gr_rollback.specs.Listings.{state_in}
use Rattle.gr_rollback.specs.Running.{Running}
use Rattle.gr_rollback.specs.Stores.{program_at, contents_at}
use Rattle.gr_rollback.specs.Log.{Log}
use Rattle.gr_rollback.specs.Given.{last_given}
use Rattle.gr_rollback.specs.Logs.{records_of}
use Rattle.gr_rollback.specs.Pasts.{id_of}
use Rattle.gr_rollback.proofs.KeptLemmas.{begins_running}
use Rattle.gr_session.specs.declared.debuggee.Debuggee.{Debuggee}
use Rattle.gr_session.specs.Journal.{World}
use Rattle.gr_session.specs.Targets.{assigner}
use Rattle.gr_session.specs.Debuggees.{store_in, log_in, Stands}
use Rattle.gr_session.proofs.DebuggeeLemmas.{running_of}

module _ (p : Program) (w : World p) (d : Debuggee) (s : Stands p w d) (log : Log) (is : log ≡ log_in d) where
  -- the records are kept
  pub kept_here : Kept p s.machine.holds.begins (records_of log) w.log (contents_at (store_in d))
  kept_here = subst (λ l. Kept p s.machine.holds.begins (records_of l) w.log (contents_at (store_in d))) (sym is) s.machine.holds.kept

  begins_here : Running p s.machine.holds.begins
  begins_here = begins_running p s.machine.holds.begins (running_of p w d s).program s.machine.holds.begun

  -- the last step that gave a variable a value
  pub assigner_here : (q : Program) (code : ProgramCode) (go name : List ℕ) (found : Option StepId)
      → ((t : Running p s.machine.holds.begins)
      → last_given p (lowered p) go name (records_of log)
      ≡ option_and_then (λ i. option_map (id_of p) (slice_get w.log i))
      (last_assignment p (state_in p s.machine.holds.begins) go name (map (λ l. l.event) w.log)))
      → q ≡ program_at (store_in d) → code ≡ lowered (program_at (store_in d)) → found ≡ last_given q code go name (records_of log)
      → found ≡ assigner p w.log go name
  assigner_here q code go name found law program coded is_found =
      is_found ∙ ap (λ x. last_given x code go name (records_of log)) (program ∙ s.machine.holds.program)
      ∙ ap (λ x. last_given p x go name (records_of log)) (coded ∙ ap lowered s.machine.holds.program)
      ∙ law begins_here
      ∙ ap (λ (t : State). option_and_then (λ i. option_map (id_of p) (slice_get w.log i)) (last_assignment p t go name (map (λ l. l.event) w.log)))
      s.machine.holds.begun.state
