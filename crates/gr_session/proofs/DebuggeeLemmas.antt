-- A program under the debugger, and the world that it stands for.
use Rattle.std.proofs.Common.{◌≡◌, ℕ, List, Option, length, sym, ap, subst, ◌∙◌}
use Rattle.gr_program.specs.Programs.{Program}
use Rattle.gr_rollback.specs.Machines.{IsMachine}
use Rattle.gr_rollback.proofs.KeptLemmas.{kept_length}
use Rattle.gr_rollback.specs.Logs.{records_of}
use Rattle.gr_rules.specs.Turns.{line_of}
use Rattle.gr_rollback.specs.Store.{Store}
use Rattle.gr_rollback.specs.Listings.{state_in}
use Rattle.gr_rollback.specs.Running.{Running}
use Rattle.gr_rollback.specs.Stores.{program_at, contents_at, state_at, IsRun}
use Rattle.gr_session.specs.declared.debuggee.Debuggee.{Debuggee}
use Rattle.gr_session.specs.Journal.{World, course_of}
use Rattle.gr_session.specs.Debuggees.{store_in, log_in, Stands, IsDebuggee}

-- a program that stands as in a world
pub is_debuggee : (p : Program) (w : World p) (d : Debuggee) → Stands p w d → IsDebuggee d
is_debuggee p w d s = subst (λ q. (v : World q) → Stands q v d → IsDebuggee d) s.machine.holds.program (λ v t. record { world = v; stands = t }) w s

pub is_machine : (d : Debuggee) → IsDebuggee d → IsMachine d.machine
is_machine d is = record { world = course_of (program_at (store_in d)) is.world; stands = is.stands.machine }

pub is_run : (d : Debuggee) → IsDebuggee d → IsRun (store_in d)
is_run d is = is.stands.machine.holds.run

module _ (p : Program) (w : World p) (d : Debuggee) (s : Stands p w d) where
  -- the log has as many steps as there are records
  pub log_length : length (records_of (log_in d)) ≡ length w.log
  log_length = kept_length p s.machine.holds.begins (records_of (log_in d)) w.log (contents_at (store_in d)) s.machine.holds.kept

  -- a run leads to what the store contains
  pub running_of : Running p (contents_at (store_in d))
  running_of = subst (λ q. Running q (contents_at (store_in d))) s.machine.holds.program s.machine.holds.run.running

  -- the state that the store is in
  pub state_is : state_at (store_in d) ≡ w.state
  state_is = ap (λ q. state_in q (contents_at (store_in d))) s.machine.holds.program ∙ sym s.machine.holds.state

  -- the line of the next statement of a goroutine
  pub line_here : (go : List ℕ) (store : Store) (at : Option ℕ) → store ≡ store_in d → at ≡ line_of ((state_at store).goroutines go)
      → at ≡ line_of (w.state.goroutines go)
  line_here go store at is e = e ∙ ap (λ q. line_of ((state_at q).goroutines go)) is ∙ ap (λ t. line_of (t.goroutines go)) state_is
