-- What an entry keeps of a batch fixes the next world and the reply, and the next world is one of a run.
use Rattle.std.proofs.Common.{◌≡◌, Bool, refl, sym, ◌∙◌, ap₂, arith}
use Rattle.gr_causal.proofs.PathLemmas.{log_join}
use Rattle.gr_program.specs.Programs.{Program}
use Rattle.gr_rules.specs.States.{start}
use Rattle.gr_rules.specs.Steps.{machine}
use Rattle.gr_laws.specs.Reached.{IsRun}
use Rattle.gr_command.specs.Replies.{Said}
use Rattle.gr_rollback.specs.StepLeasing.{Loan}
use Rattle.gr_session.specs.declared.journal.Memory.{Memory}
use Rattle.gr_session.specs.Journal.{World}
use Rattle.gr_session.specs.Batches.{Commits, with_steps}
use Rattle.gr_session.specs.Batches as commits
use Rattle.gr_session.proofs.OneMeaningRedo.{same_steps}

module _ (p : Program) (w : World p) (b : Loan) where
  pub one_commit : (u v : World p) (stood : Bool) (memory : Memory) (a c : Said)
      → Commits p w b stood memory u a → Commits p w b stood memory v c → (u ≡ v) × (a ≡ c)
  one_commit u v _ _ a c (commits.all_join {t = t} s steps contains lent some few join) (commits.all_join {t = x} q more keeps there any less joins) =
      let same = same_steps p w.state t x steps more join.leads joins.leads (join.events ∙ sym joins.events) in
      (ap₂ (λ ls y. with_steps p w b ls y) same.1 same.0, refl)
  one_commit u v _ _ a c (commits.all_join s steps contains lent some few join) (commits.has_no_room_for_all q keeps there less full) =
      let room = join.room in absurd (omega arith)
  one_commit u v _ _ a c (commits.all_join s steps contains lent some few join) (commits.passes_grant more) = absurd (omega arith)
  one_commit u v _ _ a c (commits.has_no_room_for_all s contains lent few full) (commits.all_join q steps keeps there some less join) =
      let room = join.room in absurd (omega arith)
  one_commit u v _ _ a c (commits.has_no_room_for_all s contains lent few full) (commits.has_no_room_for_all q keeps there less more) = (refl, refl)
  one_commit u v _ _ a c (commits.has_no_room_for_all s contains lent few full) (commits.passes_grant more) = absurd (omega arith)
  one_commit u v _ _ a c (commits.has_changed s contains other) (commits.has_changed q keeps another) = (refl, refl)
  one_commit u v _ _ a c (commits.has_changed s contains other) (commits.passes_grant more) = (refl, refl)
  one_commit u v _ _ a c (commits.passes_grant more) (commits.all_join s steps contains lent some few join) = absurd (omega arith)
  one_commit u v _ _ a c (commits.passes_grant more) (commits.has_no_room_for_all s contains lent few full) = absurd (omega arith)
  one_commit u v _ _ a c (commits.passes_grant more) (commits.has_changed s contains other) = (refl, refl)
  one_commit u v _ _ a c (commits.passes_grant more) (commits.passes_grant most) = (refl, refl)
  one_commit u v _ _ a c (commits.has_no_memory s contains joins) (commits.has_no_memory q keeps may) = (refl, refl)

  pub commit_leads_on : (u : World p) (stood : Bool) (memory : Memory) (a : Said)
      → IsRun p w.log w.state → Commits p w b stood memory u a → IsRun p u.log u.state
  commit_leads_on u _ _ a run (commits.all_join {t = t} s steps contains lent some few join) = log_join (machine p) (start p) w.state t w.log steps run join.leads
  commit_leads_on u _ _ a run (commits.has_no_room_for_all s contains lent few full) = run
  commit_leads_on u _ _ a run (commits.has_changed s contains other) = run
  commit_leads_on u _ _ a run (commits.passes_grant more) = run
  commit_leads_on u _ _ a run (commits.has_no_memory s contains joins) = run
