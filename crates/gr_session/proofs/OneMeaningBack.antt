-- The step that is asked for stands at one place, and it is taken back with its consequences in one way.
use Rattle.std.proofs.Common.{◌≡◌, ℕ, List, length, sym, ◌∙◌, ap, subst}
use Rattle.gr_base.specs.declared.names.StepId.{StepId}
use Rattle.gr_causal.specs.Dependence.{dependents, kept, AreTheOthers}
use Rattle.gr_causal.proofs.ListLemmas.{some_is}
use Rattle.gr_causal.proofs.UniqueLemmas.{same_others}
use Rattle.gr_program.specs.Programs.{Program}
use Rattle.gr_rules.specs.States.{State}
use Rattle.gr_laws.specs.Dependence.{clash, step_name}
use Rattle.gr_laws.specs.Reached.{Logged, IsRun}
use Rattle.gr_laws.proofs.RunLemmas.{distinct_steps, distinct_log}
use Rattle.gr_command.specs.declared.target.Target.{Target}
use Rattle.gr_rollback.specs.Backs.{IsNamed, LosesAll, LosesSome}
use Rattle.gr_rollback.specs.Pasts.{Past}
use Rattle.gr_session.specs.Journal.{IsAsked}
use Rattle.gr_session.proofs.OneMeaningLists.{one_place, same_ends}
use Rattle.gr_session.proofs.OneMeaningPasts.{one_past}

module _ (p : Program) (log : List (Logged p)) (t : State) (run : IsRun p log t) where
  -- a name stands at one place of a run
  pub one_named : (id other : StepId) (i j : ℕ) → id ≡ other → IsNamed p log id i → IsNamed p log other j → i ≡ j
  one_named id other i j same first second =
      one_place (step_name p) log (distinct_steps p log t run) i j first.step second.step first.there second.there
      (ap (λ (id : StepId). (id.go, id.n)) (first.named ∙ same ∙ sym second.named))

  -- what is asked for stands at one place of a run
  pub one_asked : (target : Target) (i j : ℕ) → IsAsked p log target i → IsAsked p log target j → i ≡ j
  one_asked target i j first second =
      one_named first.id second.id i j (some_is first.id second.id (sym first.asked ∙ second.asked)) first.named second.named

module _ (p : Program) (w u v : Past p) (i j : ℕ) (same : i ≡ j) where
  -- what is left without all consequences is one
  pub one_left : LosesAll p w i u → LosesAll p w j v → u ≡ v
  one_left first second = one_past p u v first.run second.run (first.log ∙ ap (kept (clash p) w.log) same ∙ sym second.log)

  -- this many of the last consequences are one list
  pub one_gone : (gone other : List (Logged p)) → length gone ≡ length other → LosesSome p w i gone u → LosesSome p w j other v → gone ≡ other
  one_gone gone other count first second =
      same_ends first.left second.left gone other count (sym first.last ∙ ap (dependents (clash p) w.log) same ∙ second.last)

  -- what is left without them is one
  pub one_left_of_some : (gone other : List (Logged p)) → IsRun p w.log w.state → gone ≡ other → LosesSome p w i gone u → LosesSome p w j other v → u ≡ v
  one_left_of_some gone other run alike first second =
      one_past p u v first.run second.run
      (same_others w.log (distinct_log p w.log w.state run) other u.log v.log (subst (λ ds. AreTheOthers w.log ds u.log) alike first.others) second.others)
