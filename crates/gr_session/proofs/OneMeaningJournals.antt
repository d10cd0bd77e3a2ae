-- What a journal keeps fixes its worlds and its replies, and each of its worlds is one of a run.
use Rattle.std.proofs.Common.{◌≡◌, ℕ, List, [], ◌∷◌, ◌++◌, refl, sym, ◌∙◌, ap, subst}
use Rattle.std.proofs.lemmas.List.{same_from_push}
use Rattle.gr_program.specs.Programs.{Program}
use Rattle.gr_laws.specs.Reached.{IsRun}
use Rattle.gr_command.specs.Replies.{Said}
use Rattle.gr_rollback.specs.StepLeasing.{loan_kept}
use Rattle.gr_session.specs.declared.journal.Asked.{Asked}
use Rattle.gr_session.specs.declared.journal.Entry.{Entry}
use Rattle.gr_session.specs.declared.journal.Memory.{Memory}
use Rattle.gr_session.specs.Journal.{World, first_world}
use Rattle.gr_session.specs.Entries.{Means, by_command, by_batch, Lead, no_entry, one_more, Enters}
use Rattle.gr_session.proofs.OneMeaningBatches.{one_commit, commit_leads_on}
use Rattle.gr_session.proofs.OneMeaningNext.{one_next}
use Rattle.gr_session.proofs.OneMeaningUndo.{has_last}
use Rattle.gr_session.proofs.ReachedWorlds.{next_of_run}

no_last : (before : List Entry) (e : Entry) → before ++ e ∷ [] ≡ [] → ⊥
no_last before e none = has_last (before ++ e ∷ []) before e refl none

module _ (p : Program) where
  -- what was asked leads to one next world, with one reply
  pub one_meaning : (w u v : World p) (asked : Asked) (memory : Memory) (a b : Said) → IsRun p w.log w.state
      → Means p w asked memory u a → Means p w asked memory v b → (u ≡ v) × (a ≡ b)
  one_meaning w u v _ memory a b run (by_command {command} first) (by_command second) = one_next p w u v command memory a b run first second
  one_meaning w u v _ memory a b run (by_batch {batch} {stood} first) (by_batch second) = one_commit p w (loan_kept batch) u v stood memory a b first second

  -- a run leads to a run, whatever was asked
  pub means_on : (w u : World p) (asked : Asked) (memory : Memory) (a : Said) → IsRun p w.log w.state → Means p w asked memory u a → IsRun p u.log u.state
  means_on w u _ memory a run (by_command {command} leads) = next_of_run p w u command memory a run leads
  means_on w u _ memory a run (by_batch {batch} {stood} commits) = commit_leads_on p w (loan_kept batch) u stood memory a run commits

  -- the worlds of a journal are worlds of runs
  pub all_of_runs : (w u : World p) (journal : List Entry) → IsRun p w.log w.state → Lead p w journal u → IsRun p u.log u.state
  all_of_runs w u journal run no_entry = run
  all_of_runs w u journal run (one_more {u = x} {before = before} {reply = a} e lead next) =
      means_on x u e.asked e.memory a (all_of_runs w x before run lead) next

  -- what the entries keep fixes where they lead
  pub one_world : (w u v : World p) (journal other : List Entry) → IsRun p w.log w.state → journal ≡ other → Lead p w journal u → Lead p w other v → u ≡ v
  one_world w u v journal other run same no_entry no_entry = refl
  one_world w u v journal other run same no_entry (one_more {before = before} e lead next) = absurd (no_last before e (sym same))
  one_world w u v journal other run same (one_more {before = before} e lead next) no_entry = absurd (no_last before e same)
  one_world w u v journal other run same (one_more {u = x} {before = before} {reply = a} e lead next) (one_more {u = y} {before = after} {reply = b} f leading further) =
      let parts = same_from_push before after e f same in
      let here : x ≡ y = one_world w x y before after run parts.0 lead leading in
      let first = subst (λ e. Means p y e.asked e.memory u a) parts.1 (subst (λ x. Means p x e.asked e.memory u a) here next) in
      (one_meaning y u v f.asked f.memory a b (all_of_runs w y after run leading) first further).0

  -- a journal before an entry and after it fix the entry's number and its reply
  pub one_receipt : (asker : ℕ) (asked : Asked) (old new : List Entry) (m n : ℕ) (a b : Said)
      → Enters p asker asked old new m a → Enters p asker asked old new n b → (m ≡ n) × (a ≡ b)
  one_receipt asker asked old new m n a b first second =
      let parts = same_from_push old old _ _ (sym first.entered ∙ second.entered) in
      let memory : first.memory ≡ second.memory = ap (λ (e : Entry). e.memory) parts.1 in
      let before : first.before ≡ second.before = one_world (first_world p) first.before second.before old old refl refl first.stood second.stood in
      let meant : Means p second.before asked first.memory first.after a = subst (λ w. Means p w asked first.memory first.after a) before first.meant in
      let next : Means p second.before asked second.memory first.after a = subst (λ k. Means p second.before asked k first.after a) memory meant in
      let run = all_of_runs (first_world p) second.before old refl second.stood in
      (first.number_is ∙ sym second.number_is, (one_meaning second.before first.after second.after asked second.memory a b run next second.meant).1)
