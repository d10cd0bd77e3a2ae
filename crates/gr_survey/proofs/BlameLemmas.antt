-- The step to blame, by its name.
use Rattle.std.proofs.Common.{◌≡◌, ◌<◌, ℕ, zero, suc, List, [], ◌∷◌, map, length, slice_get, Some, refl, sym, ◌∙◌, ap, subst}
use Rattle.gr_program.specs.Programs.{Program}
use Rattle.gr_step.specs.Record.{Record}
use Rattle.gr_step.specs.Stores.{contents_at}
use Rattle.gr_rollback.proofs.KeptLemmas.{ids_alike, kept_length}
use Rattle.gr_rollback.specs.declared.machine.Machine.{Machine}
use Rattle.gr_rollback.specs.Machines.{store_of, steps_of, Stands}
use Rattle.gr_rollback.specs.Pasts.{Timeline, events_in}
use Rattle.gr_laws.specs.Reached.{Logged}
use Rattle.gr_explore.specs.Blaming.{IsBlame}
use Rattle.gr_explore.specs.declared.blaming.Blame.{Blame}
use Rattle.gr_explore.specs.declared.blaming.Blame.TheVariants as blames
use Rattle.gr_survey.specs.declared.blaming.Blamed.{Blamed}
use Rattle.gr_survey.specs.Blames.{IsNamed, Blames}

mapped_at : {A B : Type 0} (f : A → B) (xs : List A) (i : ℕ) (x : A) → slice_get xs i ≡ Some x → slice_get (map f xs) i ≡ Some (f x)
mapped_at f [] i x e = cc
mapped_at f (y ∷ xs) zero x e = cc
mapped_at f (y ∷ xs) (suc i) x e = mapped_at f xs i x e

module _ (p : Program) (w : Timeline p) (m : Machine) (s : Stands p w m) where
  -- there are as many events as steps
  events_long : (log : List (Logged p)) → length (events_in p log) ≡ length log
  events_long [] = refl
  events_long (r ∷ log) = ap suc (events_long log)

  -- a place among the events is one among the steps
  pub within_steps : (n : ℕ) → n < length (events_in p w.past.log) → n < length (steps_of m)
  within_steps n h =
      let long = events_long w.past.log ∙ sym (kept_length p s.holds.begins (steps_of m) w.past.log (contents_at (store_of m)) s.holds.kept) in
      subst (λ k. n < k) long h

  -- a blame, once its step is named
  pub blames_by_name : (blame : Blame) (blamed : Blamed) → IsBlame p (events_in p w.past.log) blame → IsNamed (steps_of m) blame blamed → Blames p w.past blamed
  blames_by_name blames.Nobody blamed is named = subst (Blames p w.past) (sym named) is
  blames_by_name blames.Beginning blamed is named = subst (Blames p w.past) (sym named) is
  blames_by_name (blames.Between span) blamed is named = subst (Blames p w.past) (sym named) is
  blames_by_name (blames.Step n) blamed is named =
      let there : slice_get (map (λ (r : Record). r.id) (steps_of m)) n ≡ Some named.step.id = mapped_at (λ (r : Record). r.id) (steps_of m) n named.step named.there in
      let alike = ids_alike p s.holds.begins (steps_of m) w.past.log (contents_at (store_of m)) s.holds.kept in
      subst (Blames p w.past) (sym named.named)
      (record { place = n; there = subst (λ ids. slice_get ids n ≡ Some named.step.id) alike there; well = is.1; lost = is.2 })
