-- What is told of a step by the records: the names of its dependents and of its causes.
use Rattle.std.proofs.Common.{◌≡◌, ℕ, Bool, List, [], ◌∷◌, ◌⊎◌, map, inl, inr, refl, sym, ap, ◌∙◌}
use Rattle.gr_base.specs.declared.names.StepId.{StepId}
use Rattle.gr_causal.specs.Dependence.{dependents, causes}
use Rattle.gr_program.specs.Programs.{Program}
use Rattle.gr_laws.specs.Dependence.{clash}
use Rattle.gr_laws.specs.Reached.{Logged}
use Rattle.gr_step.specs.Record.{Record}
use Rattle.gr_step.specs.Conflicts.{conflict_of}
use Rattle.gr_step.specs.Stores.{contents_at}
use Rattle.gr_step.specs.Back.{marked}
use Rattle.gr_depend.specs.Named as records
use Rattle.gr_rollback.specs.declared.machine.Machine.{Machine}
use Rattle.gr_rollback.specs.Asking.{TellsSteps}
use Rattle.gr_rollback.specs.Machines.{steps_of, Stands}
use Rattle.gr_rollback.specs.Pasts.{Timeline, id_of, ids_of}
use Rattle.gr_rollback.proofs.OrderByNamesLemmas.{Both, names_alike}
use Rattle.gr_rollback.proofs.BackLemmas.{named_here}
use Rattle.gr_rollback.proofs.DependenceLemmas.{dependents_alike, causes_alike}
use Rattle.gr_rollback.proofs.OrderLemmas.{IsOf, id_is, conflict_is, kept_both}

none_of : {A : Type 0} (marks : List Bool) (xs : List A) → marks ≡ [] → marked marks xs ≡ []
none_of marks [] e = refl
none_of [] (x ∷ xs) e = refl
none_of (m ∷ marks) (x ∷ xs) e = absurd (let f : m ∷ marks ≡ [] = e in cc)

-- where no items or no marks are left, none is marked
pub none_left : {A : Type 0} (marks : List Bool) (xs : List A) → (xs ≡ []) ⊎ (marks ≡ []) → marked marks xs ≡ []
none_left marks xs (inl e) = ap (marked marks) e
none_left marks xs (inr e) = none_of marks xs e

module _ (p : Program) (w : Timeline p) (m : Machine) (s : Stands p w m) where
  both : Both (IsOf p) (steps_of m) w.past.log
  both = kept_both p s.holds.begins (steps_of m) w.past.log (contents_at m.course.store) s.holds.kept

  ids_alike : (rs : List Record) (ls : List (Logged p)) → Both (IsOf p) rs ls → map (λ r. r.id) rs ≡ ids_of p ls
  ids_alike = names_alike (IsOf p) (λ r. r.id) (id_of p) (λ r l is. sym (id_is p r l is))

  module _ (id : StepId) (place : ℕ) (named : records.IsNamed (steps_of m) place id) (ids : List StepId) where
    -- the names of the step at a place and of all that depend on it
    pub tells_dependents : ids ≡ map (λ r. r.id) (dependents conflict_of (steps_of m) place) → TellsSteps p w.past.log id (dependents (clash p) w.past.log) ids
    tells_dependents are = record {
      place = place;
      named = named_here p w.past m.course s.holds id place named;
      names = are ∙ ids_alike (dependents conflict_of (steps_of m) place) (dependents (clash p) w.past.log place)
          (dependents_alike (IsOf p) conflict_of (clash p) (λ a b k l. conflict_is p a b k l) (steps_of m) w.past.log place both);
    }

    -- the names of the step at a place and of all that it depends on
    pub tells_causes : ids ≡ map (λ r. r.id) (causes conflict_of (steps_of m) place) → TellsSteps p w.past.log id (causes (clash p) w.past.log) ids
    tells_causes are = record {
      place = place;
      named = named_here p w.past m.course s.holds id place named;
      names = are ∙ ids_alike (causes conflict_of (steps_of m) place) (causes (clash p) w.past.log place)
          (causes_alike (IsOf p) conflict_of (clash p) (λ a b k l. conflict_is p a b k l) (steps_of m) w.past.log place both);
    }
