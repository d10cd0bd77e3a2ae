use Rattle.std.proofs.Common.{refl, sym, subst, [], ◌∷◌}
use Rattle.gr_causal.specs.Dependence.{Depends, AreTheOthers, dependents, kept}
use Rattle.gr_causal.proofs.DependenceLemmas.{dependents_are, others_are, causes_are}
use Rattle.gr_causal.proofs.ListLemmas.{Before-left, Before-right}
use Rattle.gr_causal.proofs.MiddleLemmas.{from_middle, still_stands, each_ends, redone, moved_to_end}
use Rattle.gr_causal.proofs.PartLemmas.{last_dependents, part_goes_back}
use Rattle.gr_causal.proofs.PathLemmas.{path_of}
use Rattle.gr_causal.proofs.RollbackLemmas.{rolled_back}
use Rattle.gr_causal.proofs.StepLemmas.{conflict_back}
use Rattle.gr_causal.proofs.SwapLemmas.{undone}
use Rattle.gr_causal.proofs.UniqueLemmas.{same_least, same_others}
use Rattle.gr_rules.specs.States.{start}
use Rattle.gr_rules.specs.Steps.{machine}
use Rattle.gr_laws.specs.Dependence.{clash, AreTheDependents, AreTheCauses, step_name, same_name}
use Rattle.gr_laws.proofs.CellLemmas.{machine_laws}
use Rattle.gr_laws.proofs.RunLemmas.{distinct_steps, distinct_log, same_name_is}
use Rattle.gr_laws.proofs.law_of_rollback.Goals as goal

pub returns-clause-last : goal.returns-clause-last
returns-clause-last c p s t log r l k = undone (machine p) (machine_laws p) (r ∷ []) s t (path_of (machine p) s (r ∷ []) t k)

pub returns-clause-dependents : goal.returns-clause-dependents
returns-clause-dependents c p t log some i x l at =
    let is = same_name_is in
    let found = dependents_are (clash p) log i x (distinct_log p log t l) at in (
      λ h. same_least (step_name p) same_name (λ m n. (is m n).0) (λ n. (is n n).1 refl) log (distinct_steps p log t l)
          (λ a b. Depends (clash p) log b a) (λ a b h. (Before-left log a b h.0, Before-right log a b h.0)) x some _ h found,
      λ e. subst (AreTheDependents p log x) (sym e) found,
    )

pub returns-clause-causes : goal.returns-clause-causes
returns-clause-causes c p t log some i x l at =
    let is = same_name_is in
    let found = causes_are (clash p) (conflict_back (machine p)) log i x (distinct_log p log t l) at in (
      λ h. same_least (step_name p) same_name (λ m n. (is m n).0) (λ n. (is n n).1 refl) log (distinct_steps p log t l)
          (λ a b. Depends (clash p) log a b) (λ a b h. (Before-right log b a h.0, Before-left log b a h.0)) x some _ h found,
      λ e. subst (AreTheCauses p log x) (sym e) found,
    )

pub returns-clause-others : goal.returns-clause-others
returns-clause-others c p t log some i l =
    let d = distinct_log p log t l in
    let found = others_are (clash p) log i d in (
      λ h. same_others log d (dependents (clash p) log i) some (kept (clash p) log i) h found,
      λ e. subst (AreTheOthers log (dependents (clash p) log i)) (sym e) found,
    )

pub returns-clause-back : goal.returns-clause-back
returns-clause-back c p t log i = rolled_back (machine p) (machine_laws p) (start p) log t i

pub returns-clause-each : goal.returns-clause-each
returns-clause-each c p t log left gone r i = each_ends (machine p) (machine_laws p) (start p) t log left gone r i

pub returns-clause-stopped : goal.returns-clause-stopped
returns-clause-stopped c p t log left gone stay i l e o =
    let d = distinct_log p log t l in
    (part_goes_back (machine p) (machine_laws p) (start p) t log gone stay l d (last_dependents (clash p) log left gone i d e) o).0

pub returns-clause-middle : goal.returns-clause-middle
returns-clause-middle c p t front back r l f = (from_middle (machine p) (machine_laws p) (start p) t front back r l f).0

pub returns-clause-again : goal.returns-clause-again
returns-clause-again c p t front back r l f = (from_middle (machine p) (machine_laws p) (start p) t front back r l f).1

pub returns-clause-stands : goal.returns-clause-stands
returns-clause-stands c p s t front back r = still_stands (machine p) (machine_laws p) (start p) s t front back r

pub returns-clause-redone : goal.returns-clause-redone
returns-clause-redone c p t log i = redone (machine p) (machine_laws p) (start p) t log i

pub returns-clause-whole : goal.returns-clause-whole
returns-clause-whole c p t log i = moved_to_end (machine p) (machine_laws p) (start p) t log i
