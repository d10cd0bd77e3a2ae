-- Of the goroutines whose next step is local, the first gives an event that may be taken alone.
use Rattle.std.proofs.Common.{◌≡◌, ℕ, true, false, List, Option, Some, None, sym, ◌∙◌, subst}
use Rattle.gr_base.specs.declared.events.Choice.{Choice}
use Rattle.gr_base.specs.declared.events.Choice.TheVariants.{Plain, Pick, Default, Park}
use Rattle.gr_base.specs.declared.events.Event.{Event}
use Rattle.gr_program.specs.Programs.{Program}
use Rattle.gr_rules.specs.LocalSteps.{is_local}
use Rattle.gr_rules.specs.States.{Run, live, ended, faulted, State}
use Rattle.gr_step.specs.Leasing.{goes_alone}
use Rattle.gr_step.specs.Stores.{program_at}
use Rattle.gr_rollback.specs.declared.machine.Machine.{Machine}
use Rattle.gr_rollback.specs.Leasing.{IsLentAt}
use Rattle.gr_rollback.specs.Machines.{store_of, Stands, IsMachine}
use Rattle.gr_rollback.specs.Pasts.{Timeline}
use Rattle.gr_rollback.proofs.LendingLemmas.{first_goes, none_goes}
use Rattle.gr_schedules.specs.Choices.{event_by}
use Rattle.gr_schedules.specs.Schedules.{is_alone}
use Rattle.gr_explore.specs.Alone.{AreAlone, IsFound}
use Rattle.gr_explore.specs.Exploring.{state_seen}
use Rattle.gr_explore.specs.Leading.{seen_as}

no_truth : false ≡ true → ⊥
no_truth e = cc

some_is : {A : Type 0} (a b : A) → Some a ≡ Some b → a ≡ b
some_is a b e = cc

none_some : {A : Type 0} (a : A) → None ≡ Some a → ⊥
none_some a e = cc

-- what the machine tells, of the state that is seen
pub lent_seen : (m : Machine) (is : IsMachine m) (o : Option (List ℕ)) → ((p : Program) (w : Timeline p) → Stands p w m → IsLentAt w.past.state 0 o) → IsLentAt (state_seen m) 0 o
lent_seen m is o h =
    let p = program_at (store_of m) in
    subst (λ s. IsLentAt s 0 o) (sym (seen_as p is.world m is.stands).state_is) (h p is.world is.stands)

-- an event that may be taken alone is of a goroutine that goes alone
goes_of : (s : State) (a : Event) → is_alone s a ≡ true → goes_alone s a.go ≡ true
goes_of s a h = by s.run a.choice h
  where
    by : (r : Run) (c : Choice) → (elim r [ live ↦ elim c [ Plain ↦ is_local s a.go | _ ↦ false ] | _ ↦ false ]) ≡ true → (elim r [ live ↦ is_local s a.go | _ ↦ false ]) ≡ true
    by live Plain h = h
    by live (Pick i) h = absurd (no_truth h)
    by live Default h = absurd (no_truth h)
    by live Park h = absurd (no_truth h)
    by ended c h = absurd (no_truth h)
    by (faulted f) c h = absurd (no_truth h)

-- none is found where there is none
pub none_alone : (s : State) → IsLentAt s 0 None → (a : Event) → is_alone s a ≡ true → ⊥
none_alone s l a h = none_goes s a.go l (goes_of s a h)

pub are_alone : (s : State) (go : List ℕ) (e : Event) → IsLentAt s 0 (Some go) → e ≡ event_by go Plain → AreAlone s (Some e)
are_alone s go e l is a h = subst (λ x. is_alone s x ≡ true) (sym is ∙ some_is e a h) (first_goes s go l)

pub is_found : (s : State) (e : Event) → IsFound s (Some e)
is_found s e h = absurd (none_some e (sym h))

pub none_are_alone : (s : State) → AreAlone s None
none_are_alone s a h = absurd (none_some a h)
