-- Goroutines that are left are found by the names that a log has.
use Rattle.std.proofs.Common.{◌≡◌, ◌↔◌, IsTrue, ℕ, Bool, true, false, ◌||◌, List, [], ◌∷◌, Option, Some, None, refl, sym, ◌∙◌, ap, subst, inl, inr}
use Rattle.std.specs.List.{list_any}
use Rattle.std.proofs.lemmas.Bool.{cases_Bool, or_left, or_right}
use Rattle.gr_causal.specs.Sequences.{In}
use Rattle.gr_rules.specs.Goroutines.{Goroutine}
use Rattle.gr_rules.specs.States.{State, ended}
use Rattle.gr_rules.specs.Turns.{IsReady}
use Rattle.gr_step.specs.Stores.{contents_at}
use Rattle.gr_rollback.specs.declared.machine.Machine.{Machine}
use Rattle.gr_rollback.specs.Machines.{store_of, steps_of, IsMachine}
use Rattle.gr_schedules.specs.Aims.{Leaks, is_left, is_waiting}
use Rattle.gr_schedules.specs.Names.{goroutines_begun}
use Rattle.gr_explore.specs.Exploring.{state_seen}
use Rattle.gr_explore.proofs.OfferLemmas.{named, was_some}

not_true : false ≡ true → ⊥
not_true e = cc

empty_cons : (n : ℕ) (ns : List ℕ) → n ∷ ns ≡ [] → ⊥
empty_cons n ns e = cc

module _ {A : Type 0} (f : A → Bool) where
  some_in : (xs : List A) → list_any f xs ≡ true → (x : A) × In x xs × (f x ≡ true)
  some_in [] h = absurd (not_true h)
  some_in (x ∷ xs) h = elim (cases_Bool (f x)) [
    | inl e ↦ (x, inl refl, e)
    | inr e ↦ let r = some_in xs (sym (ap (λ b. b || list_any f xs) e) ∙ h) in (r.0, inr r.1, r.2)
  ]

  any_by : (xs : List A) (x : A) → In x xs → f x ≡ true → list_any f xs ≡ true
  any_by [] x i h = absurd i
  any_by (y ∷ xs) x (inl e) h = or_left (f y) (list_any f xs) (ap f (sym e) ∙ h)
  any_by (y ∷ xs) x (inr i) h = or_right (f y) (list_any f xs) (any_by xs x i h)

-- who waits is there
waits_there : (o : Option Goroutine) → is_waiting o ≡ true → (g : Goroutine) × (o ≡ Some g)
waits_there None h = absurd (not_true h)
waits_there (Some g) h = (g, refl)

module _ (m : Machine) (is : IsMachine m) where
  begun_there : (g : List ℕ) → is_left (state_seen m) g ≡ true → In g (goroutines_begun (steps_of m))
  begun_there [] h = absurd (not_true h)
  begun_there (n ∷ ns) h =
      let seen = waits_there ((state_seen m).goroutines (n ∷ ns)) h in
      let x = was_some _ ((contents_at (store_of m)).goroutines (n ∷ ns)) seen.0 seen.1 in
      elim ((named m is).each_goroutine (n ∷ ns) x.0 x.1) [ inl e ↦ absurd (empty_cons n ns e) | inr i ↦ i ]

  pub leaks_are : (r : Bool) → (state_seen m).run ≡ ended → ((g : List ℕ) → IsReady (state_seen m) g → ⊥)
      → r ≡ list_any (is_left (state_seen m)) (goroutines_begun (steps_of m)) → IsTrue r ↔ Leaks (state_seen m)
  leaks_are r over none_ready e = (
    λ h. let x = some_in (is_left (state_seen m)) (goroutines_begun (steps_of m)) (sym e ∙ h) in
        record { over = over; left = x.0; waits = x.2; none_ready = none_ready },
    λ k. e ∙ any_by (is_left (state_seen m)) (goroutines_begun (steps_of m)) k.left (begun_there k.left k.waits) k.waits,
  )
