-- The goroutine of a step, and what the step leaves as it was.
use Rattle.std.proofs.Common.{◌≡◌, ℕ, Bool, true, false, ◌||◌, if◌then◌else◌, List, [], ◌∷◌, map, Option, Some, None, inl, inr, refl, sym, ap, subst, ◌∙◌}
use Rattle.std.specs.Option.{option_to_list}
use Rattle.std.proofs.lemmas.Bool.{cases_Bool}
use Rattle.std.proofs.lemmas.List.Folds.{list_any-append}
use Rattle.gr_base.specs.declared.events.Event.{Event}
use Rattle.gr_goros.specs.declared.undo.GoUndo.{GoUndo}
use Rattle.gr_goros.specs.Undoing.{Fits, undone}
use Rattle.gr_pool.specs.Goroutines.{is_among}
use Rattle.gr_program.specs.Programs.{Program}
use Rattle.gr_rules.specs.Goroutines.{Status, ready, waiting, finished}
use Rattle.gr_rules.specs.States.{Run, live, ended, faulted, same_go}
use Rattle.gr_rules.specs.Attempts.{Refusal, program_is_over, no_such_goroutine, goroutine_is_done, goroutine_waits, Report}
use Rattle.gr_rules.specs.Frames.{Frame}
use Rattle.gr_rules.specs.Steps.{attempt, refusal}
use Rattle.gr_code.specs.CodeFrames.{CodeFrame}
use Rattle.gr_code.specs.Goroutines.{CodeGoroutine}
use Rattle.gr_refine.specs.Contents.{Contents, state_of}
use Rattle.gr_refine.specs.Leaves.{refused, performed, Refuses}
use Rattle.gr_refine.specs.Performing.{StepsTo}
use Rattle.gr_refine.proofs.MachineLemmas.{refusal_is_leaf}
use Rattle.gr_refine.proofs.LookLemmas.{over_is_refused, unknown_is_refused, done_is_refused, waiting_is_refused}
use Rattle.gr_step.specs.Effects.{Effect}
use Rattle.gr_laws.proofs.CellLemmas.{go_is, go_self}
use Rattle.gr_step.specs.Fews.{members}
use Rattle.gr_step.specs.Records.{beyond, begun_by, go_back, go_undone, is_go, taken_back, goroutines_changed, GoesFit, CanGoBack}
use Rattle.gr_step.specs.NamedGoroutines.{At}
use Rattle.gr_rollback.specs.Readiness.{IsReadyIn, KeepsStatus, names_met, others_of}
use Rattle.gr_rollback.proofs.Basics.{some_inj, or_right, true_not_false, neither}

module _ (frame : CodeFrame → Frame) (p : Program) (e : Event) (s t : Contents) (report : Report) (steps : StepsTo frame (attempt p e) s t report) where
  not_refused : (r : Refusal) → Refuses (attempt p e) (state_of frame s) r → ⊥
  not_refused r bad = let both : refused r ≡ performed report steps.cells = sym bad ∙ steps.ends in cc

  by_status : (g : CodeGoroutine) → s.run ≡ live → s.goroutines e.go ≡ Some g → (y : Status) → g.status ≡ y → IsReadyIn s e.go
  by_status g runs there ready is = record { goroutine = g; there = there; is_ready = is }
  by_status g runs there (waiting ws) is = absurd (not_refused goroutine_waits (waiting_is_refused frame s p e g ws runs there is))
  by_status g runs there finished is = absurd (not_refused goroutine_is_done (done_is_refused frame s p e g runs there is))

  by_goroutine : s.run ≡ live → (o : Option CodeGoroutine) → s.goroutines e.go ≡ o → IsReadyIn s e.go
  by_goroutine runs None is = absurd (not_refused no_such_goroutine (unknown_is_refused frame s p e runs is))
  by_goroutine runs (Some g) is = by_status g runs is g.status refl

  not_live : (r : Run) → (r ≡ live → ⊥) → s.run ≡ r → ⊥
  not_live r other is = not_refused program_is_over (over_is_refused frame s p e (λ h. other (sym is ∙ h)))

  by_run : (r : Run) → s.run ≡ r → IsReadyIn s e.go
  by_run live is = by_goroutine is (s.goroutines e.go) refl
  by_run ended is = absurd (not_live ended (λ h. cc) is)
  by_run (faulted fault) is = absurd (not_live (faulted fault) (λ h. cc) is)

  -- the goroutine of a step is ready before it
  pub own_is_ready : IsReadyIn s e.go
  own_is_ready = by_run s.run refl

  -- the rules allow the step
  pub step_is_allowed : refusal p (state_of frame s) e ≡ None
  step_is_allowed = by_refusal (refusal p (state_of frame s) e) refl
    where
      by_refusal : (o : Option Refusal) → refusal p (state_of frame s) e ≡ o → refusal p (state_of frame s) e ≡ None
      by_refusal None is = is
      by_refusal (Some r) is = absurd (not_refused r ((refusal_is_leaf p (state_of frame s) e r).0 is))

-- a goroutine that is not among those that changed is as it was
back_else : (us : List (List ℕ × GoUndo)) (q : List ℕ) (x : Option CodeGoroutine) → is_among q (map (λ u. u.0) us) ≡ false → go_back us q x ≡ x
back_else [] q x f = refl
back_else (u ∷ us) q x f =
    let both = neither (same_go q u.0) (is_among q (map (λ v. v.0) us)) f in
    rw both.0 (back_else us q x both.1)

begun_else : (o : Option (List ℕ)) (q : List ℕ) → is_among q (option_to_list o) ≡ false → is_go q o ≡ false
begun_else None q f = refl
begun_else (Some n) q f = (neither (same_go q n) false f).0

pub others_stay : (n : List ℕ) (c : Effect) (t : Contents) (q : List ℕ) → same_go q n ≡ false → is_among q (others_of c) ≡ false
    → (taken_back n c t).goroutines q ≡ t.goroutines q
others_stay n c t q other f =
    let met : List (List ℕ × GoUndo) = beyond [] (λ b. members b.met) c in
    let both = neither (is_among q (map (λ u. u.0) met)) (is_among q (option_to_list (begun_by c)))
    (sym (list_any-append (same_go q) (map (λ u. u.0) met) (option_to_list (begun_by c))) ∙ f) in
    rw (begun_else (begun_by c) q both.1, other) (back_else met q (t.goroutines q) both.0)

-- the goroutine of a step is there after it
either_way : {A : Type 0} (b : Bool) (x : A) → (if b then x else x) ≡ x
either_way true x = refl
either_way false x = refl

pub back_none : (us : List (List ℕ × GoUndo)) (q : List ℕ) → go_back us q None ≡ None
back_none [] q = refl
back_none (u ∷ us) q = rw (back_none us q) (either_way (same_go q u.0) None)

pub own_is_there : (n : List ℕ) (c : Effect) (t : Contents) → CanGoBack n c t → (g : CodeGoroutine) × (t.goroutines n ≡ Some g)
own_is_there n c t can = by_option (t.goroutines n) can.goroutines.0
  where
    by_option : (o : Option CodeGoroutine) → At (Fits c.own) (go_back (beyond [] (λ b. members b.met) c) n o) → (g : CodeGoroutine) × (o ≡ Some g)
    by_option (Some g) fits = (g, refl)
    by_option None fits = absurd (subst (At (Fits c.own)) (back_none (beyond [] (λ b. members b.met) c) n) fits)

-- a goroutine that a step met is there after it
back_some : (u : GoUndo) (b : Bool) (x : Option CodeGoroutine) → (g : CodeGoroutine) × (x ≡ Some g) → (g : CodeGoroutine) × ((if b then go_undone u x else x) ≡ Some g)
back_some u true x there = (undone u there.0, ap (go_undone u) there.1)
back_some u false x there = there

pub fitting : (u : GoUndo) (o : Option CodeGoroutine) → At (Fits u) o → (g : CodeGoroutine) × (o ≡ Some g)
fitting u (Some g) fits = (g, refl)
fitting u None fits = absurd fits

pub met_is_there : (us : List (List ℕ × GoUndo)) (f : List ℕ → Option CodeGoroutine) (q : List ℕ) → GoesFit us f → is_among q (names_met us) ≡ true
    → (g : CodeGoroutine) × (go_back us q (f q) ≡ Some g)
met_is_there [] f q fit t = absurd (true_not_false t refl)
met_is_there (u ∷ us) f q fit t = elim (cases_Bool (same_go q u.0)) [
  | inl e ↦ back_some u.1 (same_go q u.0) (go_back us q (f q))
      (subst (λ m. (g : CodeGoroutine) × (go_back us m (f m) ≡ Some g)) (sym (go_is q u.0 e)) (fitting u.1 (go_back us u.0 (f u.0)) fit.0))
  | inr e ↦ back_some u.1 (same_go q u.0) (go_back us q (f q))
      (met_is_there us f q fit.1 (sym (ap (λ b. b || is_among q (names_met us)) e) ∙ t))
]

-- a goroutine that a step met was there before it, unless the step started it
pub met_was_there : (n : List ℕ) (c : Effect) (t : Contents) (q : List ℕ) → CanGoBack n c t → is_among q (names_met (beyond [] (λ b. members b.met) c)) ≡ true
    → is_go q (begun_by c) ≡ false → (g : CodeGoroutine) × ((taken_back n c t).goroutines q ≡ Some g)
met_was_there n c t q can among other =
    let there = met_is_there ((n, c.own) ∷ beyond [] (λ b. members b.met) c) t.goroutines q can.goroutines
    (or_right (same_go q n) (is_among q (names_met (beyond [] (λ b. members b.met) c))) among) in
    (there.0, ap (λ b. if b then None else go_back (goroutines_changed n c) q (t.goroutines q)) other ∙ there.1)

-- a goroutine that was ready is so after a step that neither met nor started it and left its status as it was
pub stays_ready : (n : List ℕ) (c : Effect) (s t : Contents) → IsReadyIn s n → taken_back n c t ≡ s → CanGoBack n c t
    → is_among n (others_of c) ≡ false → KeepsStatus c.own → IsReadyIn t n
stays_ready n c s t was back can apart keeps =
    let there = own_is_there n c t can in
    let undone_is : Some (undone c.own there.0) ≡ Some was.goroutine =
    sym (ap (go_undone c.own) there.1) ∙ sym (own_apart (t.goroutines n)) ∙ ap (λ (x : Contents). x.goroutines n) back ∙ was.there in
    record {
      goroutine = there.0;
      there = there.1;
      is_ready = sym (keeps there.0) ∙ ap (λ (g : CodeGoroutine). g.status) (some_inj undone_is) ∙ was.is_ready;
    }
  where
    met : List (List ℕ × GoUndo)
    met = beyond [] (λ b. members b.met) c

    both : (is_among n (map (λ u. u.0) met) ≡ false) × (is_among n (option_to_list (begun_by c)) ≡ false)
    both = neither (is_among n (map (λ u. u.0) met)) (is_among n (option_to_list (begun_by c)))
        (sym (list_any-append (same_go n) (map (λ u. u.0) met) (option_to_list (begun_by c))) ∙ apart)

    own_apart : (x : Option CodeGoroutine) → (if is_go n (begun_by c) then None else go_back (goroutines_changed n c) n x) ≡ go_undone c.own x
    own_apart x = rw (begun_else (begun_by c) n both.1, go_self n) (ap (go_undone c.own) (back_else met n x both.0))
