-- Whose turn it is in a course.
use Rattle.std.proofs.Common.{◌≡◌, ℕ, List, [], ◌∷◌, ◌++◌, Option, Some, None, inl, inr, refl, sym, ap, subst, ◌∙◌}
use Rattle.std.specs.Prelude.{option_map}
use Rattle.std.proofs.lemmas.Bool.{cases_Bool}
use Rattle.gr_pool.specs.Goroutines.{IsInOrder, next_name}
use Rattle.gr_program.specs.Programs.{Program}
use Rattle.gr_rules.specs.Goroutines.{Goroutine}
use Rattle.gr_rules.specs.States.{same_go, start}
use Rattle.gr_rules.specs.Turns.{IsReady, IsTurn, last_owner}
use Rattle.gr_laws.specs.Reached.{Logged}
use Rattle.gr_laws.proofs.CellLemmas.{go_is}
use Rattle.gr_code.specs.Goroutines.{CodeGoroutine}
use Rattle.gr_refine.specs.Contents.{Contents, goroutine_of}
use Rattle.gr_step.specs.Record.{Record}
use Rattle.gr_step.specs.Listings.{frame_in, state_in}
use Rattle.gr_step.specs.Stores.{contents_at}
use Rattle.gr_depend.specs.Logs.{records_of}
use Rattle.gr_rollback.specs.declared.course.Course.{Course}
use Rattle.gr_rollback.specs.Courses.{Holds}
use Rattle.gr_rollback.specs.Pasts.{Past}
use Rattle.gr_rollback.specs.Readiness.{IsReadyIn}
use Rattle.gr_rollback.proofs.KeptLemmas.{last_kept, none_kept}
use Rattle.gr_rollback.proofs.TurnLemmas.{AreReady, turn_after, turn_first}
use Rattle.gr_rollback.proofs.Basics.{some_inj}

-- a goroutine that is ready in the store is so by the rules, and the other way round
ready_by_rules : (p : Program) (s : Contents) (n : List ℕ) → IsReadyIn s n → IsReady (state_in p s) n
ready_by_rules p s n is = (goroutine_of (frame_in p) is.goroutine, ap (option_map (goroutine_of (frame_in p))) is.there, is.is_ready)

ready_in_store : (p : Program) (s : Contents) (n : List ℕ) → IsReady (state_in p s) n → IsReadyIn s n
ready_in_store p s n is = by_option (s.goroutines n) refl is.1
  where
    by_option : (o : Option CodeGoroutine) → s.goroutines n ≡ o → option_map (goroutine_of (frame_in p)) o ≡ Some is.0 → IsReadyIn s n
    by_option None there e = absurd (let f : None ≡ Some is.0 = e in cc)
    by_option (Some g) there e = record { goroutine = g; there = there; is_ready = ap (λ (y : Goroutine). y.status) (some_inj e) ∙ is.2 }

-- the goroutine of the last step
last_is : (p : Program) (log : List (Logged p)) (l : Logged p) → last_owner p (log ++ l ∷ []) ≡ Some l.event.go
last_is p [] l = refl
last_is p (r ∷ []) l = refl
last_is p (r ∷ q ∷ rs) l = last_is p (q ∷ rs) l

-- where a program starts, `main` alone is ready
main_alone : (p : Program) (h : List ℕ) → IsReady (start p) h → h ≡ []
main_alone p h up = elim (cases_Bool (same_go h [])) [
  | inl e ↦ go_is h [] e
  | inr e ↦
      let none : (start p).goroutines h ≡ None = rw e refl in
      absurd (let f : Some up.0 ≡ None = sym up.1 ∙ none in cc)
]

module _ (p : Program) (w : Past p) (c : Course) (s : Holds p w c) (order : IsInOrder c.pool.ready) where
  are_ready : AreReady w.state c.pool.ready
  are_ready = subst (λ t. AreReady t c.pool.ready) (sym s.state) (record {
    order = order;
    has = λ h up. (s.pool.each h).has (ready_in_store p (contents_at c.store) h up);
    only = λ h among. ready_by_rules p (contents_at c.store) h ((s.pool.each h).only among);
  })

  -- whose turn it is after a step
  pub turn_of_last : (records : List Record) (r : Record) → records_of c.log ≡ records ++ r ∷ [] → IsTurn w.state (last_owner p w.log) (next_name r.id.go c.pool.ready)
  turn_of_last records r is =
      let last = last_kept p s.begins records r w.log (contents_at c.store) (rw is at s.kept) in
      let owner : last_owner p w.log ≡ Some r.id.go = ap (last_owner p) last.log_is ∙ last_is p last.before last.last ∙ ap (λ e. Some e.go) last.tells.event in
      subst (λ o. IsTurn w.state o (next_name r.id.go c.pool.ready)) (sym owner) (turn_after w.state r.id.go c.pool.ready are_ready)

  -- whose turn it is before the first step
  pub turn_of_none : records_of c.log ≡ [] → IsTurn w.state (last_owner p w.log) (next_name c.first c.pool.ready)
  turn_of_none is =
      let none = none_kept p s.begins w.log (contents_at c.store) (rw is at s.kept) in
      let begins : w.state ≡ start p = s.state ∙ ap (state_in p) none.1 ∙ s.begun.state in
      let alone = subst (λ t. (h : List ℕ) → IsReady t h → h ≡ []) (sym begins) (main_alone p) in
      let owner : last_owner p w.log ≡ None = ap (last_owner p) none.0 in
      let first : next_name c.first c.pool.ready ≡ next_name [] c.pool.ready = ap (λ n. next_name n c.pool.ready) s.first in
      subst (λ o. IsTurn w.state o (next_name c.first c.pool.ready)) (sym owner)
      (subst (IsTurn w.state None) (sym first) (turn_first w.state alone (next_name [] c.pool.ready) (turn_after w.state [] c.pool.ready are_ready)))
