-- The course of a program before its first step.
use Rattle.std.proofs.Common.{◌≡◌, ℕ, true, List, [], ◌∷◌, Option, Some, None, inl, inr, refl, sym, ap, subst, ◌∙◌, arith}
use Rattle.std.specs.Prelude.{option_map}
use Rattle.std.proofs.lemmas.Bool.{cases_Bool}
use Rattle.gr_pool.specs.Goroutines as pools
use Rattle.gr_pool.specs.Goroutines.{is_among}
use Rattle.gr_program.specs.Programs.{Program}
use Rattle.gr_rules.specs.Goroutines.{Goroutine, ready}
use Rattle.gr_rules.specs.States.{State, same_go, start}
use Rattle.gr_laws.proofs.CellLemmas.{go_is}
use Rattle.gr_code.specs.Goroutines.{CodeGoroutine}
use Rattle.gr_refine.specs.Contents.{Contents, goroutine_of}
use Rattle.gr_refine.specs.Standing.{ContentsStand}
use Rattle.gr_step.specs.Lowered.{lowered, meaning}
use Rattle.gr_step.specs.Listings.{frame_in, state_in}
use Rattle.gr_step.specs.Running.{IsChecked}
use Rattle.gr_step.specs.Stores.{contents_at, IsStart}
use Rattle.gr_step.proofs.CheckedRuns.{checked_begins}
use Rattle.gr_step.specs.Kept.{none}
use Rattle.gr_depend.specs.Logs.{records_of}
use Rattle.gr_rollback.specs.declared.course.Course.{Course}
use Rattle.gr_rollback.specs.Pasts.{first_past}
use Rattle.gr_rollback.specs.Courses.{Holds}
use Rattle.gr_rollback.specs.Readiness.{IsReadyIn, HasReady}
use Rattle.gr_rollback.proofs.Basics.{some_inj}

module _ (p : Program) (s : Contents) (begins : state_in p s ≡ start p) (checked : IsChecked p) where
  seen : (n : List ℕ) → option_map (goroutine_of (frame_in p)) (s.goroutines n) ≡ (start p).goroutines n
  seen n = ap (λ (t : State). t.goroutines n) begins

  -- no goroutine but that of `main` is there
  only_main : (n : List ℕ) (g : CodeGoroutine) → s.goroutines n ≡ Some g → same_go n [] ≡ true
  only_main n g there = elim (cases_Bool (same_go n [])) [
    | inl e ↦ e
    | inr e ↦
        let none : (start p).goroutines n ≡ None = rw e refl in
        let some : Some (goroutine_of (frame_in p) g) ≡ None = ap (option_map (goroutine_of (frame_in p))) (sym there) ∙ seen n ∙ none in
        absurd (let f : Some (goroutine_of (frame_in p) g) ≡ None = some in cc)
  ]

  -- the goroutine of `main` is ready
  by_option : (o : Option CodeGoroutine) → s.goroutines [] ≡ o → (x : Goroutine) → x.status ≡ ready → option_map (goroutine_of (frame_in p)) o ≡ Some x
      → IsReadyIn s []
  by_option None is x up e = absurd (let f : None ≡ Some x = e in cc)
  by_option (Some g) is x up e = record { goroutine = g; there = is; is_ready = ap (λ (y : Goroutine). y.status) (some_inj e) ∙ up }

  main_is_ready : IsReadyIn s []
  main_is_ready =
      let begun = checked_begins checked.file p checked.checked in
      by_option (s.goroutines []) refl _ refl (seen [] ∙ begun.2)

  -- a pool with `main` alone
  pub pool_begins : (pool : pools.Goroutines) → is_among [] pool.known ≡ true → pool.ready ≡ [] ∷ [] → HasReady pool s
  pool_begins pool known only = record {
    knows = λ n g there. ap (λ m. is_among m pool.known) (go_is n [] (only_main n g there)) ∙ known;
    each = λ n. record {
      has = λ up. ap (is_among n) only ∙ ap (λ m. is_among m ([] ∷ [])) (go_is n [] (only_main n up.goroutine up.there));
      only = λ t. subst (IsReadyIn s) (sym (go_is n [] (first_only n (ap (is_among n) (sym only) ∙ t)))) main_is_ready;
    };
  }
    where
      first_only : (n : List ℕ) → is_among n ([] ∷ []) ≡ true → same_go n [] ≡ true
      first_only [] t = refl
      first_only (k ∷ ks) t = t

pub stands_first : (p : Program) (c : Course) → IsStart p c.store → records_of c.log ≡ [] → is_among [] c.pool.known ≡ true → c.pool.ready ≡ [] ∷ [] → c.first ≡ []
    → Holds p (first_past p) c
stands_first p c begins log known only first =
    let state : state_in p (contents_at c.store) ≡ start p = ap (λ q. state_in q (contents_at c.store)) (sym begins.program) ∙ begins.state in
    let checked : IsChecked p = subst IsChecked begins.program begins.run.running.program in
    record {
      program = begins.program;
      run = begins.run;
      begins = contents_at c.store;
      begun = record {
        state = state;
        stand = subst (λ q. ContentsStand (meaning q) (lowered q) (contents_at c.store)) begins.program begins.run.running.stand;
      };
      kept = rw log none;
      state = sym state;
      pool = pool_begins p (contents_at c.store) state checked c.pool known only;
      short = rw log (omega arith);
      first = first;
    }
