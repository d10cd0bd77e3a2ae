-- A goroutine that is not ready, or whose program does not run: it has no choice, and no step of its own. The usual choice of
-- one that is ready is a step.
use Rattle.std.proofs.Common.{◌≡◌, ◌∙◌, ℕ, List, Option, Some, None, refl, sym, ap}
use Rattle.std.specs.Prelude.{option_map}
use Rattle.gr_base.specs.declared.events.Choice.{Choice}
use Rattle.gr_program.specs.Programs.{Program}
use Rattle.gr_rules.specs.Goroutines.{Status, ready, waiting, finished}
use Rattle.gr_rules.specs.States.{Run, State, live, ended, faulted}
use Rattle.gr_rules.specs.Steps.{refusal}
use Rattle.gr_code.specs.Goroutines.{CodeGoroutine}
use Rattle.gr_refine.specs.Contents.{Contents, goroutine_of}
use Rattle.gr_record.specs.Listings.{frame_in, state_in}
use Rattle.gr_record.specs.Running.{Running}
use Rattle.type_safety.proofs.CheckedRuns.{checked_goes}
use Rattle.gr_step.specs.Choices.{HasNoChoice, usual_event, event_meant}
use Rattle.gr_step.specs.Guard.{HasReady, IsUp}
use Rattle.gr_step.proofs.NoChoiceLemmas.{none_over, none_unknown, none_unready}

module _ (p : Program) (s : Contents) (n : List ℕ) where
  -- the usual choice is a step
  pub usual_is_step : (g : CodeGoroutine) → Running p s → HasReady s n g → refusal p (state_in p s) (usual_event p (state_in p s) n) ≡ None
  usual_is_step g run has =
      checked_goes run.program.file p (state_in p s) n (goroutine_of (frame_in p) g) run.program.checked run.reached has.runs
      (ap (option_map (goroutine_of (frame_in p))) has.there) has.is_ready

  module _ (down : ¬ IsUp s n) where
    by_status : (g : CodeGoroutine) (t : Status) → s.run ≡ live → s.goroutines n ≡ Some g → g.status ≡ t → HasNoChoice p s n
    by_status g ready runs there is = absurd (down (record { runs = runs; goroutine = g; there = there; is_ready = is }))
    by_status g (waiting ws) runs there is = none_unready p s n g runs there (waiting ws) is (λ (e : waiting ws ≡ ready). cc)
    by_status g finished runs there is = none_unready p s n g runs there finished is (λ (e : finished ≡ ready). cc)

    by_goroutine : (o : Option CodeGoroutine) → s.run ≡ live → s.goroutines n ≡ o → HasNoChoice p s n
    by_goroutine None runs is = none_unknown p s n runs is
    by_goroutine (Some g) runs is = by_status g g.status runs is refl

    by_run : (r : Run) → s.run ≡ r → HasNoChoice p s n
    by_run live runs = by_goroutine (s.goroutines n) runs refl
    by_run ended over = none_over p s n (λ (runs : s.run ≡ live). let no : ended ≡ live = sym over ∙ runs in cc)
    by_run (faulted e) over = none_over p s n (λ (runs : s.run ≡ live). let no : faulted e ≡ live = sym over ∙ runs in cc)

    pub none_unless_up : HasNoChoice p s n
    none_unless_up = by_run s.run refl

-- the event of a goroutine is its name with a choice
pub meant_of : (p : Program) (s : State) (go : List ℕ) (choice : Option Choice)
    → event_meant p s go choice ≡ record { go = go; choice = (event_meant p s go choice).choice }
meant_of p s go (Some choice) = refl
meant_of p s go None = refl
