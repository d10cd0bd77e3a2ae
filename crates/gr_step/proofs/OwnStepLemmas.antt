-- Whether the next step of a goroutine of the store is local, as the rules say it.
use Rattle.std.proofs.Common.{◌≡◌, ◌∙◌, ℕ, Bool, false, not, List, [], ◌∷◌, map, length, nat_le, Option, Some, None, refl, sym, ap}
use Rattle.std.specs.Prelude.{option_map}
use Rattle.gr_base.specs.declared.events.Choice.TheVariants.{Plain}
use Rattle.gr_program.specs.Programs.{Program}
use Rattle.gr_rules.specs.Deeds.{Moves, Prints, Enters, Leaves, Starts, Makes, TakesLen, TakesCap, Closes, Communicates, Chooses}
use Rattle.gr_rules.specs.Goroutines.{Status, ready}
use Rattle.gr_rules.specs.Goroutines as rules
use Rattle.gr_rules.specs.Limits.{most_frames}
use Rattle.gr_rules.specs.LocalSteps.{stays_within_by, is_local_at, is_local_in, is_local}
use Rattle.gr_rules.specs.Outcomes.{Outcome, gives, faults, wrong}
use Rattle.gr_rules.specs.States.{live, ended, faulted}
use Rattle.gr_rules.specs.States as states
use Rattle.gr_code.specs.CodeFrames.{CodeFrame, Task, Steps, Wants}
use Rattle.gr_code.specs.Goroutines.{CodeGoroutine, is_deepest, task_of}
use Rattle.gr_code.specs.Programs.{deed_meant}
use Rattle.gr_refine.specs.Contents.{Contents, goroutine_of}
use Rattle.gr_refine.proofs.LocalLemmas.{map_length}
use Rattle.gr_refine.proofs.TaskLemmas.{deed_is}
use Rattle.gr_goros.specs.Alone.{stays_in, stays_alone}
use Rattle.gr_lower.specs.Lowered.{lowered, meaning}
use Rattle.gr_step.specs.Guard.{IsUp}
use Rattle.gr_step.specs.Leasing.{goes_alone}
use Rattle.gr_record.specs.Listings.{frame_in, state_in}
use Rattle.gr_record.specs.Running.{Running}
use Rattle.gr_step.proofs.MayLemmas.{acts_at, chosen_by}

-- by the run, and by what the rules say of the goroutine
abbrev by_run : states.Run → Bool → Bool
by_run r b = elim r [ live ↦ b | _ ↦ false ]

abbrev by_goroutine : Option rules.Goroutine → Bool
by_goroutine o = elim o [ Some x ↦ is_local_in x | None ↦ false ]

abbrev by_status : Status → Bool → Bool
by_status s b = elim s [ ready ↦ b | _ ↦ false ]

module _ (p : Program) (s : Contents) (n : List ℕ) where
  -- a goroutine that is not ready has no such step, and none of a program that does not run
  module _ (down : ¬ IsUp s n) where
    down_by_status : (g : CodeGoroutine) (t : Status) → s.run ≡ live → s.goroutines n ≡ Some g → g.status ≡ t
        → by_status t (is_local_at (map (frame_in p) g.frames)) ≡ false
    down_by_status g ready runs there is = absurd (down (record { runs = runs; goroutine = g; there = there; is_ready = is }))
    down_by_status g (rules.waiting ws) runs there is = refl
    down_by_status g rules.finished runs there is = refl

    down_by_goroutine : (o : Option CodeGoroutine) → s.run ≡ live → s.goroutines n ≡ o → by_goroutine (option_map (goroutine_of (frame_in p)) o) ≡ false
    down_by_goroutine None runs is = refl
    down_by_goroutine (Some g) runs is = down_by_status g g.status runs is refl

    down_by_run : (r : states.Run) → s.run ≡ r → by_run r (is_local (state_in p s) n) ≡ false
    down_by_run live runs = down_by_goroutine (s.goroutines n) runs refl
    down_by_run ended over = refl
    down_by_run (faulted e) over = refl

    pub down_goes_not : goes_alone (state_in p s) n ≡ false
    down_goes_not = down_by_run s.run refl

  -- a task and the deed that it means
  module _ (f : CodeFrame) where
    deep : (below : List CodeFrame) → is_deepest (f ∷ below) ≡ nat_le most_frames (length (map (frame_in p) (f ∷ below)))
    deep below = ap (nat_le most_frames) (sym (map_length (frame_in p) (f ∷ below)))

    same_answer : (below : List CodeFrame) (o : Outcome Task)
        → stays_in (f ∷ below) o ≡ stays_within_by (map (frame_in p) (f ∷ below)) (deed_meant (meaning p) (lowered p) o)
    same_answer below (gives (Steps on)) = refl
    same_answer below (gives (Wants (Moves on))) = refl
    same_answer below (gives (Wants (Prints line))) = refl
    same_answer below (gives (Wants (Enters function vs))) = ap not (deep below)
    same_answer [] (gives (Wants (Leaves v))) = refl
    same_answer (g ∷ below) (gives (Wants (Leaves v))) = refl
    same_answer below (gives (Wants (Starts function vs))) = refl
    same_answer below (gives (Wants (Makes n))) = refl
    same_answer below (gives (Wants (TakesLen c))) = refl
    same_answer below (gives (Wants (TakesCap c))) = refl
    same_answer below (gives (Wants (Closes c))) = refl
    same_answer below (gives (Wants (Communicates c))) = refl
    same_answer below (gives (Wants (Chooses cs))) = refl
    same_answer below (faults e) = refl
    same_answer below wrong = refl

  module _ (run : Running p s) (runs : s.run ≡ live) (g : CodeGoroutine) (there : s.goroutines n ≡ Some g) (is_ready : g.status ≡ ready) where
    pub stays_is : stays_alone (lowered p) g ≡ goes_alone (state_in p s) n
    stays_is =
        let up = acts_at p s run (chosen_by n Plain) g runs there is_ready in
        ap (λ fs. stays_in fs (task_of (lowered p) g)) up.acts.up.frames
        ∙ same_answer up.f up.below (task_of (lowered p) g)
        ∙ ap (stays_within_by (map (frame_in p) (up.f ∷ up.below)))
        (sym (deed_is (meaning p) p (lowered p) g up.f up.below up.acts.fits up.acts.up.frames up.acts.stand))
        ∙ ap (λ fs. is_local_at (map (frame_in p) fs)) (sym up.acts.up.frames)
        ∙ ap (λ t. by_status t (is_local_at (map (frame_in p) g.frames))) (sym is_ready)
        ∙ ap (λ o. by_goroutine (option_map (goroutine_of (frame_in p)) o)) (sym there)
        ∙ ap (λ r. by_run r (is_local (state_in p s) n)) (sym runs)
