-- Which choices are steps of a goroutine that stands at a select.
use Rattle.std.proofs.Common.{◌≡◌, ℕ, suc, ◌+◌, Bool, true, false, ◌&&◌, ◌||◌, not, if◌then◌else◌, List, [], ◌∷◌, ◌++◌, map, filter, length, Option, Some, None, refl, sym, ap, ◌∙◌, add-zero, arith, option_map}
use Rattle.std.specs.Prelude.{is_none, is_some, get_or, slice_get}
use Rattle.std.specs.List.{list_any, range_with_len}
use Rattle.gr_base.specs.declared.values.Value.{Value}
use Rattle.gr_base.specs.declared.events.Choice.{Choice}
use Rattle.gr_base.specs.declared.events.Choice.TheVariants.{Plain, Pick, Default, Park}
use Rattle.gr_base.specs.declared.events.Event.{Event}
use Rattle.gr_base.specs.declared.kinds.Kind.TheVariants as kinds
use Rattle.gr_program.specs.Programs.{Program}
use Rattle.gr_rules.specs.Outcomes.{Outcome, gives, faults, wrong}
use Rattle.gr_rules.specs.Deeds.{Communication, Chooses, past}
use Rattle.gr_rules.specs.Goroutines.{ready, waiting}
use Rattle.gr_rules.specs.States.{State, Cell, live, look}
use Rattle.gr_rules.specs.Attempts.{no_such_choice, Attempt, refuse, perform, ask, refusal_in}
use Rattle.gr_rules.specs.Actors.{Actor, onward, does, simply, given, clause_at, channels_but}
use Rattle.gr_rules.specs.Communications.{all_waits, communicate, wait}
use Rattle.gr_rules.specs.Selects.{values_of, if_none_ready, default_from, numbered, default, park, choose}
use Rattle.gr_rules.specs.Steps.{act_by, attempt}
use Rattle.gr_rules.specs.Tells.{may, how_many_clauses, ready_clauses, usual_choice}
use Rattle.gr_rules.specs.Touches.{clauses_by, clauses_in}
use Rattle.gr_code.specs.CodeFrames.{CodeFrame, Wants}
use Rattle.gr_code.specs.Goroutines.{CodeGoroutine, faulted}
use Rattle.gr_code.specs.Programs.{deed_meant}
use Rattle.gr_refine.specs.Contents.{Contents, goroutine_of}
use Rattle.gr_refine.specs.Leaves.{leaf}
use Rattle.gr_refine.specs.Looks.{Ends, actor_of}
use Rattle.gr_refine.specs.Partners.{AreChannels, can_proceed}
use Rattle.gr_refine.specs.Presence.{Sound}
use Rattle.gr_refine.proofs.AttemptLemmas.{ready_has_a_frame}
use Rattle.gr_refine.proofs.PartnerLemmas.{none_ready_is_looked_up, enqueued_is_looked_up}
use Rattle.gr_refine.proofs.PresenceLemmas.{enqueued_is_there}
use Rattle.gr_refine.proofs.SelectLemmas.{none_ready_is_made, picking_communicates, picking_faults, picking_cannot, picking_has_values, default_is_none, default_is_late, parking_has_default, parking_is_late}
use Rattle.gr_refine.proofs.TaskLemmas.{attempt_is_of_the_task, deed_is}
use Rattle.gr_lower.specs.Lowered.{lowered, meaning}
use Rattle.gr_record.specs.Listings.{frame_in, state_in}
use Rattle.gr_record.specs.Running.{Running}
use Rattle.gr_step.specs.Choices.{Selects, ready_from, choice_without, first_of}
use Rattle.gr_step.proofs.RunningLemmas.{ActsHere, code_fits, never_unsound}
use Rattle.gr_step.proofs.ProceedLemmas.{is_step, Goes, goes_alike, given_goes, communicates}

-- a goroutine that is ready, in a program that runs, has an innermost frame
pub acts_at : (p : Program) (s : Contents) → Running p s → (e : Event) (g : CodeGoroutine)
    → s.run ≡ live → s.goroutines e.go ≡ Some g → g.status ≡ ready → ActsHere p s e g
acts_at p s run e g runs there is_ready = by_frames g.frames refl
  where
    by_frames : (fs : List CodeFrame) → g.frames ≡ fs → ActsHere p s e g
    by_frames [] is = absurd (ready_has_a_frame (frame_in p) s p e g runs there is_ready (never_unsound p s run e) is)
    by_frames (f ∷ below) is = record {
      f = f;
      below = below;
      acts = record {
        fits = code_fits p s run;
        up = record { runs = runs; there = there; is_ready = is_ready; frames = is };
        stand = run.stand e.go g there;
      };
    }

-- an event is refused just where its attempt does not end in a step
pub step_at_leaf : (t : State) (a : Attempt) → is_none (refusal_in t a) ≡ is_step (leaf t a)
step_at_leaf t (refuse r) = refl
step_at_leaf t (perform report cells) = refl
step_at_leaf t (ask o f) = step_at_leaf t (f (look t o))

abbrev pub chosen_by : List ℕ → Choice → Event
chosen_by n choice = record { go = n; choice = choice }

-- the choice of a select is that of its clauses
pub choosing : (a : Actor) (ws : List Communication) (choice : Choice) → act_by a choice (gives (Chooses ws)) ≡ choose a ws choice
choosing a ws Plain = refl
choosing a ws (Pick i) = refl
choosing a ws Default = refl
choosing a ws Park = refl

module _ (p : Program) (s : Contents) (run : Running p s) (valid : AreChannels s) (n : List ℕ) (ws : List Communication) (at : Selects p s n ws) where
  here : (choice : Choice) → ActsHere p s (chosen_by n choice) at.goroutine
  here choice = acts_at p s run (chosen_by n choice) at.goroutine at.runs at.there at.is_ready

  abbrev actor : Choice → Actor
  actor choice = actor_of (frame_in p) p (chosen_by n choice) at.goroutine (here choice).f (here choice).below

  chosen : (choice : Choice) → Ends (frame_in p) s (attempt p (chosen_by n choice)) (choose (actor choice) ws choice)
  chosen choice =
      attempt_is_of_the_task (meaning p) p (lowered p) s (chosen_by n choice) at.goroutine (here choice).f (here choice).below
      (gives (Wants (Chooses ws))) (here choice).acts at.task
      ∙ ap (leaf (state_in p s)) (choosing (actor choice) ws choice)

  chosen_sound : (choice : Choice) → Sound (frame_in p) s (choose (actor choice) ws choice)
  chosen_sound choice q = never_unsound p s run (chosen_by n choice) (chosen choice ∙ q)

  may_is : (choice : Choice) → may p (state_in p s) n choice ≡ is_step (leaf (state_in p s) (choose (actor choice) ws choice))
  may_is choice = step_at_leaf (state_in p s) (attempt p (chosen_by n choice)) ∙ ap is_step (chosen choice)

  -- what the choice comes to where it ends as another attempt, which is a step where the test says so
  may_alike : (choice : Choice) (b : Attempt) (x : Bool) → Ends (frame_in p) s (choose (actor choice) ws choice) b → Goes (frame_in p) s b x
      → may p (state_in p s) n choice ≡ x
  may_alike choice b x ends goes =
      may_is choice ∙ goes_alike (frame_in p) s (choose (actor choice) ws choice) b x ends goes (chosen_sound choice)

  -- a clause may be picked just where it can proceed
  module _ (i : ℕ) (w : Communication) (clause : clause_at ws i ≡ Some w) where
    by_fault : (e : _) (b : Bool) → values_of ws ≡ faults e → can_proceed s w ≡ b → may p (state_in p s) n (Pick i) ≡ b
    by_fault e true values can = may_is (Pick i) ∙ ap is_step (picking_faults (frame_in p) s (actor (Pick i)) ws i w e (faulted at.goroutine) valid
        (chosen_sound (Pick i)) values clause can refl).ends
    by_fault e false values cannot = may_is (Pick i) ∙ ap is_step (picking_cannot (frame_in p) s (actor (Pick i)) ws i w e valid
        (chosen_sound (Pick i)) values clause cannot)

    by_values : (o : Outcome (List Value)) → values_of ws ≡ o → may p (state_in p s) n (Pick i) ≡ can_proceed s w
    by_values (gives vs) values = may_alike (Pick i) (communicate (actor (Pick i)) (Some i) w (refuse no_such_choice)) (can_proceed s w)
        (picking_communicates (frame_in p) s (actor (Pick i)) ws i vs w values clause)
        (communicates (frame_in p) s (actor (Pick i)) (Some i) valid no_such_choice w)
    by_values (faults e) values = by_fault e (can_proceed s w) values refl
    by_values wrong values = absurd (picking_has_values (frame_in p) s (actor (Pick i)) ws i w (chosen_sound (Pick i)) clause values)

    pub may_pick : may p (state_in p s) n (Pick i) ≡ can_proceed s w
    may_pick = by_values (values_of ws) refl

  -- an attempt that comes after the test of all clauses
  none_first : (choice : Choice) (b : Attempt) → list_any (can_proceed s) ws ≡ false
      → Ends (frame_in p) s (choose (actor choice) ws choice) (if_none_ready ws b) → Goes (frame_in p) s b true → may p (state_in p s) n choice ≡ true
  none_first choice b none ends goes =
      may_alike choice b true
      (ends ∙ none_ready_is_looked_up (frame_in p) s ws b valid
      (none_ready_is_made (frame_in p) s ws b valid (λ q. chosen_sound choice (ends ∙ q)) none) none)
      goes

  -- the default clause may be chosen where there is one and no clause can proceed
  abbrev defaults : ℕ → Attempt
  defaults i = given (actor Default) (values_of ws) (λ vs. given (actor Default) (past (actor Default).frame (Some i) None)
      (λ f. simply (actor Default) kinds.Default (onward (actor Default) f) []))

  pub default_by : (o : Option ℕ) (b : Bool) → default_from 1 ws ≡ o → list_any (can_proceed s) ws ≡ b
      → may p (state_in p s) n Default ≡ (is_some o && not b)
  default_by None b there some = may_is Default ∙ ap is_step (default_is_none (frame_in p) s (actor Default) ws there)
  default_by (Some i) true there some =
      may_is Default ∙ ap is_step (default_is_late (frame_in p) s (actor Default) ws i valid (chosen_sound Default) there some)
  default_by (Some i) false there some =
      none_first Default (defaults i) some (ap (λ o. leaf (state_in p s) (default (actor Default) ws o)) there)
      (given_goes (frame_in p) s (actor Default) (values_of ws) _
      (λ vs. given_goes (frame_in p) s (actor Default) (past (actor Default).frame (Some i) None) _ (λ f sound. refl)))

  -- it may wait where there is none and no clause can proceed
  waits : (a : Actor) → Goes (frame_in p) s (wait a None kinds.SelectWait (numbered 1 ws)) true
  waits a sound =
      let parks : List Cell → Attempt =
      does a None None kinds.SelectWait (record (a.before) { status = waiting (all_waits (numbered 1 ws)); steps = a.before.steps + 1 }) in
      let made = enqueued_is_there (frame_in p) s a.name (numbered 1 ws) (channels_but [] (all_waits (numbered 1 ws))) parks sound in
      ap is_step (enqueued_is_looked_up (frame_in p) s a.name (numbered 1 ws) (channels_but [] (all_waits (numbered 1 ws))) parks made)

  abbrev parks_by : Attempt
  parks_by = given (actor Park) (values_of ws) (λ vs. wait (actor Park) None kinds.SelectWait (numbered 1 ws))

  pub park_by : (o : Option ℕ) (b : Bool) → default_from 1 ws ≡ o → list_any (can_proceed s) ws ≡ b
      → may p (state_in p s) n Park ≡ (is_none o && not b)
  park_by (Some i) b there some = may_is Park ∙ ap is_step (parking_has_default (frame_in p) s (actor Park) ws i there)
  park_by None true there some = may_is Park ∙ ap is_step (parking_is_late (frame_in p) s (actor Park) ws valid (chosen_sound Park) there some)
  park_by None false there some =
      none_first Park parks_by some (ap (λ o. leaf (state_in p s) (park (actor Park) ws o)) there)
      (given_goes (frame_in p) s (actor Park) (values_of ws) _ (λ vs. waits (actor Park)))

  -- its clauses, as the state tells them
  at_select : clauses_in (map (frame_in p) at.goroutine.frames) ≡ ws
  at_select =
      let h = here Plain in
      ap (λ (fs : List CodeFrame). clauses_in (map (frame_in p) fs)) h.acts.up.frames
      ∙ ap clauses_by (deed_is (meaning p) p (lowered p) at.goroutine h.f h.below h.acts.fits h.acts.up.frames h.acts.stand
      ∙ ap (deed_meant (meaning p) (lowered p)) at.task)

  how_many : how_many_clauses ((state_in p s).goroutines n) ≡ length ws
  how_many = ap (λ o. how_many_clauses (option_map (goroutine_of (frame_in p)) o)) at.there ∙ ap length at_select

  numbers : (k : ℕ) (vs : List Communication)
      → ((j m : ℕ) (w : Communication) → k + j ≡ m → slice_get vs j ≡ Some w → clause_at ws m ≡ Some w)
      → filter (λ i. may p (state_in p s) n (Pick i)) (range_with_len k (length vs)) ≡ ready_from s k vs
  numbers k [] are = refl
  numbers k (w ∷ vs) are =
      let first : may p (state_in p s) n (Pick k) ≡ can_proceed s w = may_pick k w (are 0 k w (add-zero k) refl) in
      let rest = numbers (k + 1) vs (λ j m v e there. are (suc j) m v (omega (arith, e)) there) in
      let others : List ℕ = filter (λ i. may p (state_in p s) n (Pick i)) (range_with_len (k + 1) (length vs)) in
      ap (λ b. if b then k ∷ others else others) first ∙ ap (λ ns. if can_proceed s w then k ∷ ns else ns) rest

  pub ready_is : ready_clauses p (state_in p s) n ≡ ready_from s 1 ws
  ready_is =
      ap (λ m. filter (λ i. may p (state_in p s) n (Pick i)) (range_with_len 1 m)) how_many
      ∙ numbers 1 ws (λ j m w e there. let e' : suc j ≡ m = omega (arith, e) in ap (clause_at ws) (sym e') ∙ there)

  -- with no clause that can proceed
  none_by : (k : ℕ) (ns : List ℕ) (a b : Bool) → (if a then k ∷ ns else ns) ≡ [] → (ns ≡ [] → b ≡ false) → (a || b) ≡ false
  none_by k ns true b none rest = absurd (let never : k ∷ ns ≡ [] = none in cc)
  none_by k ns false b none rest = rest none

  none_from : (k : ℕ) (vs : List Communication) → ready_from s k vs ≡ [] → list_any (can_proceed s) vs ≡ false
  none_from k [] none = refl
  none_from k (w ∷ vs) none =
      none_by k (ready_from s (k + 1) vs) (can_proceed s w) (list_any (can_proceed s) vs) none (none_from (k + 1) vs)

  abbrev by_tests : Bool → Bool → Choice
  by_tests a b = get_or (if a then Default ∷ (if b then Park ∷ [] else []) else (if b then Park ∷ [] else [])) 0 Plain

  without : list_any (can_proceed s) ws ≡ false → (o : Option ℕ) → default_from 1 ws ≡ o
      → by_tests (may p (state_in p s) n Default) (may p (state_in p s) n Park) ≡ elim o [ Some i ↦ Default | None ↦ Park ]
  without none (Some i) there = ap (λ a. by_tests a (may p (state_in p s) n Park)) (default_by (Some i) false there none)
  without none None there =
      ap (λ a. by_tests a (may p (state_in p s) n Park)) (default_by None false there none)
      ∙ ap (by_tests false) (park_by None false there none)

  usual_by : (ns : List ℕ) → ready_from s 1 ws ≡ ns
      → get_or (map Pick ns ++ filter (may p (state_in p s) n) (Default ∷ Park ∷ [])) 0 Plain ≡ first_of ns (choice_without ws)
  usual_by [] are = without (none_from 1 ws are) (default_from 1 ws) refl
  usual_by (i ∷ is) are = refl

  pub usual_is : usual_choice p (state_in p s) n ≡ first_of (ready_from s 1 ws) (choice_without ws)
  usual_is =
      ap (λ ns. get_or (map Pick ns ++ filter (may p (state_in p s) n) (Default ∷ Park ∷ [])) 0 Plain) ready_is
      ∙ usual_by (ready_from s 1 ws) refl
