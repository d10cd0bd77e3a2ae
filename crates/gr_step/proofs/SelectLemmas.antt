-- The steps of a select, from the clauses of the goroutine that acts.
use Rattle.std.proofs.Common.{◌≡◌, ◌<◌, ◌+◌, ℕ, zero, suc, true, false, if◌then◌else◌, List, [], ◌∷◌, map, Option, Some, None, Result, Ok, Err, refl, sym, ap, subst, ◌∙◌, arith, drop}
use Rattle.std.specs.Prelude.{option_map}
use Rattle.std.specs.List.{list_any, list_all, flat_map}
use Rattle.gr_base.specs.declared.names.ChName.{ChName}
use Rattle.gr_base.specs.declared.values.Value.{Value}
use Rattle.gr_base.specs.declared.events.Choice.{Choice}
use Rattle.gr_base.specs.declared.events.Choice.TheVariants.{Plain, Pick, Default, Park}
use Rattle.gr_base.specs.declared.events.Event.{Event}
use Rattle.gr_base.specs.declared.kinds.Fault.{Fault}
use Rattle.gr_base.specs.declared.kinds.Kind.TheVariants as kinds
use Rattle.gr_base.specs.declared.objects.Object.{Object}
use Rattle.gr_base.specs.declared.objects.Object.TheVariants as objects
use Rattle.gr_program.specs.Programs.{Program}
use Rattle.gr_rules.specs.Outcomes.{gives, faults}
use Rattle.gr_rules.specs.Deeds.{Communication, Sending, Chooses}
use Rattle.gr_rules.specs.States.{live, faulted as run_faulted}
use Rattle.gr_rules.specs.Attempts.{Attempt, refuse, no_such_choice}
use Rattle.gr_rules.specs.Actors.{Actor, clause_at}
use Rattle.gr_rules.specs.Communications.{communicate, wait}
use Rattle.gr_rules.specs.Selects.{values_of, default_from, numbered, default, park, choose}
use Rattle.gr_rules.specs.Steps.{act_by, attempt}
use Rattle.gr_rules.specs.Touches.{Touches, touches, row, side, looked_at, clauses_by, clauses_in}
use Rattle.gr_laws.specs.Touched.{each_once}
use Rattle.gr_code.specs.CodeFrames.{CodeFrame, Wants}
use Rattle.gr_code.specs.Goroutines.{CodeGoroutine, Passes, faulted, task_of}
use Rattle.gr_code.specs.Programs.{IsClause, deed_meant}
use Rattle.gr_tables.specs.NamedChannels.{contents_of}
use Rattle.gr_tables.specs.NamedGoroutines.{At, Arrives, CanArrive, ChangesBy, seen_at}
use Rattle.gr_refine.specs.Arriving.{HasClauseHere}
use Rattle.gr_refine.specs.CodeSteps.{code_report}
use Rattle.gr_refine.specs.Contents.{Contents, goroutine_of, with_goroutine}
use Rattle.gr_refine.specs.Leaves.{Refuses, leaf}
use Rattle.gr_refine.specs.Looks.{Ends, actor_of}
use Rattle.gr_refine.specs.Partners.{can_proceed, is_made_for}
use Rattle.gr_refine.specs.Performing.{StepsTo}
use Rattle.gr_refine.specs.Presence.{Sound}
use Rattle.gr_refine.proofs.ArrivingLemmas.{passing_arrives, passing_can_arrive, select_has_clauses}
use Rattle.gr_refine.proofs.CodeStepLemmas.{is_in}
use Rattle.gr_refine.proofs.PerformingLemmas.{same_end_same_step}
use Rattle.gr_refine.proofs.SelectLemmas.{none_ready_is_made, picking_communicates, picking_of_none, picking_faults, picking_cannot, default_is_taken, default_faults, default_is_none, default_is_late, default_has_values, parking_waits, parking_faults, parking_has_default, parking_is_late}
use Rattle.gr_refine.proofs.TaskLemmas.{attempt_is_of_the_task, deed_is}
use Rattle.gr_goros.specs.Views.{outcome_of}
use Rattle.gr_lower.specs.Lowered.{lowered, meaning}
use Rattle.gr_step.specs.Beyonds.{ChangesObjects, ReachesBeyond, Stops}
use Rattle.gr_step.specs.declared.objects.Objects.{Objects}
use Rattle.gr_record.specs.Effects.{Effect}
use Rattle.gr_step.specs.Choices.{IsFaultOf}
use Rattle.gr_step.specs.Communicating.{Trial, TrialIsSound, Tried, Chosen}
use Rattle.gr_record.specs.Listings.{frame_in, state_in}
use Rattle.gr_step.specs.Objects.{contents_in, run_of}
use Rattle.gr_step.specs.Premises.{Acting, OfGoroutine, OfActor}
use Rattle.gr_step.specs.Room.{HasRoom}
use Rattle.gr_record.specs.Taking.{Takes}
use Rattle.gr_step.proofs.ArrivalLemmas.{Arrived, arrived_here, can_arrive}
use Rattle.gr_step.proofs.ChoiceLemmas.{are_channels}
use Rattle.gr_step.proofs.FaultLemmas.{FaultRow, fault_takes}
use Rattle.gr_step.proofs.MayLemmas.{choosing}
use Rattle.gr_step.proofs.OwnTakesLemmas.{own_takes, count_is}
use Rattle.gr_step.proofs.PlaceLemmas.{own_room}
use Rattle.gr_step.proofs.ReachesLemmas.{Told, told}
use Rattle.gr_step.proofs.RunningLemmas.{ActsHere, acts_here, never_unsound}
use Rattle.gr_step.proofs.SelectListLemmas.{some_is, default_above, once_in_fault, once_in_default}

-- an attempt that ends in the same is taken as this one
pub taken_alike : (p : Program) (e : Event) (a b : Attempt) (s t : Contents) (c : Effect) → Ends (frame_in p) s a b → Takes p e b s c t
    → Takes p e a s c t
taken_alike p e a b s t c ends h = record {
  report = h.report;
  steps = same_end_same_step (frame_in p) a b s t h.report ends h.steps;
  ordinal = h.ordinal;
  kind = h.kind;
  printed = h.printed;
  operation = h.operation;
  writes = h.writes;
  reads = h.reads;
  back = h.back;
  fits = h.fits;
  stand = h.stand;
  within = h.within;
}

module _ (p : Program) (e : Event) (number : ℕ) (o : Objects) (acting : Acting p e number o) where
  -- what is true of the goroutine that acts
  pub of_actor : (P : CodeGoroutine → Type 0) → P acting.goroutine → OfGoroutine e (contents_in o) P
  of_actor P is h there = subst P (some_is (sym acting.there ∙ there)) is

  abbrev pub s : Contents
  s = contents_in o

  abbrev pub g : CodeGoroutine
  g = acting.goroutine

  pub here : ActsHere p s e g
  here = acts_here p e number o acting

  abbrev pub a : Actor
  a = actor_of (frame_in p) p e g here.f here.below

  -- what is true of it as the rules see it at its next step
  abbrev head_of : CodeFrame → List CodeFrame → CodeFrame
  head_of f fs = elim fs [ [] ↦ f | first ∷ others ↦ first ]

  pub of_actor_now : (P : Actor → Type 0) → P a → OfActor p e s P
  unfolding here
  of_actor_now P is h f below there frames =
      let same : g ≡ h = some_is (sym acting.there ∙ there) in
      let fs : here.f ∷ here.below ≡ f ∷ below = sym here.acts.up.frames ∙ ap (λ (x : CodeGoroutine). x.frames) same ∙ frames in
      subst P (λ j. actor_of (frame_in p) p e (same j) (head_of f (fs j)) (drop 1 (fs j))) is

  -- a communication that proceeds or cannot, which is the step of the event where it is refused as no choice if it cannot
  module _ (trial : Trial) (step : OfActor p e s (λ a. Ends (frame_in p) s (attempt p e) (trial a (refuse no_such_choice)))) where
    step_here : Ends (frame_in p) s (attempt p e) (trial a (refuse no_such_choice))
    step_here = step g here.f here.below acting.there here.acts.up.frames

    pub trial_sound : TrialIsSound p e s trial
    trial_sound h f below there frames = (refuse no_such_choice, λ q. never_unsound p s acting.running e (step h f below there frames ∙ q))

    pub trial_chosen : (change : Option Effect) (t : Contents) → Tried p e trial s change t → Chosen p e s change t
    trial_chosen None t tried = (tried.0, step_here ∙ tried.1 g here.f here.below acting.there here.acts.up.frames (refuse no_such_choice))
    trial_chosen (Some c) t tried =
        taken_alike p e (attempt p e) (trial a (refuse no_such_choice)) s t c step_here
        (tried g here.f here.below acting.there here.acts.up.frames (refuse no_such_choice))

  -- an attempt that asks nothing of the goroutine
  pub refused_here : (b : Attempt) → OfActor p e s (λ a. Ends (frame_in p) s (attempt p e) b) → Ends (frame_in p) s (attempt p e) b
  refused_here b step = step g here.f here.below acting.there here.acts.up.frames

  -- no value at fault is sent
  pub no_fault_sent : (i : ℕ) (c : ChName) (value : Result Value Fault) → ((v : Value) → value ≡ Ok v → ⊥)
      → OfActor p e s (λ a. Ends (frame_in p) s (attempt p e) (communicate a (Some i) (Sending (Some c) (outcome_of value)) (refuse no_such_choice)))
      → ⊥
  no_fault_sent i c (Ok v) other step = other v refl
  no_fault_sent i c (Err fault) other step = never_unsound p s acting.running e (step g here.f here.below acting.there here.acts.up.frames)

  -- a fault of a value, where the clauses that the choice looks at are these
  pub value_fault_takes : (ws : List Communication) (fault : Fault) (read : List Object) (c : Effect) (t : Contents)
      → looked_at e.choice (clauses_in (map (frame_in p) g.frames)) ≡ ws → IsFaultOf p e s g fault
      → read ≡ each_once [] (flat_map (side (state_in p s)) ws) → Stops e.go fault None read s g c t → Takes p e (attempt p e) s c t
  value_fault_takes ws fault read c t looked steps are is =
      let rows : FaultRow p e s g fault None (flat_map (side (state_in p s)) ws) =
      ap (λ o. row (state_in p s) e (code_report g None (kinds.Fault fault)) (option_map (goroutine_of (frame_in p)) o) None) acting.there
      ∙ ap (λ (cs : List Communication). touches (flat_map (side (state_in p s)) cs) (objects.Run ∷ [])) looked in
      fault_takes p e number o acting (attempt p e) fault None read (flat_map (side (state_in p s)) ws) c t is steps rows
      (are ∙ once_in_fault (state_in p s) ws e.go)

  module _ (ws : List Communication) (task : task_of (lowered p) g ≡ gives (Wants (Chooses ws))) where
    chosen : (choice : Choice) → e.choice ≡ choice → Ends (frame_in p) s (attempt p e) (choose a ws choice)
    chosen choice is =
        attempt_is_of_the_task (meaning p) p (lowered p) s e g here.f here.below (gives (Wants (Chooses ws))) here.acts task
        ∙ ap (λ (c : Choice). leaf (state_in p s) (act_by a c (gives (Chooses ws)))) is ∙ ap (leaf (state_in p s)) (choosing a ws choice)

    sound : (choice : Choice) → e.choice ≡ choice → Sound (frame_in p) s (choose a ws choice)
    sound choice is q = never_unsound p s acting.running e (chosen choice is ∙ q)

    fault_step : (choice : Choice) (fault : Fault) → e.choice ≡ choice
        → StepsTo (frame_in p) (choose a ws choice) s (record (with_goroutine s e.go (Some (faulted g))) { run = run_faulted fault })
        (code_report g None (kinds.Fault fault))
        → IsFaultOf p e s g fault
    fault_step choice fault is step = same_end_same_step (frame_in p) (attempt p e) (choose a ws choice) s _ _ (chosen choice is) step

    -- the clauses, as the state tells them
    pub clauses_are : clauses_in (map (frame_in p) g.frames) ≡ ws
    clauses_are =
        ap (λ (fs : List CodeFrame). clauses_in (map (frame_in p) fs)) here.acts.up.frames
        ∙ ap clauses_by (deed_is (meaning p) p (lowered p) g here.f here.below here.acts.fits here.acts.up.frames here.acts.stand
        ∙ ap (deed_meant (meaning p) (lowered p)) task)

    pub plain_is_none : e.choice ≡ Plain → Refuses (attempt p e) (state_in p s) no_such_choice
    plain_is_none is = chosen Plain is

    -- a clause is picked
    module _ (i : ℕ) (pick : e.choice ≡ Pick i) where
      pub pick_of_none : clause_at ws i ≡ None → Refuses (attempt p e) (state_in p s) no_such_choice
      pick_of_none none = chosen (Pick i) pick ∙ picking_of_none (frame_in p) s a ws i none

      module _ (w : Communication) (clause : clause_at ws i ≡ Some w) where
        pub pick_communicates : (vs : List Value) → values_of ws ≡ gives vs
            → Ends (frame_in p) s (attempt p e) (communicate a (Some i) w (refuse no_such_choice))
        pick_communicates vs values = chosen (Pick i) pick ∙ picking_communicates (frame_in p) s a ws i vs w values clause

        pub pick_faults : (fault : Fault) → values_of ws ≡ faults fault → can_proceed s w ≡ true → IsFaultOf p e s g fault
        pick_faults fault values can = fault_step (Pick i) fault pick
            (picking_faults (frame_in p) s a ws i w fault (faulted g) (are_channels o) (sound (Pick i) pick) values clause can refl)

        pub pick_cannot : (fault : Fault) → values_of ws ≡ faults fault → can_proceed s w ≡ false
            → Refuses (attempt p e) (state_in p s) no_such_choice
        pick_cannot fault values cannot = chosen (Pick i) pick
            ∙ picking_cannot (frame_in p) s a ws i w fault (are_channels o) (sound (Pick i) pick) values clause cannot

        pub pick_looks : looked_at e.choice (clauses_in (map (frame_in p) g.frames)) ≡ w ∷ []
        pick_looks =
            ap (λ (c : Choice). looked_at c (clauses_in (map (frame_in p) g.frames))) pick
            ∙ ap (λ (cs : List Communication). looked_at (Pick i) cs) clauses_are
            ∙ ap (λ (o : Option Communication). elim o [ Some c ↦ c ∷ [] | None ↦ [] ]) clause

        counted_from_one : (i : ℕ) → clause_at ws i ≡ Some w → 0 < i
        counted_from_one zero there = absurd (let never : None ≡ Some w = there in cc)
        counted_from_one (suc i) there = omega arith

        pub pick_has_clause : IsClause (Some i) × HasClauseHere (lowered p) g.frames (Some i)
        pick_has_clause =
            let above = counted_from_one i clause in (
              above,
              select_has_clauses (meaning p) p (lowered p) e g here.f here.below ws i
                  (is_in (meaning p) p (lowered p) s e g here.f here.below here.acts) task above,
            )

    -- the default clause
    module _ (pick : e.choice ≡ Default) where
      pub no_default : default_from 1 ws ≡ None → Refuses (attempt p e) (state_in p s) no_such_choice
      no_default none = chosen Default pick ∙ default_is_none (frame_in p) s a ws none

      pub default_looks : looked_at e.choice (clauses_in (map (frame_in p) g.frames)) ≡ ws
      default_looks = ap (λ (c : Choice). looked_at c (clauses_in (map (frame_in p) g.frames))) pick ∙ clauses_are

      module _ (i : ℕ) (there : default_from 1 ws ≡ Some i) where
        pub default_late : list_any (can_proceed s) ws ≡ true → Refuses (attempt p e) (state_in p s) no_such_choice
        default_late some = chosen Default pick ∙ default_is_late (frame_in p) s a ws i (are_channels o) (sound Default pick) there some

        module _ (none : list_any (can_proceed s) ws ≡ false) where
          pub default_made : list_all (is_made_for s) ws ≡ true
          default_made = none_ready_is_made (frame_in p) s ws _ (are_channels o)
              (λ q. sound Default pick (ap (λ o. leaf (state_in p s) (default a ws o)) there ∙ q)) none

          pub default_at_fault : (fault : Fault) → values_of ws ≡ faults fault → IsFaultOf p e s g fault
          default_at_fault fault values = fault_step Default fault pick
              (default_faults (frame_in p) s a ws i fault (faulted g) (are_channels o) (sound Default pick) there none values refl)

          module _ (vs : List Value) (values : values_of ws ≡ gives vs) where
            pub default_arrives : At (CanArrive (lowered p) (Passes (Some i) None)) (seen_at o.goroutines number)
            default_arrives =
                let above = default_above 1 i ws there in
                let in_code = is_in (meaning p) p (lowered p) s e g here.f here.below here.acts in
                can_arrive p e number o acting (Passes (Some i) None)
                (passing_can_arrive (meaning p) p (lowered p) e g here.f here.below (Some i) None in_code
                (select_has_clauses (meaning p) p (lowered p) e g here.f here.below ws i in_code task (omega (arith, above)))
                ((default_has_values (frame_in p) s a ws i (are_channels o) (sound Default pick) there none).1 vs values))
                (acting.counted.steps e.go g acting.there)

            module _ (read : List Object) (c : Effect) (new : Objects) (kind : c.kind ≡ kinds.Default) (beyond : ReachesBeyond None read [] false c)
                (changes : ChangesObjects (ChangesBy number (Arrives (lowered p) (Passes (Some i) None) c.own)) o.run o new) where
              on : Arrived p e.go (Passes (Some i) None) g c.own o.goroutines new.goroutines
              on = arrived_here p e number o acting (Passes (Some i) None) c.own new.goroutines changes.goroutines

              tells : Told None read [] false e.go c
              tells = told None read [] false e.go c beyond on.none

              steps : StepsTo (frame_in p) (attempt p e) s (with_goroutine s e.go (Some on.after)) (code_report g None kinds.Default)
              steps =
                  let above = default_above 1 i ws there in
                  let x = passing_arrives (meaning p) p (lowered p) e g here.f here.below (Some i) None on.after
                  (is_in (meaning p) p (lowered p) s e g here.f here.below here.acts) above on.is in
                  same_end_same_step (frame_in p) (attempt p e) (choose a ws Default) s _ _ (chosen Default pick)
                  (default_is_taken (frame_in p) s a ws i vs x.on on.after (are_channels o) (sound Default pick) there none values x.is x.after)

              rows : row (state_in p s) e (code_report g None kinds.Default) ((state_in p s).goroutines e.go) None
                  ≡ touches (flat_map (side (state_in p s)) ws) []
              rows =
                  ap (λ o. row (state_in p s) e (code_report g None kinds.Default) (option_map (goroutine_of (frame_in p)) o) None) acting.there
                  ∙ ap (λ (cs : List Communication). touches (flat_map (side (state_in p s)) cs) []) clauses_are

              pub default_takes : read ≡ each_once [] (flat_map (side (state_in p s)) ws) → Takes p e (attempt p e) s c (contents_in new)
              default_takes are =
                  own_takes p e (attempt p e) s (contents_in new) g on.after c s.run (code_report g None kinds.Default) acting.there on.own.back
                  on.own.fits tells.own (ap (λ b. if b then live else s.run) tells.stops) steps
                  (record {
                    ordinal = ap (λ n. n + 1) (sym (count_is p s e.go g acting.there));
                    kind = kind;
                    printed = on.silent;
                    operation = tells.operation;
                    writes = tells.writes ∙ ap (λ (r : Touches). objects.Go e.go ∷ r.writes) (sym rows);
                    reads = tells.reads ∙ ap (λ os. objects.Run ∷ os) (are ∙ once_in_default (state_in p s) ws e.go)
                        ∙ ap (λ (r : Touches). each_once (objects.Go e.go ∷ r.writes) (objects.Run ∷ r.reads)) (sym rows);
                  })
                  acting.running.stand (are_channels o) on.stand
                  (λ j. record { run = run_of (changes.runs j); goroutines = on.own.is j; channels = contents_of (changes.channels j) })

              pub default_room : HasRoom e.go c new
              default_room = own_room e.go c new (rw on.none (omega arith)) tells.own.channels

    -- it waits
    module _ (pick : e.choice ≡ Park) where
      pub has_default : (i : ℕ) → default_from 1 ws ≡ Some i → Refuses (attempt p e) (state_in p s) no_such_choice
      has_default i there = chosen Park pick ∙ parking_has_default (frame_in p) s a ws i there

      pub park_looks : looked_at e.choice (clauses_in (map (frame_in p) g.frames)) ≡ ws
      park_looks = ap (λ (c : Choice). looked_at c (clauses_in (map (frame_in p) g.frames))) pick ∙ clauses_are

      module _ (there : default_from 1 ws ≡ None) where
        pub park_late : list_any (can_proceed s) ws ≡ true → Refuses (attempt p e) (state_in p s) no_such_choice
        park_late some = chosen Park pick ∙ parking_is_late (frame_in p) s a ws (are_channels o) (sound Park pick) there some

        module _ (none : list_any (can_proceed s) ws ≡ false) where
          pub park_made : list_all (is_made_for s) ws ≡ true
          park_made = none_ready_is_made (frame_in p) s ws _ (are_channels o)
              (λ q. sound Park pick (ap (λ o. leaf (state_in p s) (park a ws o)) there ∙ q)) none

          pub park_at_fault : (fault : Fault) → values_of ws ≡ faults fault → IsFaultOf p e s g fault
          park_at_fault fault values = fault_step Park fault pick
              (parking_faults (frame_in p) s a ws fault (faulted g) (are_channels o) (sound Park pick) there none values refl)

          pub park_waits : (vs : List Value) → values_of ws ≡ gives vs
              → Ends (frame_in p) s (attempt p e) (wait a None kinds.SelectWait (numbered 1 ws))
          park_waits vs values = chosen Park pick ∙ parking_waits (frame_in p) s a ws vs (are_channels o) (sound Park pick) there none values
