-- A local step is taken, by its goroutine before and after it.
use Rattle.std.proofs.Common.{◌≡◌, ◌≤◌, ◌<◌, ◌+◌, ◌^◌, ℕ, true, List, [], ◌∷◌, Option, Some, None, refl, sym, ap, subst, ◌∙◌, arith}
use Rattle.std.specs.Prelude.{is_some}
use Rattle.gr_base.specs.declared.events.Choice.TheVariants.{Plain}
use Rattle.gr_base.specs.declared.events.Event.{Event}
use Rattle.gr_base.specs.declared.kinds.Fault.{Fault}
use Rattle.gr_base.specs.declared.kinds.Kind.{Kind}
use Rattle.gr_base.specs.declared.kinds.Kind.TheVariants as kinds
use Rattle.gr_base.specs.declared.objects.Object.TheVariants as objects
use Rattle.gr_program.specs.Programs.{Program}
use Rattle.gr_rules.specs.Outcomes.{gives, wrong}
use Rattle.gr_rules.specs.States.{faulted as run_faulted}
use Rattle.gr_rules.specs.Steps.{attempt}
use Rattle.gr_code.specs.CodeFrames.{ProgramCode}
use Rattle.gr_code.specs.Goroutines.{CodeGoroutine, faulted, is_local, local, task_of}
use Rattle.gr_goros.specs.Kinds.{kind_of}
use Rattle.gr_goros.specs.Tasks.{IsStep}
use Rattle.gr_goros.specs.Undoing.{undone, Fits, need}
use Rattle.gr_goros.specs.declared.kinds.LocalKind.{LocalKind}
use Rattle.gr_goros.specs.declared.kinds.LocalKind.TheVariants as locals
use Rattle.gr_goros.specs.declared.undo.GoUndo.{GoUndo}
use Rattle.gr_tables.specs.NamedChannels.{contents_of}
use Rattle.gr_tables.specs.NamedGoroutines.{At, ChangesBy, StepsAlone, TakenBack, seen_at}
use Rattle.gr_tables.specs.declared.goroutines.Goroutines.{Goroutines}
use Rattle.gr_refine.specs.Contents.{goroutine_of}
use Rattle.gr_refine.specs.Local.{after_local, local_report, printed_by}
use Rattle.gr_refine.specs.Performing.{StepsTo}
use Rattle.gr_refine.proofs.LocalLemmas.{local_step_is_a_step}
use Rattle.gr_refine.proofs.WithinLemmas.{local_step_is_there, local_stays_within}
use Rattle.gr_refine.proofs.StandingLemmas.{local_step_keeps_standing}
use Rattle.gr_lower.specs.Lowered.{lowered, meaning}
use Rattle.gr_step.specs.Beyonds.{ChangesObjects, HasStopped, Stops}
use Rattle.gr_step.specs.declared.objects.Objects.{Objects}
use Rattle.gr_record.specs.Effects.{Effect}
use Rattle.gr_record.specs.Listings.{frame_in, state_in}
use Rattle.gr_step.specs.Objects.{contents_in, run_of}
use Rattle.gr_step.specs.Premises.{Acting}
use Rattle.gr_goros.specs.Before.{is_printed}
use Rattle.gr_step.specs.Room.{HasRoom}
use Rattle.gr_record.specs.Taking.{Takes}
use Rattle.gr_step.proofs.AloneStepLemmas.{alone_takes}
use Rattle.gr_step.proofs.ChoiceLemmas.{are_channels}
use Rattle.gr_step.proofs.FaultLemmas.{fault_takes, plain_fault_row}
use Rattle.gr_step.proofs.NeedNoFrameLemmas.{need_none}
use Rattle.gr_step.proofs.LocalStepLemmas.{TextIs, LocallyIs, locally_is, plain_kind}
use Rattle.gr_step.proofs.OwnTakesLemmas.{after_own}
use Rattle.gr_step.proofs.PlaceLemmas.{Placed, placed_at, placed_back, was_content, at_number, own_room, can_undo, has_room, named_after}
use Rattle.gr_step.proofs.PrintLemmas.{not_printed, printed}
use Rattle.gr_step.proofs.ReachesLemmas.{told}
use Rattle.gr_step.proofs.RunningLemmas.{acts_here, never_unsound, code_fits}

-- the step of the goroutine of this name
pub record Stepped (code : ProgramCode) (n : List ℕ) (g : CodeGoroutine) (kind : LocalKind) (u : GoUndo) (old new : Goroutines) : Type 0 where
  pub after : CodeGoroutine
  pub is : local code g ≡ gives (kind_of kind, after)
  pub own : Placed n g after u old new

-- a kind that is no fault is none among all kinds
pub still_no_fault : (k : LocalKind) → ((f : Fault) → k ≡ locals.Fault f → ⊥) → (f : Fault) → kind_of k ≡ kinds.Fault f → ⊥
still_no_fault locals.Pure other f is = let no : kinds.Pure ≡ kinds.Fault f = is in cc
still_no_fault locals.Call other f is = let no : kinds.Call ≡ kinds.Fault f = is in cc
still_no_fault locals.Return other f is = let no : kinds.Return ≡ kinds.Fault f = is in cc
still_no_fault locals.Length other f is = let no : kinds.Length ≡ kinds.Fault f = is in cc
still_no_fault (locals.Fault fault) other f is = other fault refl

-- a line is printed where the text has it
pub printed_as : (g after : CodeGoroutine) (u : GoUndo) (line : Option (List ℕ)) → undone u after ≡ g → Fits u after → TextIs g after line
    → is_printed u ≡ is_some line
printed_as g after u None back fits text = not_printed g after u back fits text
printed_as g after u (Some line) back fits text = printed g after u line back text

module _ (p : Program) (e : Event) (number : ℕ) (o : Objects) (acting : Acting p e number o) where
  module _ (plain : e.choice ≡ Plain) (here : is_local (lowered p) acting.goroutine ≡ true) where
    -- the goroutine has such a step
    pub steps_alone : At (StepsAlone (lowered p)) (seen_at o.goroutines number)
    steps_alone =
        let g = acting.goroutine in
        let up = acts_here p e number o acting in
        let within = local_stays_within (lowered p) g up.f up.below up.acts.up.frames here in
        at_number p e number o acting (λ g. (¬ (local (lowered p) g ≡ wrong)) × (is_local (lowered p) g ≡ true) × (g.steps + 1 < 2 ^ 64)) (
          local_step_is_there (meaning p) p (lowered p) (contents_in o) e g up.f up.below up.acts plain
              (never_unsound p (contents_in o) acting.running e) within,
          here,
          acting.counted.steps e.go g acting.there,
        )

  module _ (kind : LocalKind) (u : GoUndo) (new : Goroutines)
      (change : ChangesBy number (λ a b. IsStep (kind, u) (local (lowered p) a.content) a b) o.goroutines new) where
    pub stepped : Stepped (lowered p) e.go acting.goroutine kind u o.goroutines new
    stepped = record {
      after = change.1.content;
      is = ap (local (lowered p))
          (sym (was_content number e.go o.goroutines new acting.named acting.goroutine acting.there change.0 change.1 change.2))
          ∙ change.3.is;
      own = placed_at number e.go o.goroutines new acting.named acting.goroutine acting.there change.0 change.1 change.1.content u change.2 refl
          change.3.undone;
    }

    -- it can be taken back directly after it
    pub step_fits : At (λ x. Fits u x.content) (seen_at new number)
    step_fits = can_undo number e.go o.goroutines new acting.named acting.goroutine acting.there change.0 change.1 u change.2 change.3.undone

    pub step_room : At (λ x. need u ≤ x.room) (seen_at new number)
    step_room = has_room number e.go o.goroutines new acting.named acting.goroutine acting.there change.0 change.1 u change.2 change.3.undone

    pub step_taken_back : (last : Objects) → ChangesObjects (ChangesBy number (TakenBack u)) o.run (record o { goroutines = new }) last
        → contents_in last ≡ contents_in o
    step_taken_back last back =
        let named = named_after number e.go o.goroutines new acting.named acting.goroutine acting.there change.0 change.1 change.2 in
        let own = placed_back number e.go acting.goroutine stepped.after u o.goroutines new last.goroutines named acting.there stepped.own
        back.goroutines in
        λ j. record { run = run_of (back.runs j); goroutines = own j; channels = contents_of (back.channels j) }

    module _ (plain : e.choice ≡ Plain) where
      by_rules : StepsTo (frame_in p) (attempt p e) (contents_in o) (after_local (contents_in o) e.go (kind_of kind) stepped.after)
          (local_report (kind_of kind) acting.goroutine (printed_by (task_of (lowered p) acting.goroutine)))
      by_rules =
          let up = acts_here p e number o acting in
          local_step_is_a_step (meaning p) p (lowered p) (contents_in o) e acting.goroutine up.f up.below stepped.after (kind_of kind) up.acts plain stepped.is

      -- one that is no fault
      pub local_takes : ((f : Fault) → kind ≡ locals.Fault f → ⊥)
          → Takes p e (attempt p e) (contents_in o) (record { kind = kind_of kind; own = u; beyond = None }) (contents_in (record o { goroutines = new }))
      local_takes other =
          let s = contents_in o in
          let g = acting.goroutine in
          let up = acts_here p e number o acting in
          let line = printed_by (task_of (lowered p) g) in
          let what = locally_is (meaning p) p (lowered p) s e g up.f up.below (kind_of kind) stepped.after up.acts stepped.is in
          let kinds_are = plain_kind g stepped.after line (kind_of kind) (still_no_fault kind other) what.kind_is in
          alone_takes p e (contents_in o) acting.goroutine acting.there acting.running.stand (are_channels o) (attempt p e) stepped.after (kind_of kind) u line (contents_in (record o { goroutines = new })) stepped.own.back
          stepped.own.fits
          (λ j. record { run = run_of o.run; goroutines = stepped.own.is j; channels = contents_of o.channels })
          (local_step_keeps_standing (meaning p) (lowered p) p g stepped.after (kind_of kind) (code_fits p s acting.running)
          (acting.running.stand e.go g acting.there) stepped.is)
          (subst {_, _} (λ t. StepsTo (frame_in p) (attempt p e) s t (local_report (kind_of kind) g line)) (kinds_are.1 s e.go) by_rules)
          (printed_as g stepped.after u line stepped.own.back stepped.own.fits what.text)
          (kinds_are.0 (state_in p s) e (goroutine_of (frame_in p) g))

      pub local_room : HasRoom e.go (record { kind = kind_of kind; own = u; beyond = None }) (record o { goroutines = new })
      local_room = own_room e.go (record { kind = kind_of kind; own = u; beyond = None }) (record o { goroutines = new }) stepped.own.room refl

      -- a fault
      module _ (fault : Fault) (is : kind ≡ locals.Fault fault) (c : Effect) (last : Objects)
          (stop : HasStopped fault u c (record o { goroutines = new }) last) where
        faults_as : LocallyIs acting.goroutine (task_of (lowered p) acting.goroutine) (kinds.Fault fault) stepped.after
        faults_as =
            let up = acts_here p e number o acting in
            subst {_, _} (λ (k : Kind). LocallyIs acting.goroutine (task_of (lowered p) acting.goroutine) k stepped.after) (ap kind_of is)
            (locally_is (meaning p) p (lowered p) (contents_in o) e acting.goroutine up.f up.below (kind_of kind) stepped.after up.acts stepped.is)

        stops : Stops e.go fault None [] (contents_in o) acting.goroutine c (contents_in last)
        stops =
            let g = acting.goroutine in
            let after = faults_as.kind_is.0 in
            let back : undone c.own (faulted g) ≡ g = rw (stop.own, ← after) stepped.own.back in
            let fits : Fits c.own (faulted g) = rw (stop.own, ← after) stepped.own.fits in
            record {
              after = ap contents_in stop.after
                  ∙ (λ j. record { run = run_faulted fault; goroutines = stepped.own.is j; channels = contents_of o.channels })
                  ∙ ap (λ x. after_own (contents_in o) e.go x (run_faulted fault)) after;
              kind = stop.kind;
              beyond = stop.beyond;
              back = back;
              fits = fits;
            }

        pub local_fault_takes : Takes p e (attempt p e) (contents_in o) c (contents_in last)
        local_fault_takes =
            let s = contents_in o in
            let g = acting.goroutine in
            let up = acts_here p e number o acting in
            fault_takes p e number o acting (attempt p e) fault None [] [] c (contents_in last) stops
            (subst {_, _} (λ (line : Option (List ℕ)). StepsTo (frame_in p) (attempt p e) s (after_own s e.go (faulted g) (run_faulted fault))
            (local_report (kinds.Fault fault) g line)) faults_as.kind_is.1
            (subst {_, _} (λ (x : CodeGoroutine). StepsTo (frame_in p) (attempt p e) s (after_own s e.go x (run_faulted fault))
            (local_report (kinds.Fault fault) g (printed_by (task_of (lowered p) g)))) faults_as.kind_is.0
            (subst {_, _} (λ (k : Kind). StepsTo (frame_in p) (attempt p e) s (after_local s e.go k stepped.after)
            (local_report k g (printed_by (task_of (lowered p) g)))) (ap kind_of is) by_rules)))
            (plain_fault_row p s e g up.f up.below up.acts faults_as.no_choice fault plain) refl

        pub local_fault_room : HasRoom e.go c last
        local_fault_room =
            let none = need_none acting.goroutine (faulted acting.goroutine) c.own stops.back refl in
            own_room e.go c last (rw none (omega arith)) (told None [] (objects.Run ∷ []) true e.go c stop.beyond none).own.channels
