-- A fault stops the program: its step, from the change that tells of it.
use Rattle.std.proofs.Common.{◌≡◌, ◌+◌, ℕ, true, false, if◌then◌else◌, List, [], ◌∷◌, Option, None, refl, sym, ap, subst, ◌∙◌}
use Rattle.std.specs.Prelude.{option_map, map}
use Rattle.std.specs.List.{flat_map}
use Rattle.gr_base.specs.declared.events.Choice.{Choice}
use Rattle.gr_base.specs.declared.events.Choice.TheVariants.{Plain}
use Rattle.gr_base.specs.declared.events.Event.{Event}
use Rattle.gr_base.specs.declared.kinds.Fault.{Fault}
use Rattle.gr_base.specs.declared.kinds.Kind.TheVariants as kinds
use Rattle.gr_base.specs.declared.objects.Object.{Object}
use Rattle.gr_base.specs.declared.objects.Object.TheVariants as objects
use Rattle.gr_program.specs.Programs.{Program}
use Rattle.gr_rules.specs.Outcomes.{Outcome, gives, faults, wrong}
use Rattle.gr_rules.specs.Deeds.{Moves, Prints, Enters, Leaves, Starts, Makes, TakesLen, TakesCap, Closes, Communicates, Chooses, Communication}
use Rattle.gr_rules.specs.Attempts.{Attempt}
use Rattle.gr_rules.specs.Attempts as rules
use Rattle.gr_rules.specs.States.{live, faulted as run_faulted}
use Rattle.gr_rules.specs.Steps.{attempt, act_by}
use Rattle.gr_rules.specs.Touches.{Touches, touches, row, side, looked_at, clauses_in, clauses_by}
use Rattle.gr_laws.specs.Touched.{each_once}
use Rattle.gr_code.specs.CodeFrames.{CodeFrame, Task, Steps, Wants}
use Rattle.gr_code.specs.Goroutines.{CodeGoroutine, faulted, task_of}
use Rattle.gr_code.specs.Programs.{deed_meant}
use Rattle.gr_refine.specs.Contents.{Contents, goroutine_of}
use Rattle.gr_refine.specs.CodeFaults.{FaultsAt}
use Rattle.gr_refine.specs.CodeSteps.{code_report}
use Rattle.gr_refine.specs.Looks.{actor_of}
use Rattle.gr_refine.specs.Performing.{StepsTo}
use Rattle.gr_refine.specs.Tasks.{Acts, chooses}
use Rattle.gr_refine.proofs.TaskLemmas.{deed_is, task_is_a_step}
use Rattle.gr_refine.proofs.GoingLemmas.{evaluating_faults}
use Rattle.gr_lower.specs.Lowered.{lowered, meaning}
use Rattle.gr_step.specs.declared.objects.Objects.{Objects}
use Rattle.gr_record.specs.declared.record.Operation.{Operation}
use Rattle.gr_record.specs.Effects.{Effect}
use Rattle.gr_step.specs.Beyonds.{Stops}
use Rattle.gr_record.specs.Listings.{frame_in, state_in}
use Rattle.gr_step.specs.Objects.{contents_in}
use Rattle.gr_step.specs.Premises.{Acting}
use Rattle.gr_record.specs.Records.{operation_of}
use Rattle.gr_record.specs.Taking.{Takes}
use Rattle.gr_step.proofs.NeedNoFrameLemmas.{need_none}
use Rattle.gr_step.proofs.ChoiceLemmas.{are_channels}
use Rattle.gr_step.proofs.OwnTakesLemmas.{after_own, own_takes, count_is}
use Rattle.gr_step.proofs.PrintLemmas.{not_printed}
use Rattle.gr_step.proofs.RunningLemmas.{acts_here}
use Rattle.gr_step.proofs.ReachesLemmas.{told}

-- the row of a fault
abbrev pub FaultRow : Program → Event → Contents → CodeGoroutine → Fault → Option rules.Operation → List Object → Type 0
FaultRow p e s g fault did reads =
    row (state_in p s) e (code_report g did (kinds.Fault fault)) ((state_in p s).goroutines e.go) did ≡ touches reads (objects.Run ∷ [])

-- where the rules have the fault, and the table these reads, the fault is taken
pub fault_takes : (p : Program) (e : Event) (number : ℕ) (o : Objects) (acting : Acting p e number o) (tries : Attempt) (fault : Fault)
    (did : Option Operation) (read reads : List Object) (c : Effect) (t : Contents) → Stops e.go fault did read (contents_in o) acting.goroutine c t
    → StepsTo (frame_in p) tries (contents_in o) (after_own (contents_in o) e.go (faulted acting.goroutine) (run_faulted fault))
    (code_report acting.goroutine (option_map operation_of did) (kinds.Fault fault))
    → FaultRow p e (contents_in o) acting.goroutine fault (option_map operation_of did) reads
    → read ≡ each_once (objects.Go e.go ∷ objects.Run ∷ []) reads
    → Takes p e tries (contents_in o) c t
fault_takes p e number o acting tries fault did read reads c t is steps rows once =
    let s = contents_in o in
    let g = acting.goroutine in
    let none = need_none g (faulted g) c.own is.back refl in
    let tells = told did read (objects.Run ∷ []) true e.go c is.beyond none in
    own_takes p e tries s t g (faulted g) c (run_faulted fault) (code_report g (option_map operation_of did) (kinds.Fault fault)) acting.there
    is.back is.fits
    tells.own
    (ap (λ b. if b then live else run_faulted fault) tells.stops ∙ sym acting.runs)
    steps
    (record {
      ordinal = ap (λ n. n + 1) (sym (count_is p s e.go g acting.there));
      kind = is.kind;
      printed = not_printed g (faulted g) c.own is.back is.fits refl;
      operation = tells.operation;
      writes = tells.writes ∙ ap (λ (r : Touches). objects.Go e.go ∷ r.writes) (sym rows);
      reads = tells.reads ∙ once ∙ ap (λ (r : Touches). each_once (objects.Go e.go ∷ r.writes) (objects.Run ∷ r.reads)) (sym rows);
    })
    acting.running.stand (are_channels o) (acting.running.stand e.go g acting.there) is.after

-- a task that leaves no choice is at no select
none_by : (p : Program) (o : Outcome Task) → chooses o ≡ false → clauses_by (deed_meant (meaning p) (lowered p) o) ≡ []
none_by p (gives (Steps on)) none = refl
none_by p (gives (Wants (Moves on))) none = refl
none_by p (gives (Wants (Prints line))) none = refl
none_by p (gives (Wants (Enters function vs))) none = refl
none_by p (gives (Wants (Leaves v))) none = refl
none_by p (gives (Wants (Starts function vs))) none = refl
none_by p (gives (Wants (Makes n))) none = refl
none_by p (gives (Wants (TakesLen c))) none = refl
none_by p (gives (Wants (TakesCap c))) none = refl
none_by p (gives (Wants (Closes c))) none = refl
none_by p (gives (Wants (Communicates c))) none = refl
none_by p (gives (Wants (Chooses cs))) none = absurd (let no : true ≡ false = none in cc)
none_by p (faults x) none = refl
none_by p wrong none = refl

module _ (p : Program) (s : Contents) (e : Event) (g : CodeGoroutine) (f : CodeFrame) (below : List CodeFrame)
    (acts : Acts (meaning p) p (lowered p) s e g f below) (none : chooses (task_of (lowered p) g) ≡ false) where
  pub no_clauses : clauses_in (map (frame_in p) g.frames) ≡ []
  no_clauses =
      ap (λ fs. clauses_in (map (frame_in p) fs)) acts.up.frames
      ∙ ap clauses_by (deed_is (meaning p) p (lowered p) g f below acts.fits acts.up.frames acts.stand)
      ∙ none_by p (task_of (lowered p) g) none

  -- a fault of no operation reads nothing
  pub plain_fault_row : (fault : Fault) → e.choice ≡ Plain → FaultRow p e s g fault None []
  plain_fault_row fault plain =
      ap (λ o. row (state_in p s) e (code_report g None (kinds.Fault fault)) (option_map (goroutine_of (frame_in p)) o) None) acts.up.there
      ∙ ap (λ (cs : List Communication). touches (flat_map (side (state_in p s)) (looked_at e.choice cs)) (objects.Run ∷ [])) no_clauses
      ∙ ap (λ (x : Choice). touches (flat_map (side (state_in p s)) (looked_at x [])) (objects.Run ∷ [])) plain

-- operands that are at fault
pub operands_fault : (p : Program) (e : Event) (number : ℕ) (o : Objects) (acting : Acting p e number o) (fault : Fault) (c : Effect) (t : Contents)
    → e.choice ≡ Plain → task_of (lowered p) acting.goroutine ≡ faults fault → Stops e.go fault None [] (contents_in o) acting.goroutine c t
    → Takes p e (attempt p e) (contents_in o) c t
operands_fault p e number o acting fault c t plain task is =
    let here = acts_here p e number o acting in
    let s = contents_in o in
    let g = acting.goroutine in
    let a = actor_of (frame_in p) p e g here.f here.below in
    fault_takes p e number o acting (attempt p e) fault None [] [] c t is
    (task_is_a_step (meaning p) p (lowered p) s e g here.f here.below (faults fault) (after_own s e.go (faulted g) (run_faulted fault))
    (code_report g None (kinds.Fault fault)) here.acts task
    (subst {_, _} (λ (x : Choice). StepsTo (frame_in p) (act_by a x (faults fault)) s (after_own s e.go (faulted g) (run_faulted fault))
    (code_report g None (kinds.Fault fault))) (sym plain) (evaluating_faults (frame_in p) s a fault (faulted g) refl)))
    (plain_fault_row p s e g here.f here.below here.acts (ap chooses task) fault plain) refl

-- a fault beyond the operands, that did nothing with a channel
pub task_faults : (p : Program) (e : Event) (number : ℕ) (o : Objects) (acting : Acting p e number o) (fault : Fault) (c : Effect) (t : Contents)
    → e.choice ≡ Plain → chooses (task_of (lowered p) acting.goroutine) ≡ false
    → FaultsAt (meaning p) p (lowered p) (contents_in o) e acting.goroutine (acts_here p e number o acting).f (acts_here p e number o acting).below
    None fault
    → Stops e.go fault None [] (contents_in o) acting.goroutine c t → Takes p e (attempt p e) (contents_in o) c t
task_faults p e number o acting fault c t plain none steps is =
    let here = acts_here p e number o acting in
    fault_takes p e number o acting (attempt p e) fault None [] [] c t is steps
    (plain_fault_row p (contents_in o) e acting.goroutine here.f here.below here.acts none fault plain) refl
