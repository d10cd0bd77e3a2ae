-- The steps of goroutines of code that reach no further than themselves are steps of the rules.
use Rattle.std.proofs.Common.{◌≡◌, ℕ, Bool, true, false, if◌then◌else◌, List, [], ◌∷◌, map, length, ◌++◌, nat_le, Some, None, refl, sym, ap, subst, ◌∙◌, arith}
use Rattle.gr_base.specs.declared.values.Value.{Value}
use Rattle.gr_base.specs.declared.kinds.Kind.{Kind}
use Rattle.gr_base.specs.declared.kinds.Kind.TheVariants as kinds
use Rattle.gr_base.specs.declared.kinds.Fault.TheVariants.{CallDepth}
use Rattle.gr_base.specs.declared.events.Choice.TheVariants.{Plain}
use Rattle.gr_base.specs.declared.events.Event.{Event}
use Rattle.gr_program.specs.Programs.{Program}
use Rattle.gr_rules.specs.Outcomes.{Outcome, gives, faults, wrong, ◌>>=◌}
use Rattle.gr_rules.specs.Frames.{Frame, goes_on}
use Rattle.gr_rules.specs.Deeds.{Moves, Prints, Enters, Leaves, Starts, Makes, TakesLen, TakesCap, Closes, Communicates, Chooses}
use Rattle.gr_rules.specs.Limits.{most_frames}
use Rattle.gr_rules.specs.States.{faulted as rules_faulted}
use Rattle.gr_rules.specs.Actors.{Actor, onward as rules_onward, with_frames as rules_with_frames}
use Rattle.gr_rules.specs.Steps as rules
use Rattle.gr_rules.specs.Steps.{act_by, attempt}
use Rattle.gr_code.specs.Instructions.{Instruction}
use Rattle.gr_code.specs.Code.{Meanings, IfGiven}
use Rattle.gr_code.specs.CodeFrames.{ProgramCode, CodeFrame, Task, Steps, Wants, instruction_at, entered, task, after_in, resumed_in}
use Rattle.gr_code.specs.Goroutines.{CodeGoroutine, is_deepest, faulted, with_frames, local, local_in, local_by, local_task, leaves, prints}
use Rattle.gr_code.specs.Programs.{ProgramFits, Stands, frame_of, frame_meant, deed_meant}
use Rattle.gr_code.proofs.Standing.{has, does, after as after_alike, resumed_alike}
use Rattle.gr_code.proofs.Entering.{enters as called_alike}
use Rattle.gr_refine.specs.Contents.{Contents, with_goroutine}
use Rattle.gr_refine.specs.Looks.{actor_of}
use Rattle.gr_refine.specs.Attempting.{IsUp}
use Rattle.gr_refine.specs.Performing.{StepsTo}
use Rattle.gr_refine.specs.Local.{printed_by, after_local, local_report, LocalStepIsAStep}
use Rattle.gr_refine.specs.Standing.{AllStand}
use Rattle.gr_refine.proofs.TaskLemmas.{all_stand, instruction, at_it, task_is}
use Rattle.gr_refine.proofs.AttemptLemmas.{deed_is_a_step}
use Rattle.gr_refine.proofs.GoingLemmas.{moving_moves, evaluating_faults, printing_prints, entering_pushes, entering_too_deep_faults, leaving_pops}

pub given_is : {A : Type 0} {a b : A} → gives a ≡ gives b → a ≡ b
given_is {A} {a} {b} e = ap (λ o. elim o [ gives x ↦ x | _ ↦ a ]) e

pub never : {A : Type 0} {a : A} → wrong ≡ gives a → ⊥
never e = subst {0, 0} (λ o. elim o [ wrong ↦ Unit {0} | _ ↦ ⊥ ]) e tt

pub faults_never : {A : Type 0} {a : A} (f : _) → faults f ≡ gives a → ⊥
faults_never f e = subst {0, 0} (λ o. elim o [ faults _ ↦ Unit {0} | _ ↦ ⊥ ]) e tt

pub map_length : {A B : Type 0} (f : A → B) (xs : List A) → length (map f xs) ≡ length xs
map_length f [] = refl
map_length f (x ∷ xs) = omega (arith, map_length f xs)

module _ (means : ℕ → Meanings) (p : Program) (code : ProgramCode) (fits : ProgramFits means p code) where
  frame : CodeFrame → Frame
  frame = frame_of means code

  module _ (s : Contents) (e : Event) (g : CodeGoroutine) (f : CodeFrame) (below : List CodeFrame) (up : IsUp s e g f below)
      (plain : e.choice ≡ Plain) (stands : Stands means code f) (all : AllStand means code below)
      (i : Instruction) (is : instruction_at code f ≡ Some i) where
    abbrev a : Actor
    a = actor_of (frame_of means code) p e g f below

    -- the step, by the task
    acted : (o : Outcome Task) (t : Contents) (report : _) → task f i ≡ o
        → StepsTo (frame_of means code) (act_by a Plain (deed_meant means code o)) s t report
        → StepsTo (frame_of means code) (attempt p e) s t report
    acted o t report eq step =
        deed_is_a_step (frame_of means code) s t p e g f below (deed_meant means code o) report up
        (does means p code fits f stands i is ∙ ap (deed_meant means code) eq)
        (subst {_, _} (λ c. StepsTo (frame_of means code) (act_by a c (deed_meant means code o)) s t report) (sym plain) step)

    -- a step that left the goroutine so
    abbrev Left : Outcome (Kind × CodeGoroutine) → Outcome Task → Type 0
    Left r o = elim r [
      | gives k ↦ StepsTo (frame_of means code) (attempt p e) s (after_local s e.go k.0 k.1) (local_report k.0 g (printed_by o))
      | _ ↦ Unit {0}
    ]

    prints_by : (line : List ℕ) → task f i ≡ gives (Wants (Prints line)) → (r : Outcome CodeFrame) → after_in f i ≡ r
        → Left (prints g line r below) (gives (Wants (Prints line)))
    prints_by line eq (gives on) r =
        let goes : goes_on (frame_of means code f) ≡ frame_of means code on =
        subst {_, _} (IfGiven (λ h. goes_on (frame_of means code f) ≡ frame_of means code h)) r (after_alike means p code fits f stands i is) in
        let after : CodeGoroutine = record (with_frames g (on ∷ below)) { text = g.text ++ line ∷ [] } in
        acted (gives (Wants (Prints line))) (with_goroutine s e.go (Some after)) _ eq
        (printing_prints (frame_of means code) s a line after
        (ap (λ (h : Frame). record (rules_onward a h) { text = g.text ++ line ∷ [] }) (sym goes)))
    prints_by line eq (faults x) r = tt
    prints_by line eq wrong r = tt

    frames_are : map (frame_of means code) g.frames ≡ frame_of means code f ∷ map (frame_of means code) below
    frames_are = ap (map (frame_of means code)) up.frames

    deepest_is : rules.is_deepest (map (frame_of means code) g.frames) ≡ is_deepest (f ∷ below)
    deepest_is = ap (λ n. nat_le most_frames n) (map_length (frame_of means code) g.frames ∙ ap length up.frames)

    enters_into : (function : ℕ) (vs : List Value) → task f i ≡ gives (Wants (Enters function vs)) → is_deepest (f ∷ below) ≡ false
        → (r : Outcome CodeFrame) → entered code function vs ≡ r
        → Left (r >>= λ first. gives (kinds.Call, with_frames g (first ∷ f ∷ below))) (gives (Wants (Enters function vs)))
    enters_into function vs eq shallow (gives first) r =
        acted (gives (Wants (Enters function vs))) (with_goroutine s e.go (Some (with_frames g (first ∷ f ∷ below)))) _ eq
        (entering_pushes (frame_of means code) s a function vs (frame_of means code first) (with_frames g (first ∷ f ∷ below))
        (deepest_is ∙ shallow)
        (called_alike means p code fits function vs ∙ ap (frame_meant means code) r)
        (ap (λ (fs : List Frame). rules_with_frames a (frame_of means code first ∷ fs)) (sym frames_are)))
    enters_into function vs eq shallow (faults x) r = tt
    enters_into function vs eq shallow wrong r = tt

    enters_by : (function : ℕ) (vs : List Value) → task f i ≡ gives (Wants (Enters function vs)) → (b : Bool) → is_deepest (f ∷ below) ≡ b
        → Left (if b then gives (kinds.Fault CallDepth, faulted g)
        else (entered code function vs >>= λ first. gives (kinds.Call, with_frames g (first ∷ f ∷ below))))
        (gives (Wants (Enters function vs)))
    enters_by function vs eq true deep =
        acted (gives (Wants (Enters function vs))) (record (with_goroutine s e.go (Some (faulted g))) { run = rules_faulted CallDepth }) _ eq
        (entering_too_deep_faults (frame_of means code) s a function vs (faulted g) (deepest_is ∙ deep) refl)
    enters_by function vs eq false deep = enters_into function vs eq deep (entered code function vs) refl

    moves_by : (on : CodeFrame) → task f i ≡ gives (Steps on) → Left (gives (kinds.Pure, with_frames g (on ∷ below))) (gives (Steps on))
    moves_by on eq =
        acted (gives (Steps on)) (with_goroutine s e.go (Some (with_frames g (on ∷ below)))) _ eq
        (moving_moves (frame_of means code) s a (frame_of means code on) (with_frames g (on ∷ below)) refl)

    faults_by : (x : _) → task f i ≡ faults x → Left (gives (kinds.Fault x, faulted g)) (faults x)
    faults_by x eq =
        acted (faults x) (record (with_goroutine s e.go (Some (faulted g))) { run = rules_faulted x }) _ eq
        (evaluating_faults (frame_of means code) s a x (faulted g) refl)

    -- what the rules do with a caller
    returns_by : (v : Value) (c : CodeFrame) (cs : List CodeFrame) (h : below ≡ c ∷ cs) → task f i ≡ gives (Wants (Leaves v)) → Stands means code c
        → (j : Instruction) → instruction_at code c ≡ Some j → (r : Outcome CodeFrame) → resumed_in c j v ≡ r
        → Left (r >>= λ on. gives (kinds.Return, with_frames g (on ∷ cs))) (gives (Wants (Leaves v)))
    returns_by v c cs h eq there j at (gives on) r =
        acted (gives (Wants (Leaves v))) (with_goroutine s e.go (Some (with_frames g (on ∷ cs)))) _ eq
        (subst {_, _} (λ (fs : List CodeFrame). StepsTo (frame_of means code) (rules.leave a v (map (frame_of means code) fs)) s
        (with_goroutine s e.go (Some (with_frames g (on ∷ cs)))) (local_report kinds.Return g None)) (sym h)
        (leaving_pops (frame_of means code) s a v (frame_of means code c) (frame_of means code on) (map (frame_of means code) cs) (with_frames g (on ∷ cs))
        (resumed_alike means p code fits c there j at v ∙ ap (frame_meant means code) r) refl))
    returns_by v c cs h eq there j at (faults x) r = tt
    returns_by v c cs h eq there j at wrong r = tt

    leaves_by : (v : Value) → task f i ≡ gives (Wants (Leaves v)) → (fs : List CodeFrame) → below ≡ fs → AllStand means code fs
        → Left (leaves code g v fs) (gives (Wants (Leaves v)))
    leaves_by v eq [] h stand = tt
    leaves_by v eq (c ∷ cs) h stand =
        let j = has means p code fits c stand.0 in
        subst {_, _} (λ o. Left (o >>= λ j. resumed_in c j v >>= λ on. gives (kinds.Return, with_frames g (on ∷ cs))) (gives (Wants (Leaves v))))
        (sym (ap (λ o. elim o [ Some k ↦ gives k | None ↦ wrong ]) j.1))
        (returns_by v c cs h eq stand.0 j.0 j.1 (resumed_in c j.0 v) refl)

    -- what the rules do, whatever the task is
    left_by : (o : Outcome Task) → task f i ≡ o → Left (local_by g (local_task code g f below i) o) o
    left_by (gives (Steps on)) eq = moves_by on eq
    left_by (gives (Wants (Moves on))) eq = tt
    left_by (gives (Wants (Prints line))) eq = prints_by line eq (after_in f i) refl
    left_by (gives (Wants (Enters function vs))) eq = enters_by function vs eq (is_deepest (f ∷ below)) refl
    left_by (gives (Wants (Leaves v))) eq = leaves_by v eq below refl all
    left_by (gives (Wants (Starts function vs))) eq = tt
    left_by (gives (Wants (Makes n))) eq = tt
    left_by (gives (Wants (TakesLen c))) eq = tt
    left_by (gives (Wants (TakesCap c))) eq = tt
    left_by (gives (Wants (Closes c))) eq = tt
    left_by (gives (Wants (Communicates c))) eq = tt
    left_by (gives (Wants (Chooses cs))) eq = tt
    left_by (faults x) eq = faults_by x eq
    left_by wrong eq = tt

module _ (means : ℕ → Meanings) (p : Program) (code : ProgramCode) (s : Contents) (e : Event) (g : CodeGoroutine) (f : CodeFrame)
    (below : List CodeFrame) where
  -- the step of a goroutine whose innermost frame is at an instruction
  pub local_here : (i : Instruction) → g.frames ≡ f ∷ below → instruction_at code f ≡ Some i
      → local code g ≡ local_by g (local_task code g f below i) (task f i)
  local_here i frames at =
      ap (local_in code g) frames
      ∙ ap (λ o. elim o [ Some k ↦ gives k | None ↦ wrong ] >>= λ i. local_by g (local_task code g f below i) (task f i)) at

  pub local_step_is_a_step : LocalStepIsAStep means p code s e g f below
  local_step_is_a_step after kind acts plain is =
      let stand = all_stand means p code g f below acts.fits acts.up.frames acts.stand in
      let i = instruction means p code g f below acts.fits acts.up.frames acts.stand in
      let here = at_it means p code g f below acts.fits acts.up.frames acts.stand in
      let by = left_by means p code acts.fits s e g f below acts.up plain stand.0 stand.1 i here (task f i) refl in
      let step = subst {_, _} (λ r. Left means p code acts.fits s e g f below acts.up plain stand.0 stand.1 i here r (task f i))
      (sym (local_here i acts.up.frames here) ∙ is) by in
      subst {_, _} (λ o. StepsTo (frame_of means code) (attempt p e) s (after_local s e.go kind after) (local_report kind g (printed_by o)))
      (sym (task_is means p code g f below acts.fits acts.up.frames acts.stand)) step
