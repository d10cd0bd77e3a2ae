-- Frames of code stand wherever goroutines go.
use Rattle.std.proofs.Common.{◌≡◌, ℕ, Bool, true, false, if◌then◌else◌, List, [], ◌∷◌, Option, Some, None, refl, sym, ap, subst}
use Rattle.std.specs.Prelude.{option_map}
use Rattle.std.specs.List.{list_any}
use Rattle.gr_base.specs.declared.values.Value as values
use Rattle.gr_base.specs.declared.kinds.Kind.{Kind}
use Rattle.gr_base.specs.declared.kinds.Kind.TheVariants as kinds
use Rattle.gr_base.specs.declared.kinds.Fault.TheVariants.{CallDepth}
use Rattle.gr_program.specs.Programs.{Program}
use Rattle.gr_rules.specs.Outcomes.{Outcome, gives, faults, wrong, ◌>>=◌}
use Rattle.gr_rules.specs.Deeds.{Moves, Prints, Enters, Leaves, Starts, Makes, TakesLen, TakesCap, Closes, Communicates, Chooses}
use Rattle.gr_rules.specs.States.{same_go, updated}
use Rattle.gr_code.specs.Instructions.{Instruction}
use Rattle.gr_code.specs.Code.{Meanings, IfGiven}
use Rattle.gr_code.specs.CodeFrames.{ProgramCode, CodeFrame, Task, Steps, Wants, instruction_at, entered, task, after_in, resumed_in}
use Rattle.gr_code.specs.Goroutines.{CodeGoroutine, instruction_in, is_deepest, faulted, with_frames, local_in, local_by, local_task, leaves, Arrival}
use Rattle.gr_code.specs.Goroutines.{Value, Channel, Completion, Child, Passes, IsMet, past_arrival, frames_past, with_arrival}
use Rattle.gr_code.specs.Programs.{ProgramFits, Stands, TaskStands}
use Rattle.gr_code.proofs.Standing.{keeps_standing}
use Rattle.gr_code.proofs.Entering.{enters_standing}
use Rattle.gr_refine.specs.Contents.{Contents}
use Rattle.gr_refine.specs.Meetings.{woken}
use Rattle.gr_refine.specs.Standing.{AllStand, ContentsStand, LocalStepKeepsStanding, ArrivalKeepsStanding, ChangeKeepsStanding, GoneKeepsStanding}
use Rattle.gr_refine.specs.Standing.{WakingKeepsStanding, SameGoroutinesStand}

-- what is given where something is given before
given_on : {A B : Type 0} (P : A → Type 0) (Q : B → Type 0) (o : Outcome A) (k : A → Outcome B) → IfGiven P o → ((a : A) → P a → IfGiven Q (k a))
    → IfGiven Q (o >>= k)
given_on P Q (gives a) k h then_so = then_so a h
given_on P Q (faults e) k h then_so = tt
given_on P Q wrong k h then_so = tt

-- what is given where something is given before, and which that is
given_at : {A B : Type 0} (Q : B → Type 0) (o : Outcome A) (k : A → Outcome B) → ((a : A) → o ≡ gives a → IfGiven Q (k a)) → IfGiven Q (o >>= k)
given_at Q (gives a) k then_so = then_so a refl
given_at Q (faults e) k then_so = tt
given_at Q wrong k then_so = tt

at_instruction : (code : ProgramCode) (f : CodeFrame) (i : Instruction) → instruction_in code f ≡ gives i → instruction_at code f ≡ Some i
at_instruction code f i is = by (instruction_at code f) is
  where
    by : (o : Option Instruction) → (elim o [ Some k ↦ gives k | None ↦ wrong ]) ≡ gives i → o ≡ Some i
    by (Some k) e = ap (λ o. elim o [ gives x ↦ Some x | _ ↦ Some k ]) e
    by None e = absurd (subst {0, 0} (λ (o : Outcome Instruction). elim o [ wrong ↦ Unit {0} | _ ↦ ⊥ ]) e tt)

module _ (means : ℕ → Meanings) (code : ProgramCode) (p : Program) (fits : ProgramFits means p code) where
  -- the goroutine after a step has frames that stand
  abbrev Kept : Outcome (Kind × CodeGoroutine) → Type 0
  Kept r = IfGiven (λ (k : Kind × CodeGoroutine). AllStand means code k.1.frames) r

  module _ (g : CodeGoroutine) (stand : AllStand means code g.frames) where
    enters_kept : (function : ℕ) (vs : List values.Value) (fs : List CodeFrame) → AllStand means code fs → (b : Bool)
        → Kept (if b then gives (kinds.Fault CallDepth, faulted g) else (entered code function vs >>= λ f. gives (kinds.Call, with_frames g (f ∷ fs))))
    enters_kept function vs fs all true = stand
    enters_kept function vs fs all false =
        given_on (Stands means code) (λ (k : Kind × CodeGoroutine). AllStand means code k.1.frames) (entered code function vs) _
        (enters_standing means p code fits function vs) (λ f there. (there, all))

    leaves_kept : (v : values.Value) (fs : List CodeFrame) → AllStand means code fs → Kept (leaves code g v fs)
    leaves_kept v [] all = tt
    leaves_kept v (c ∷ cs) all =
        given_at (λ (k : Kind × CodeGoroutine). AllStand means code k.1.frames) (instruction_in code c) _
        (λ j is. given_on (Stands means code) (λ (k : Kind × CodeGoroutine). AllStand means code k.1.frames) (resumed_in c j v) _
        ((keeps_standing means p code fits c all.0 j (at_instruction code c j is)).resumes v) (λ on there. (there, all.1)))

    task_kept : (f : CodeFrame) (below : List CodeFrame) (i : Instruction) → AllStand means code (f ∷ below) → IfGiven (Stands means code) (after_in f i)
        → (o : Outcome Task) → IfGiven (TaskStands means code) o → Kept (local_by g (local_task code g f below i) o)
    task_kept f below i all after (gives (Steps on)) there = (there, all.1)
    task_kept f below i all after (gives (Wants (Moves on))) there = tt
    task_kept f below i all after (gives (Wants (Prints line))) there =
        given_on (Stands means code) (λ (k : Kind × CodeGoroutine). AllStand means code k.1.frames) (after_in f i) _ after (λ on there. (there, all.1))
    task_kept f below i all after (gives (Wants (Enters function vs))) there = enters_kept function vs (f ∷ below) all (is_deepest (f ∷ below))
    task_kept f below i all after (gives (Wants (Leaves v))) there = leaves_kept v below all.1
    task_kept f below i all after (gives (Wants (Starts function vs))) there = tt
    task_kept f below i all after (gives (Wants (Makes n))) there = tt
    task_kept f below i all after (gives (Wants (TakesLen c))) there = tt
    task_kept f below i all after (gives (Wants (TakesCap c))) there = tt
    task_kept f below i all after (gives (Wants (Closes c))) there = tt
    task_kept f below i all after (gives (Wants (Communicates c))) there = tt
    task_kept f below i all after (gives (Wants (Chooses cs))) there = tt
    task_kept f below i all after (faults x) there = stand
    task_kept f below i all after wrong there = tt

    local_kept : (fs : List CodeFrame) → AllStand means code fs → Kept (local_in code g fs)
    local_kept [] all = tt
    local_kept (f ∷ below) all =
        given_at (λ (k : Kind × CodeGoroutine). AllStand means code k.1.frames) (instruction_in code f) _
        (λ i is. let keeps = keeps_standing means p code fits f all.0 i (at_instruction code f i is) in
        task_kept f below i all keeps.after (task f i) keeps.does)

  -- past what arrives
  past_kept : (a : Arrival) (f : CodeFrame) (i : Instruction) → Stands means code f → instruction_at code f ≡ Some i
      → IfGiven (Stands means code) (past_arrival a f i)
  past_kept (Value v) f i st at = (keeps_standing means p code fits f st i at).resumes v
  past_kept (Channel v) f i st at = (keeps_standing means p code fits f st i at).resumes v
  past_kept Completion f i st at = (keeps_standing means p code fits f st i at).after
  past_kept Child f i st at = (keeps_standing means p code fits f st i at).after
  past_kept (Passes clause got) f i st at = (keeps_standing means p code fits f st i at).passes clause got
  past_kept (IsMet clause got) f i st at = (keeps_standing means p code fits f st i at).passes clause got

  frames_kept : (a : Arrival) (fs : List CodeFrame) → AllStand means code fs → IfGiven (AllStand means code) (frames_past code a fs)
  frames_kept a [] all = tt
  frames_kept a (f ∷ below) all =
      given_at (AllStand means code) (instruction_in code f) _
      (λ i is. given_on (Stands means code) (AllStand means code) (past_arrival a f i) _
      (past_kept a f i all.0 (at_instruction code f i is)) (λ on there. (there, all.1)))

  frames_with : (a : Arrival) (g : CodeGoroutine) (fs : List CodeFrame) → (with_arrival a g fs).frames ≡ fs
  frames_with (Value v) g fs = refl
  frames_with (Channel v) g fs = refl
  frames_with Completion g fs = refl
  frames_with Child g fs = refl
  frames_with (Passes clause got) g fs = refl
  frames_with (IsMet clause got) g fs = refl

pub local_step_keeps_standing : (means : ℕ → Meanings) (code : ProgramCode) → LocalStepKeepsStanding means code
local_step_keeps_standing means code p g after kind fits stand is =
    subst {_, _} (Kept means code p fits) is (local_kept means code p fits g stand g.frames stand)

pub arrival_keeps_standing : (means : ℕ → Meanings) (code : ProgramCode) → ArrivalKeepsStanding means code
arrival_keeps_standing means code p a g after fits stand is =
    subst {_, _} (IfGiven (λ (g : CodeGoroutine). AllStand means code g.frames)) is
    (given_on (AllStand means code) (λ (g : CodeGoroutine). AllStand means code g.frames) (frames_past code a g.frames) _
    (frames_kept means code p fits a g.frames stand)
    (λ fs there. subst {_, _} (AllStand means code) (sym (frames_with means code p fits a g fs)) there))

-- what a map holds after a change, by the test of names
module _ (means : ℕ → Meanings) (code : ProgramCode) where
  abbrev pub OfOption : Option CodeGoroutine → Type 0
  OfOption o = (g : CodeGoroutine) → o ≡ Some g → AllStand means code g.frames

  changed_stand : (s : Contents) (x : Option CodeGoroutine) (n m : List ℕ) → ContentsStand means code s → OfOption x
      → OfOption (updated same_go s.goroutines n x m)
  changed_stand s x n m all here = by (same_go m n)
    where
      by : (b : Bool) → OfOption (if b then x else s.goroutines m)
      by true = here
      by false = all m

  pub one_stands : (g : CodeGoroutine) → AllStand means code g.frames → OfOption (Some g)
  one_stands g stand h is = subst {0, 0} (λ (o : Option CodeGoroutine). elim o [ Some h ↦ AllStand means code h.frames | None ↦ Unit {0} ]) is stand

  pub none_stands : OfOption None
  none_stands h is = absurd (subst {0, 0} (λ (o : Option CodeGoroutine). elim o [ Some h ↦ ⊥ | None ↦ Unit {0} ]) is tt)

  pub change_keeps_standing : ChangeKeepsStanding means code
  change_keeps_standing s n g all stand m = changed_stand s (Some g) n m all (one_stands g stand)

  pub gone_keeps_standing : GoneKeepsStanding means code
  gone_keeps_standing s n all m = changed_stand s None n m all none_stands

  woken_stand : (o : Option CodeGoroutine) → OfOption o → OfOption (option_map woken o)
  woken_stand None all = none_stands
  woken_stand (Some g) all = one_stands (woken g) (all g refl)

  pub waking_keeps_standing : WakingKeepsStanding means code
  waking_keeps_standing s names all m = by (list_any (same_go m) names)
    where
      by : (b : Bool) → OfOption (if b then option_map woken (s.goroutines m) else s.goroutines m)
      by true = woken_stand (s.goroutines m) (all m)
      by false = all m

  pub same_goroutines_stand : SameGoroutinesStand means code
  same_goroutines_stand s t same all m = subst {_, _} OfOption (sym (same m)) (all m)
