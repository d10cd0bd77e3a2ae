-- From the task of a goroutine of code to the step of the rules.
use Rattle.std.specs.Prelude.{◌≡◌, ℕ, Bool, true, false, List, [], ◌∷◌}
use Rattle.gr_base.specs.declared.events.Choice.TheVariants as choices
use Rattle.gr_base.specs.declared.events.Event.{Event}
use Rattle.gr_program.specs.Programs.{Program}
use Rattle.gr_rules.specs.Outcomes.{Outcome, gives, wrong}
use Rattle.gr_rules.specs.Deeds.{Communication, Deed, Chooses, Prints, Enters, Leaves}
use Rattle.gr_rules.specs.Attempts.{no_such_choice, Report}
use Rattle.gr_rules.specs.Steps.{act, act_by, attempt}
use Rattle.gr_code.specs.Code.{Meanings}
use Rattle.gr_code.specs.CodeFrames.{ProgramCode, CodeFrame, Task, Steps, Wants}
use Rattle.gr_code.specs.Goroutines.{CodeGoroutine, task_of, local, is_local}
use Rattle.gr_code.specs.Programs.{ProgramFits, frame_of, deed_meant}
use Rattle.gr_refine.specs.Contents.{Contents, state_of}
use Rattle.gr_refine.specs.Leaves.{Refuses}
use Rattle.gr_refine.specs.Looks.{Ends, actor_of}
use Rattle.gr_refine.specs.Presence.{Sound}
use Rattle.gr_refine.specs.Performing.{StepsTo}
use Rattle.gr_refine.specs.Attempting.{IsUp, is_plain}
use Rattle.gr_refine.specs.Standing.{AllStand}

-- whether a task leaves a choice
abbrev pub chooses : Outcome Task → Bool
chooses o = elim o [ gives (Wants (Chooses ws)) ↦ true | _ ↦ false ]

-- whether a step with this task is local to its goroutine, whose innermost frame has these below it; nothing is asked where
-- the task is wrong
abbrev pub stays_within : List CodeFrame → Outcome Task → Bool
stays_within below (gives (Steps on)) = true
stays_within below (gives (Wants (Prints line))) = true
stays_within below (gives (Wants (Enters function vs))) = true
stays_within [] (gives (Wants (Leaves v))) = false
stays_within (f ∷ below) (gives (Wants (Leaves v))) = true
stays_within below (gives (Wants deed)) = false
stays_within below _ = true

-- a goroutine of the program's code that is up, with frames that stand
pub record Acts (means : ℕ → Meanings) (p : Program) (code : ProgramCode) (s : Contents) (e : Event) (g : CodeGoroutine) (f : CodeFrame)
    (below : List CodeFrame) : Type 0 where
  pub fits : ProgramFits means p code
  pub up : IsUp s e g f below
  pub stand : AllStand means code g.frames

module _ (means : ℕ → Meanings) (p : Program) (code : ProgramCode) (s : Contents) (e : Event) (g : CodeGoroutine) (f : CodeFrame)
    (below : List CodeFrame) where
  -- the attempt is that of the deed that the task means: of each rule's own, by what the task is
  abbrev pub AttemptIsOfTheTask : Type 0
  AttemptIsOfTheTask = (o : Outcome Task) → Acts means p code s e g f below → task_of code g ≡ o
      → Ends (frame_of means code) s (attempt p e) (act_by (actor_of (frame_of means code) p e g f below) e.choice (deed_meant means code o))

  -- the steps of the task's attempt are those of the goroutine
  abbrev pub TaskIsAStep : Type 0
  TaskIsAStep = (o : Outcome Task) (t : Contents) (report : Report) → Acts means p code s e g f below → task_of code g ≡ o
      → StepsTo (frame_of means code) (act_by (actor_of (frame_of means code) p e g f below) e.choice (deed_meant means code o)) s t report
      → StepsTo (frame_of means code) (attempt p e) s t report

  -- where the attempt is not refused as unsound, its task is not either
  abbrev pub TaskIsSound : Type 0
  TaskIsSound = (o : Outcome Task) → Acts means p code s e g f below → task_of code g ≡ o → Sound (frame_of means code) s (attempt p e)
      → Sound (frame_of means code) s (act_by (actor_of (frame_of means code) p e g f below) e.choice (deed_meant means code o))

  -- with no choice the attempt is that of the rule of the deed that it wants, but for a select
  abbrev pub AttemptIsOfTheRule : Type 0
  AttemptIsOfTheRule = (d : Deed) → Acts means p code s e g f below → task_of code g ≡ gives (Wants d) → chooses (gives (Wants d)) ≡ false
      → e.choice ≡ choices.Plain → Ends (frame_of means code) s (attempt p e) (act (actor_of (frame_of means code) p e g f below) d)

  abbrev pub RuleIsAStep : Type 0
  RuleIsAStep = (d : Deed) (t : Contents) (report : Report) → Acts means p code s e g f below → task_of code g ≡ gives (Wants d)
      → chooses (gives (Wants d)) ≡ false → e.choice ≡ choices.Plain
      → StepsTo (frame_of means code) (act (actor_of (frame_of means code) p e g f below) d) s t report
      → StepsTo (frame_of means code) (attempt p e) s t report

  abbrev pub RuleIsSound : Type 0
  RuleIsSound = (d : Deed) → Acts means p code s e g f below → task_of code g ≡ gives (Wants d) → chooses (gives (Wants d)) ≡ false
      → e.choice ≡ choices.Plain → Sound (frame_of means code) s (attempt p e)
      → Sound (frame_of means code) s (act (actor_of (frame_of means code) p e g f below) d)

  -- only a select has a choice, and it wants one (Go: Select statements)
  abbrev pub TaskHasNoChoice : Type 0
  TaskHasNoChoice = Acts means p code s e g f below → chooses (task_of code g) ≡ false → is_plain e.choice ≡ false
      → Refuses (attempt p e) (state_of (frame_of means code) s) no_such_choice

  abbrev pub TaskWantsAChoice : Type 0
  TaskWantsAChoice = (ws : List Communication) → Acts means p code s e g f below → task_of code g ≡ gives (Wants (Chooses ws))
      → e.choice ≡ choices.Plain → Refuses (attempt p e) (state_of (frame_of means code) s) no_such_choice

  -- where the attempt is not refused as unsound, the goroutine has a task
  abbrev pub TaskIsThere : Type 0
  TaskIsThere = Acts means p code s e g f below → e.choice ≡ choices.Plain → Sound (frame_of means code) s (attempt p e)
      → ¬ (task_of code g ≡ wrong)

  -- where the attempt is not refused as unsound, a task that stays within the goroutine is a local step
  abbrev pub LocalStepIsThere : Type 0
  LocalStepIsThere = Acts means p code s e g f below → e.choice ≡ choices.Plain → Sound (frame_of means code) s (attempt p e)
      → stays_within below (task_of code g) ≡ true → ¬ (local code g ≡ wrong)

-- an instruction that is local has a task that stays within its goroutine
abbrev pub LocalStaysWithin : Type 0
LocalStaysWithin = (code : ProgramCode) (g : CodeGoroutine) (f : CodeFrame) (below : List CodeFrame)
    → g.frames ≡ f ∷ below → is_local code g ≡ true → stays_within below (task_of code g) ≡ true

-- P holds of each goroutine of code, in each state
abbrev pub OfEachGoroutine : ((means : ℕ → Meanings) (p : Program) (code : ProgramCode) (s : Contents) (e : Event) (g : CodeGoroutine) (f : CodeFrame)
    (below : List CodeFrame) → Type 0) → Type 0
OfEachGoroutine P = (means : ℕ → Meanings) (p : Program) (code : ProgramCode) (s : Contents) (e : Event) (g : CodeGoroutine) (f : CodeFrame)
    (below : List CodeFrame) → P means p code s e g f below
