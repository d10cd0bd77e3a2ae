-- From the task of a goroutine of code to the step of the rules.
use Rattle.std.proofs.Common.{true, false, ◌≡◌, ℕ, List, ◌∷◌, Some, None, refl, sym, ap, subst, ◌∙◌}
use Rattle.gr_base.specs.declared.events.Choice.{Choice}
use Rattle.gr_base.specs.declared.events.Choice.TheVariants.{Plain}
use Rattle.gr_base.specs.declared.events.Event.{Event}
use Rattle.gr_program.specs.Programs.{Program}
use Rattle.gr_rules.specs.Outcomes.{Outcome, gives, faults, wrong, ◌>>=◌}
use Rattle.gr_rules.specs.Deeds.{Deed, Moves, Prints, Enters, Leaves, Starts, Makes, TakesLen, TakesCap, Closes, Communicates, Chooses, deed}
use Rattle.gr_rules.specs.Actors.{Actor}
use Rattle.gr_rules.specs.Steps.{act, act_by}
use Rattle.gr_code.specs.Instructions.{Instruction}
use Rattle.gr_code.specs.Code.{Meanings}
use Rattle.gr_code.specs.CodeFrames.{ProgramCode, CodeFrame, Task, Steps, Wants, instruction_at, task}
use Rattle.gr_code.specs.Goroutines.{CodeGoroutine, task_of, task_in}
use Rattle.gr_code.specs.Programs.{ProgramFits, frame_of, deed_meant}
use Rattle.gr_code.proofs.Standing.{has, does}
use Rattle.gr_refine.specs.Contents.{Contents, state_of}
use Rattle.gr_refine.specs.Leaves.{leaf}
use Rattle.gr_refine.specs.Looks.{actor_of}
use Rattle.gr_refine.specs.Attempting.{leaves_choice}
use Rattle.gr_refine.specs.Standing.{AllStand}
use Rattle.gr_refine.specs.Tasks.{Acts, chooses, AttemptIsOfTheTask, TaskIsAStep, TaskIsSound, AttemptIsOfTheRule, RuleIsAStep, RuleIsSound}
use Rattle.gr_refine.specs.Tasks.{TaskHasNoChoice, TaskWantsAChoice, TaskIsThere}
use Rattle.gr_refine.proofs.AttemptLemmas.{attempt_is_of_the_deed, choice_is_refused, frame_has_a_deed}
use Rattle.gr_refine.proofs.PerformingLemmas.{same_end_same_step}

-- a deed chooses where the task does
chooses_alike : (means : ℕ → Meanings) (code : ProgramCode) (o : Outcome Task) → leaves_choice (deed_meant means code o) ≡ chooses o
chooses_alike means code (gives (Steps on)) = refl
chooses_alike means code (gives (Wants (Moves on))) = refl
chooses_alike means code (gives (Wants (Prints line))) = refl
chooses_alike means code (gives (Wants (Enters function vs))) = refl
chooses_alike means code (gives (Wants (Leaves v))) = refl
chooses_alike means code (gives (Wants (Starts function vs))) = refl
chooses_alike means code (gives (Wants (Makes n))) = refl
chooses_alike means code (gives (Wants (TakesLen c))) = refl
chooses_alike means code (gives (Wants (TakesCap c))) = refl
chooses_alike means code (gives (Wants (Closes c))) = refl
chooses_alike means code (gives (Wants (Communicates c))) = refl
chooses_alike means code (gives (Wants (Chooses cs))) = refl
chooses_alike means code (faults x) = refl
chooses_alike means code wrong = refl

-- with no choice each deed has its rule, but for that of a select
rule_is : (a : Actor) (d : Deed) → chooses (gives (Wants d)) ≡ false → act_by a Plain (gives d) ≡ act a d
rule_is a (Moves on) none = refl
rule_is a (Prints line) none = refl
rule_is a (Enters function vs) none = refl
rule_is a (Leaves v) none = refl
rule_is a (Starts function vs) none = refl
rule_is a (Makes n) none = refl
rule_is a (TakesLen c) none = refl
rule_is a (TakesCap c) none = refl
rule_is a (Closes c) none = refl
rule_is a (Communicates c) none = refl
rule_is a (Chooses cs) none = absurd (let no : true ≡ false = none in cc)

-- goroutines whose innermost frame is known, and stands with those below it
module _ (means : ℕ → Meanings) (p : Program) (code : ProgramCode) (g : CodeGoroutine) (f : CodeFrame) (below : List CodeFrame)
    (fits : ProgramFits means p code) (frames : g.frames ≡ f ∷ below) (stand : AllStand means code g.frames) where
  pub all_stand : AllStand means code (f ∷ below)
  all_stand = subst {_, _} (AllStand means code) frames stand

  pub instruction : Instruction
  instruction = (has means p code fits f all_stand.0).0

  pub at_it : instruction_at code f ≡ Some instruction
  unfolding instruction
  at_it = (has means p code fits f all_stand.0).1

  -- its task is that of the instruction
  pub task_is : task_of code g ≡ task f instruction
  task_is = ap (task_in code) frames ∙ ap (λ o. elim o [ Some k ↦ gives k | None ↦ wrong ] >>= λ i. task f i) at_it

  pub deed_is : deed (frame_of means code f) ≡ deed_meant means code (task_of code g)
  deed_is = does means p code fits f all_stand.0 instruction at_it ∙ ap (deed_meant means code) (sym task_is)

module _ (means : ℕ → Meanings) (p : Program) (code : ProgramCode) (s : Contents) (e : Event) (g : CodeGoroutine) (f : CodeFrame)
    (below : List CodeFrame) where
  abbrev a : Actor
  a = actor_of (frame_of means code) p e g f below

  meant : Acts means p code s e g f below → deed (frame_of means code f) ≡ deed_meant means code (task_of code g)
  meant acts = deed_is means p code g f below acts.fits acts.up.frames acts.stand

  pub attempt_is_of_the_task : AttemptIsOfTheTask means p code s e g f below
  attempt_is_of_the_task o acts is =
      attempt_is_of_the_deed (frame_of means code) s p e g f below (deed_meant means code o) acts.up (meant acts ∙ ap (deed_meant means code) is)

  pub task_is_a_step : TaskIsAStep means p code s e g f below
  task_is_a_step o t report acts is step = same_end_same_step (frame_of means code) _ _ s t report (attempt_is_of_the_task o acts is) step

  pub task_is_sound : TaskIsSound means p code s e g f below
  task_is_sound o acts is sound ends = sound (attempt_is_of_the_task o acts is ∙ ends)

  pub attempt_is_of_the_rule : AttemptIsOfTheRule means p code s e g f below
  attempt_is_of_the_rule d acts is none plain =
      attempt_is_of_the_task (gives (Wants d)) acts is
      ∙ ap (λ (c : Choice). leaf (state_of (frame_of means code) s) (act_by a c (gives d))) plain
      ∙ ap (leaf (state_of (frame_of means code) s)) (rule_is a d none)

  pub rule_is_a_step : RuleIsAStep means p code s e g f below
  rule_is_a_step d t report acts is none plain step =
      same_end_same_step (frame_of means code) _ _ s t report (attempt_is_of_the_rule d acts is none plain) step

  pub rule_is_sound : RuleIsSound means p code s e g f below
  rule_is_sound d acts is none plain sound ends = sound (attempt_is_of_the_rule d acts is none plain ∙ ends)

  pub task_has_no_choice : TaskHasNoChoice means p code s e g f below
  task_has_no_choice acts none choice =
      attempt_is_of_the_task (task_of code g) acts refl
      ∙ choice_is_refused (frame_of means code) s a e.choice (deed_meant means code (task_of code g)) (chooses_alike means code (task_of code g) ∙ none) choice

  pub task_wants_a_choice : TaskWantsAChoice means p code s e g f below
  task_wants_a_choice ws acts is plain =
      attempt_is_of_the_task (gives (Wants (Chooses ws))) acts is
      ∙ ap (λ (c : Choice). leaf (state_of (frame_of means code) s) (act_by a c (gives (Chooses ws)))) plain

  pub task_is_there : TaskIsThere means p code s e g f below
  task_is_there acts plain sound is =
      frame_has_a_deed (frame_of means code) s p e g f below acts.up plain sound (meant acts ∙ ap (deed_meant means code) is)
