-- Schedules that end badly, and what is known where the search for one met a limit.
use Rattle.std.specs.Prelude.{◌≡◌, ◌+◌, ◌<◌, ℕ, List, ◌++◌, length, IfSome}
use Rattle.gr_causal.specs.Machine.{IsLog}
use Rattle.gr_program.specs.Programs.{Program}
use Rattle.gr_rules.specs.States.{State, live, faulted, start}
use Rattle.gr_rules.specs.Steps.{machine}
use Rattle.gr_rules.specs.Turns.{IsReady}
use Rattle.gr_laws.specs.Reached.{Logged}
use Rattle.gr_rollback.specs.Pasts.{Past, events_in}
use Rattle.gr_search.specs.Going.{HasClosed}
use Rattle.gr_search.specs.Shortest.{IsCut}
use Rattle.gr_search.specs.declared.search.Limits.{Limits}
use Rattle.gr_search.specs.declared.shortest.Unfinished.{Unfinished}
use Rattle.gr_schedules.specs.declared.Aim.{Aim}
use Rattle.gr_schedules.specs.declared.Aim.TheVariants.{EndsBadly, EndsBadlyOrLeaks}
use Rattle.gr_schedules.specs.Schedules.{Origin}
use Rattle.gr_schedules.specs.Aims.{Leaks, NoneComes, NoneComesWithin, SomeComesBy, schedules_to}
use Rattle.gr_schedules.specs.Choices.{AreChoices}
use Rattle.gr_schedules.specs.Keys.{IsKey}
use Rattle.gr_explore.specs.Exploring.{longest_after}
use Rattle.gr_survey.specs.declared.bad_end.BadEnd.{BadEnd}
use Rattle.gr_survey.specs.declared.bad_end.BadEnd.TheVariants.{Stuck, Fault, Leak}
use Rattle.gr_survey.specs.declared.bad_end.BadEnds.{BadEnds}
use Rattle.gr_survey.specs.declared.bad_end.BadEnds.TheVariants.{WithoutLeaks, WithLeaks}
use Rattle.gr_survey.specs.declared.surveying.Schedule.{Schedule}
use Rattle.gr_survey.specs.declared.surveying.Surveyed.{Surveyed}
use Rattle.gr_survey.specs.declared.surveying.Surveyed.TheVariants as found
use Rattle.gr_survey.specs.StepTexts.{commands_text}

-- what is looked for, by which ends are bad
abbrev pub sought : BadEnds → Aim
sought WithoutLeaks = EndsBadly
sought WithLeaks = EndsBadlyOrLeaks

-- a run ends badly: the program runs and no goroutine is ready, or this fault stopped it, or it leaks goroutines
abbrev pub EndsAs : State → BadEnd → Type 0
EndsAs s Stuck = (s.run ≡ live) × ((g : List ℕ) → ¬ IsReady s g)
EndsAs s (Fault fault) = s.run ≡ faulted fault
EndsAs s Leak = Leaks s

module _ (p : Program) (w : Past p) where
  -- a schedule from where a run of the program stands: the steps of the run, and steps more, end as is told, and the text has the
  -- commands that take all of them
  pub record IsSchedule (schedule : Schedule) (old new : List ℕ) : Type 0 where
    pub steps : List (Logged p)
    pub state : State
    pub leads : IsLog (machine p) w.state steps state
    pub run : IsLog (machine p) (start p) (w.log ++ steps) state
    pub ends : EndsAs state schedule.end
    pub count : schedule.steps ≡ length (w.log ++ steps)
    pub text : new ≡ old ++ commands_text (events_in p (w.log ++ steps))

module _ (p : Program) (w : Past p) (bad : BadEnds) where
  -- and no schedule from there with fewer steps ends badly
  pub record IsShortest (schedule : Schedule) (old new : List ℕ) : Type 0 where
    pub is : IsSchedule p w schedule old new
    pub fewest : (n : ℕ) → n < length is.steps → NoneComesWithin (sought bad) p n w.state

  -- what is known of the schedules from there where a limit was met: up to `safe` steps none ends badly, some schedule of `known`
  -- steps does, and the limit was met in the search of those of one step more than `safe`
  pub record IsUnfinished (limits : Limits) (u : Unfinished) : Type 0 where
    pub safe : NoneComesWithin (sought bad) p u.safe w.state
    pub known : IfSome u.known (λ n. SomeComesBy (sought bad) p n w.state)
    pub met : let origin : Origin = record { program = p; before = events_in p w.log } in
        IsCut (schedules_to (sought bad) origin) (IsKey p) (AreChoices p) (longest_after origin) limits.states limits.turns (u.safe + 1) u.limit

  -- so many states were seen from there: by their keys, of which no two are the same and which are closed
  abbrev pub AreAll : ℕ → Type 0
  AreAll states = let origin : Origin = record { program = p; before = events_in p w.log } in
      HasClosed (schedules_to (sought bad) origin) (IsKey p) states

  -- what was found there, and what became of the text
  abbrev pub IsFound : Limits → Surveyed → List ℕ → List ℕ → Type 0
  IsFound limits (found.NoneEndsBadly states) old new = NoneComes (sought bad) p w.state × AreAll states × (new ≡ old)
  IsFound limits (found.Shortest schedule) old new = IsShortest schedule old new
  IsFound limits (found.Found schedule u) old new = IsSchedule p w schedule old new × IsUnfinished limits u
  IsFound limits (found.Unfinished u) old new = IsUnfinished limits u × (new ≡ old)
