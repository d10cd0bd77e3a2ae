-- Which step of the run of a script is to blame, by its name.
use Rattle.std.specs.Prelude.{◌≡◌, ◌+◌, ℕ, List, slice_get, Some}
use Rattle.gr_base.specs.declared.names.StepId.{StepId}
use Rattle.gr_program.specs.Programs.{Program}
use Rattle.gr_step.specs.Record.{Record}
use Rattle.gr_rollback.specs.Pasts.{Past, events_in, ids_of}
use Rattle.gr_session.specs.Journal.{past_of}
use Rattle.gr_explore.specs.Blaming.{CanEndWell, IsLost, IsBlame}
use Rattle.gr_explore.specs.declared.blaming.Blame.{Blame}
use Rattle.gr_explore.specs.declared.blaming.Blame.TheVariants as blames
use Rattle.gr_survey.specs.declared.blaming.Blamed.{Blamed}
use Rattle.gr_survey.specs.declared.blaming.Blamed.TheVariants.{Nobody, Beginning, Step, Between}
use Rattle.gr_survey.specs.Surveys.{After}

-- the step at the place to blame has this name
pub record IsStepAt (steps : List Record) (place : ℕ) (blamed : Blamed) : Type 0 where
  pub step : Record
  pub there : slice_get steps place ≡ Some step
  pub named : blamed ≡ Step step.id

-- what is told of a blame along these steps
abbrev pub IsNamed : List Record → Blame → Blamed → Type 0
IsNamed steps blames.Nobody blamed = blamed ≡ Nobody
IsNamed steps blames.Beginning blamed = blamed ≡ Beginning
IsNamed steps (blames.Step place) blamed = IsStepAt steps place blamed
IsNamed steps (blames.Between span) blamed = blamed ≡ Between span

module _ (p : Program) (w : Past p) where
  -- this step has so many before it; after those some schedule of the program ends well, and after one step more none does
  pub record IsToBlame (id : StepId) : Type 0 where
    pub place : ℕ
    pub there : slice_get (ids_of p w.log) place ≡ Some id
    pub well : CanEndWell p (events_in p w.log) place
    pub lost : IsLost p (events_in p w.log) (place + 1)

  -- which of the steps is to blame
  abbrev pub Blames : Blamed → Type 0
  Blames Nobody = IsBlame p (events_in p w.log) blames.Nobody
  Blames Beginning = IsBlame p (events_in p w.log) blames.Beginning
  Blames (Step id) = IsToBlame id
  Blames (Between span) = IsBlame p (events_in p w.log) (blames.Between span)

-- which step that the script leaves in the log is to blame
pub record IsBlaming (source script : List ℕ) (blamed : Blamed) : Type 0 where
  pub after : After source script
  pub is : Blames after.program (past_of after.program after.world) blamed
