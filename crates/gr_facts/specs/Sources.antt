-- What the sources of a step are to it: steps on which it depends directly.
use Rattle.std.specs.Prelude.{◌≡◌, ◌<◌, ℕ, true, false, List, slice_get, Some}
use Rattle.gr_base.specs.declared.names.StepId.{StepId}
use Rattle.gr_base.specs.declared.objects.Object.{Object}
use Rattle.gr_base.specs.declared.objects.Object.TheVariants.{Run}
use Rattle.gr_causal.specs.Sequences.{In}
use Rattle.gr_program.specs.Programs.{Program}
use Rattle.gr_rules.specs.States.{State}
use Rattle.gr_rules.specs.Steps.{machine}
use Rattle.gr_laws.specs.Dependence.{clash}
use Rattle.gr_laws.specs.Reached.{Logged}
use Rattle.gr_record.specs.Pairs.{id_of}
use Rattle.gr_facts.specs.declared.sources.Source.{Source}
use Rattle.gr_facts.specs.Asked.{IsStepAt}
use Rattle.gr_facts.specs.Facts.{facts, last_writer}

-- the step of this name stands before the place, and conflicts with the step
pub record IsCause (p : Program) (log : List (Logged p)) (place : ℕ) (l : Logged p) (id : StepId) : Type 0 where
  pub at : ℕ
  pub cause : Logged p
  pub before : at < place
  pub there : slice_get log at ≡ Some cause
  pub named : id_of p cause ≡ id
  pub conflicts : clash p cause l ≡ true

-- each step that is told as a source is one
abbrev pub Causes : (p : Program) (log : List (Logged p)) (place : ℕ) (s : State) (l : Logged p) → IsStepAt p log place s l → Type 0
Causes p log place s l at = (x : Source) (id : StepId) → In x (facts p at.front s l).sources → x.step ≡ Some id → IsCause p log place l id

-- of each object but `Run` that the step wrote, the last writer is told
abbrev pub TellWritten : (p : Program) (log : List (Logged p)) (place : ℕ) (s : State) (l : Logged p) → IsStepAt p log place s l → Type 0
TellWritten p log place s l at = (o : Object) → In o l.note.writes → ¬ (o ≡ Run)
    → In (record { object = o; wrote = true; step = last_writer p at.front o }) (facts p at.front s l).sources

-- and of each that the step touched and did not write
abbrev pub TellRead : (p : Program) (log : List (Logged p)) (place : ℕ) (s : State) (l : Logged p) → IsStepAt p log place s l → Type 0
TellRead p log place s l at = (o : Object) → In o ((machine p).touches l.note) → ¬ In o l.note.writes → ¬ (o ≡ Run)
    → In (record { object = o; wrote = false; step = last_writer p at.front o }) (facts p at.front s l).sources
