-- The answers to questions about a step of a log.
use Rattle.std.specs.Prelude.{◌≡◌, ◌≤◌, ℕ, List, [], ◌∷◌, ◌++◌, length, Option, Some, None}
use Rattle.gr_base.specs.declared.names.StepId.{StepId}
use Rattle.gr_causal.specs.Machine.{IsLog}
use Rattle.gr_program.specs.Programs.{Program}
use Rattle.gr_rules.specs.States.{State}
use Rattle.gr_rules.specs.Steps.{machine}
use Rattle.gr_laws.specs.Reached.{Logged, IsRun}
use Rattle.gr_rollback.specs.Backs.{IsNamed}
use Rattle.gr_facts.specs.declared.telling.Facts as answers
use Rattle.gr_facts.specs.Facts.{Facts, facts}
use Rattle.gr_facts.specs.Views.{facts_in}

-- the step at a place of the log of a run, with the steps before it, the state to which they led, and the state to which it leads
pub record IsStepAt (p : Program) (log : List (Logged p)) (place : ℕ) (s : State) (l : Logged p) : Type 0 where
  pub front : List (Logged p)
  pub behind : List (Logged p)
  pub split : log ≡ front ++ l ∷ behind
  pub count : length front ≡ place
  pub leads : IsRun p front s
  pub after : State
  pub step : IsLog (machine p) s (l ∷ []) after

-- the step at a place is told of
pub record TellsOf (p : Program) (log : List (Logged p)) (place : ℕ) (told : Facts) : Type 0 where
  pub before : State
  pub step : Logged p
  pub there : IsStepAt p log place before step
  pub facts : told ≡ facts p there.front before step

-- the step at a place is told of, or there is none
abbrev pub Tells : (p : Program) → List (Logged p) → ℕ → Option answers.Facts → Type 0
Tells p log place (Some a) = TellsOf p log place (facts_in a)
Tells p log place None = length log ≤ place

-- the step of a name is told of, or there is none
pub record TellsOfNamed (p : Program) (log : List (Logged p)) (id : StepId) (told : Facts) : Type 0 where
  pub place : ℕ
  pub named : IsNamed p log id place
  pub tells : TellsOf p log place told

abbrev pub TellsNamed : (p : Program) → List (Logged p) → StepId → Option answers.Facts → Type 0
TellsNamed p log id (Some a) = TellsOfNamed p log id (facts_in a)
TellsNamed p log id None = (place : ℕ) → ¬ IsNamed p log id place
