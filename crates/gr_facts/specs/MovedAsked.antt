-- The answers to questions about what steps of a log moved and printed.
use Rattle.std.specs.Prelude.{◌≡◌, ◌≤◌, ◌+◌, ◌⊎◌, ℕ, suc, List, [], ◌∷◌, length}
use Rattle.gr_base.specs.declared.names.StepId.{StepId}
use Rattle.gr_facts.specs.Asked.{IsStepAt}
use Rattle.gr_facts.specs.Moved.{Moved, moved}
use Rattle.gr_facts.specs.Views.{moved_in}
use Rattle.gr_facts.specs.declared.moving.Moved as answers
use Rattle.gr_laws.specs.Reached.{Logged}
use Rattle.gr_program.specs.Programs.{Program}
use Rattle.gr_rollback.specs.Backs.{IsNamed}
use Rattle.gr_rules.specs.States.{State}

-- the step at a place is told of
pub record MovesOf (p : Program) (log : List (Logged p)) (place : ℕ) (row : Moved) : Type 0 where
  pub before : State
  pub step : Logged p
  pub there : IsStepAt p log place before step
  pub is : row ≡ moved p before step

-- the steps from a place on are told of, one after the other
abbrev pub MoveAll : (p : Program) → List (Logged p) → ℕ → List answers.Moved → Type 0
MoveAll p log place [] = Unit {0}
MoveAll p log place (row ∷ rows) = MovesOf p log place (moved_in row) × MoveAll p log (suc place) rows

-- as many as are asked for from a place on are told of, or all up to the end of the log
pub record MovesFrom (p : Program) (log : List (Logged p)) (place most : ℕ) (rows : List answers.Moved) : Type 0 where
  pub all : MoveAll p log place rows
  pub few : length rows ≤ most
  pub end : (length rows ≡ most) ⊎ (length log ≤ place + length rows)

-- the step of a name is told of
pub record MovesOfNamed (p : Program) (log : List (Logged p)) (id : StepId) (row : Moved) : Type 0 where
  pub place : ℕ
  pub named : IsNamed p log id place
  pub moves : MovesOf p log place row

-- the one row of the step of a name, or none where there is no such step
abbrev pub MovesNamed : (p : Program) → List (Logged p) → StepId → List answers.Moved → Type 0
MovesNamed p log id [] = (place : ℕ) → ¬ IsNamed p log id place
MovesNamed p log id (row ∷ []) = MovesOfNamed p log id (moved_in row)
MovesNamed p log id _ = ⊥
