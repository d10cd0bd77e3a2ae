-- The answer to a question about the step of a name: some steps of the log, by its place; or that there is none.
use Rattle.std.specs.Prelude.{◌≡◌, ℕ, List, Option, Some, None, Vec, Result, Ok, Err}
use Rattle.std.proofs.Common.{Global}
use Rattle.gr_base.specs.declared.memory.NoMemory.{NoMemory}
use Rattle.gr_base.specs.declared.names.StepId.{StepId}
use Rattle.gr_program.specs.Programs.{Program}
use Rattle.gr_laws.specs.Reached.{Logged}
use Rattle.gr_rollback.specs.Pasts.{ids_of}
use Rattle.gr_rollback.specs.Backs.{IsNamed}

-- a step of this name is kept
abbrev pub IsKept : (p : Program) → List (Logged p) → StepId → Type 0
IsKept p log id = (place : ℕ) × IsNamed p log id place

-- the names of these steps
pub record TellsSteps (p : Program) (log : List (Logged p)) (id : StepId) (steps : ℕ → List (Logged p)) (ids : List StepId) : Type 0 where
  pub place : ℕ
  pub named : IsNamed p log id place
  pub names : ids ≡ ids_of p (steps place)

abbrev pub Tells : (p : Program) → List (Logged p) → StepId → (ℕ → List (Logged p)) → Option (Vec StepId Global) → Type 0
Tells p log id steps (Some ids) = TellsSteps p log id steps ids.items
Tells p log id steps None = (place : ℕ) → ¬ IsNamed p log id place

-- the answer, or that there was no memory for the names of a step that is kept
abbrev pub IsTold : (p : Program) → List (Logged p) → StepId → (ℕ → List (Logged p)) → Result (Option (Vec StepId Global)) NoMemory → Type 0
IsTold p log id steps (Ok told) = Tells p log id steps told
IsTold p log id steps (Err e) = IsKept p log id
