-- Steps of a log by their names.
use Rattle.std.specs.Prelude.{◌≡◌, ◌≤◌, ◌+◌, ℕ, List, slice_get, Some}
use Rattle.gr_base.specs.declared.names.StepId.{StepId}
use Rattle.gr_record.specs.declared.record.Record.{Record}

-- the step at the place has this name
pub record IsNamed (rs : List Record) (place : ℕ) (id : StepId) : Type 0 where
  pub step : Record
  pub there : slice_get rs place ≡ Some step
  pub named : step.id ≡ id

-- no step from this place on is of the goroutine
abbrev pub NoneFrom : List Record → ℕ → List ℕ → Type 0
NoneFrom rs place go = (i : ℕ) (r : Record) → place ≤ i → slice_get rs i ≡ Some r → r.id.go ≡ go → ⊥

-- the step of this name is the last of the goroutine
pub record IsLastOf (rs : List Record) (go : List ℕ) (id : StepId) : Type 0 where
  pub place : ℕ
  pub named : IsNamed rs place id
  pub own : id.go ≡ go
  pub last : NoneFrom rs (place + 1) go
