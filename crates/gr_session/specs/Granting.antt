-- What the workers may do.
use Rattle.std.specs.Prelude.{◌≡◌, ℕ, ◌<◌, List, length, Option, Some, None, Result, Ok, Err}
use Rattle.gr_base.specs.declared.memory.NoMemory.{NoMemory}
use Rattle.gr_program.specs.Programs.{Program}
use Rattle.gr_rules.specs.Limits.{most_steps}
use Rattle.gr_rules.specs.States.{live}
use Rattle.gr_rules.specs.Turns.{IsReady}
use Rattle.gr_rollback.specs.Contents.{Contents}
use Rattle.gr_rollback.specs.LentCopy.{LentCopy}
use Rattle.gr_rollback.specs.StepLeasing.{IsAsLentIn, loan_of}
use Rattle.gr_rollback.specs.Leasing.{Contains, IsLentAt, SomeGoesAlone}
use Rattle.gr_session.specs.Journal.{World, past_of}

-- workers may take a step: the grant is above 0, and the log has room for it
pub record MayStep (p : Program) (w : World p) : Type 0 where
  pub granted : 0 < w.grant
  pub room : length w.log < most_steps

-- a worker's turn is due: it may take a step, the program runs, some goroutine is ready, and none has a next step that reaches no
-- further than itself
pub record IsTurnDue (p : Program) (w : World p) : Type 0 where
  pub may_step : MayStep p w
  pub runs : w.state.run ≡ live
  pub owner : List ℕ
  pub ready : IsReady w.state owner
  pub none_alone : ¬ SomeGoesAlone w.state

-- a goroutine can be lent: workers may take a step, and, while the program runs, some goroutine's next step reaches no further
-- than itself
pub record CanLend (p : Program) (w : World p) : Type 0 where
  pub may_step : MayStep p w
  pub some_alone : SomeGoesAlone w.state

-- a copy of the goroutine at the place among those that can be lent, with no step yet
pub record IsLoan (p : Program) (w : World p) (place : ℕ) (l : LentCopy) : Type 0 where
  pub can_lend : CanLend p w
  pub which : IsLentAt w.state place (Some (loan_of l).name)
  pub contents : Contents
  pub contains : Contains p (past_of p w) contents
  pub there : IsAsLentIn (loan_of l) p contents
  pub fresh : (loan_of l).steps ≡ 0

-- a goroutine is lent where one can be
abbrev pub IsLent : (p : Program) → World p → ℕ → Option LentCopy → Type 0
IsLent p w place (Some l) = IsLoan p w place l
IsLent p w place None = ¬ CanLend p w

-- a goroutine is lent where one can be, and memory is wanted only there
abbrev pub LeaseEnds : (p : Program) → World p → ℕ → Result (Option LentCopy) NoMemory → Type 0
LeaseEnds p w place (Ok o) = IsLent p w place o
LeaseEnds p w place (Err error) = CanLend p w
