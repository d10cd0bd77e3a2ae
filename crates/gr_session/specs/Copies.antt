-- A goroutine that is lent, and the steps that it took by itself on the copy.
use Rattle.std.specs.Prelude.{ℕ, ◌<◌, ◌≤◌, min, max}
use Rattle.gr_rollback.specs.LentCopy.{LentCopy}
use Rattle.gr_rollback.specs.StepLeasing.{SameLoan, CanLeadOn}
pub use Rattle.gr_rollback.specs.StepLeasing.{Loan, loan_of}
use Rattle.gr_session.specs.declared.TheConstants.{BATCH_LIMIT}

-- a copy, and the place at which it was lent
pub record Lent : Type 0 where
  pub copy : LentCopy
  pub place : ℕ

-- how many steps are taken at a limit: at least one, and at most those of the longest batch
abbrev pub most_at : ℕ → ℕ
most_at limit = max (min limit BATCH_LIMIT) 1

-- the goroutine took its steps, at least one, up to the limit, or until none of its own was next
pub record IsBatch (limit : ℕ) (lent : LentCopy) (led : LentCopy) : Type 0 where
  pub loan : SameLoan lent led
  pub some : 1 ≤ (loan_of led).steps
  pub few : (loan_of led).steps ≤ most_at limit
  pub ends : (loan_of led).steps < most_at limit → ¬ CanLeadOn led
