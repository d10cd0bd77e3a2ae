-- What the entries of a journal mean, one after the other: commands and batches.
use Rattle.std.specs.Prelude.{◌≡◌, ℕ, ◌≤◌, Bool, List, [], ◌∷◌, ◌++◌, length, All}
use Rattle.gr_program.specs.Programs.{Program}
use Rattle.gr_command.specs.declared.command.Command.{Command}
use Rattle.gr_command.specs.Replies.{Said}
use Rattle.gr_rollback.specs.LocalRun.{LocalRun}
use Rattle.gr_rollback.specs.StepLeasing.{Loan, loan_kept}
use Rattle.gr_session.specs.declared.journal.Memory.{Memory}
use Rattle.gr_session.specs.declared.journal.Asked.{Asked}
use Rattle.gr_session.specs.declared.journal.Asked.TheVariants as asks
use Rattle.gr_session.specs.declared.journal.Entry.{Entry}
use Rattle.gr_session.specs.Journal.{World, first_world, Leads}
use Rattle.gr_session.specs.Batches.{Commits}

-- What comes of what was asked in a world, as far as memory allowed: the next world and the reply.
pub data Means (p : Program) (w : World p) : Asked → Memory → World p → Said → Type 0 where
  by_command : {command : Command} {memory : Memory} {u : World p} {reply : Said}
      → Leads p w command memory u reply → Means p w (asks.Command command) memory u reply
  by_batch : {batch : LocalRun} {stood : Bool} {memory : Memory} {u : World p} {reply : Said}
      → Commits p w (loan_kept batch) stood memory u reply → Means p w (asks.Batch batch stood) memory u reply

-- entries lead from one world to another, one after the other
pub data Lead (p : Program) : World p → List Entry → World p → Type 0 where
  no_entry : {w : World p} → Lead p w [] w
  one_more : {w u v : World p} {before : List Entry} {reply : Said} (e : Entry)
      → Lead p w before u → Means p u e.asked e.memory v reply → Lead p w (before ++ e ∷ []) v

-- the entry is of an asker from 1 to askers
abbrev pub IsAskedBy : ℕ → Entry → Type 0
IsAskedBy askers e = (1 ≤ e.asker) × (e.asker ≤ askers)

-- in the world to which a journal leads, this holds
pub record InItsWorld (p : Program) (journal : List Entry) (Holds : World p → Type 0) : Type 0 where
  pub world : World p
  pub means : Lead p (first_world p) journal world
  pub holds : Holds world

-- a legal journal: each entry has a meaning where it stands
pub record IsLegal (p : Program) (askers : ℕ) (journal : List Entry) : Type 0 where
  pub asked : All (IsAskedBy askers) journal
  pub world : World p
  pub means : Lead p (first_world p) journal world

-- the journal got what this asker asked as one entry, whose number and reply these are
pub record Enters (p : Program) (asker : ℕ) (asked : Asked) (old new : List Entry) (number : ℕ) (reply : Said) : Type 0 where
  pub memory : Memory
  pub entered : new ≡ old ++ record { asker = asker; asked = asked; memory = memory } ∷ []
  pub number_is : number ≡ length new
  pub before : World p
  pub stood : Lead p (first_world p) old before
  pub after : World p
  pub meant : Means p before asked memory after reply

-- the journal got a command of this asker as one entry
abbrev pub EntersCommand : Program → ℕ → Command → List Entry → List Entry → ℕ → Said → Type 0
EntersCommand p asker command old new number reply = Enters p asker (asks.Command command) old new number reply

-- the journal got the steps of a loan as one entry
pub record EntersBatch (p : Program) (asker : ℕ) (loan : Loan) (old new : List Entry) (number : ℕ) (reply : Said) : Type 0 where
  pub batch : LocalRun
  pub is_loan : loan_kept batch ≡ loan
  pub as_lent : Bool
  pub enters : Enters p asker (asks.Batch batch as_lent) old new number reply
