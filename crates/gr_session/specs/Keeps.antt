-- What a session keeps: a legal journal, and a program that stands where it means.
use Rattle.std.specs.Prelude.{ℕ, ◌≤◌, List, length, All}
use Rattle.gr_program.specs.declared.program.Program.{Program}
use Rattle.gr_rollback.specs.Log.{Log}
use Rattle.gr_rollback.specs.Store.{Store}
use Rattle.gr_rollback.specs.Stores.{program_at}
use Rattle.gr_session.specs.declared.TheConstants.{JOURNAL_LIMIT, ASKER_LIMIT}
use Rattle.gr_session.specs.declared.debuggee.Debuggee.{Debuggee}
use Rattle.gr_session.specs.declared.journal.Entry.{Entry}
use Rattle.gr_session.specs.Journal.{World, first_world}
use Rattle.gr_session.specs.Entries.{Lead, IsAskedBy}
use Rattle.gr_session.specs.Debuggees.{Stands, store_in}

-- what a session is to those who use it: the program, the store in which it runs, the log of its steps, the journal, and how many
-- askers there are
pub record Seen : Type 0 where
  pub program : Program
  pub store : Store
  pub log : Log
  pub journal : List Entry
  pub askers : ℕ

-- the program that runs
abbrev pub program_held : Store → Program
program_held s = s.listing.program.value

-- what is stored beside the journal is what the journal means
pub record Keeps (d : Debuggee) (journal : List Entry) (askers : ℕ) : Type 0 where
  pub asked : All (IsAskedBy askers) journal
  pub world : World (program_at (store_in d))
  pub means : Lead (program_at (store_in d)) (first_world (program_at (store_in d))) journal world
  pub stands : Stands (program_at (store_in d)) world d
  pub short : length journal ≤ JOURNAL_LIMIT
  pub few : askers ≤ ASKER_LIMIT
