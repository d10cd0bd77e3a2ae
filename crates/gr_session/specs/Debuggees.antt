-- A program under the debugger, and the world that it stands for.
use Rattle.std.specs.Prelude.{◌≡◌, ℕ, nat_eq, if◌then◌else◌, List, Some, None}
use Rattle.std.specs.List.{list_any}
use Rattle.indexmap.specs.IndexMap.{IndexMap, get}
use Rattle.gr_program.specs.Programs.{Program}
use Rattle.gr_rollback.specs.Log.{Log}
use Rattle.gr_rollback.specs.Store.{Store}
use Rattle.gr_rollback.specs.Stores.{program_at}
use Rattle.gr_rollback.specs.Machines as rollback
use Rattle.gr_rollback.specs.Machines.{store_of, log_of}
use Rattle.gr_session.specs.declared.debuggee.Debuggee.{Debuggee}
use Rattle.gr_session.specs.Journal.{World, course_of}

abbrev pub store_in : Debuggee → Store
store_in d = store_of d.machine

abbrev pub log_in : Debuggee → Log
log_in d = log_of d.machine

-- the table has just these lines, each with its number
abbrev pub HasLines : {S : Type 0} → List ℕ → IndexMap ℕ ℕ S → Type 0
HasLines lines table = (n : ℕ) → get nat_eq table n ≡ (if list_any (nat_eq n) lines then Some n else None)

-- the program stands as in the world
pub record Stands (p : Program) (w : World p) (d : Debuggee) : Type 0 where
  pub machine : rollback.Stands p (course_of p w) d.machine
  pub lines : HasLines w.lines d.lines
  pub grant : d.grant ≡ w.grant

-- the program stands as in some world
pub record IsDebuggee (d : Debuggee) : Type 0 where
  pub world : World (program_at (store_in d))
  pub stands : Stands (program_at (store_in d)) world d
