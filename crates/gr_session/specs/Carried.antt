-- What is carried out on a program under the debugger.
use Rattle.std.specs.Prelude.{◌≡◌, ◌↔◌, Bool, IsTrue, length, Result, Ok, Err}
use Rattle.gr_base.specs.declared.memory.NoMemory.{NoMemory}
use Rattle.gr_program.specs.Programs.{Program}
use Rattle.gr_command.specs.declared.command.Command.{Command}
use Rattle.gr_command.specs.declared.refusal.Refusal.TheVariants as refusals
use Rattle.gr_command.specs.declared.reply.Reply.{Reply}
use Rattle.gr_command.specs.Replies.{Said, Committed, PartlyDone, BreaksDependence, No, Stale, said_of}
use Rattle.gr_depend.specs.Room.{CanTake}
use Rattle.gr_rollback.specs.LentCopy.{LentCopy}
use Rattle.gr_rollback.specs.StepLeasing.{Loan, IsAsLent, loan_kept, loan_of, records_led}
use Rattle.gr_rollback.specs.Stores.{SameListing, contents_at, program_at}
use Rattle.gr_rollback.specs.declared.refusal.BackRefused.{BackRefused}
use Rattle.gr_rollback.specs.declared.refusal.BackRefused.TheVariants as backs
use Rattle.gr_session.specs.declared.committing.Outcome.{Outcome}
use Rattle.gr_session.specs.declared.debuggee.Debuggee.{Debuggee}
use Rattle.gr_session.specs.declared.journal.Memory.{Memory}
use Rattle.gr_session.specs.declared.journal.Memory.TheVariants.{Enough, EnoughFor}
use Rattle.gr_session.specs.Journal.{World, Leads}
use Rattle.gr_session.specs.Batches.{Commits, MayJoin}
use Rattle.gr_session.specs.Committing.{MustBeStale, contents_after}
use Rattle.gr_session.specs.Debuggees.{Stands, log_in, store_in}

-- a command leads to the world in which the program then stands, with this reply
pub record LeadsTo (p : Program) (w : World p) (command : Command) (memory : Memory) (reply : Said) (d : Debuggee) : Type 0 where
  pub world : World p
  pub leads : Leads p w command memory world reply
  pub stands : Stands p world d

-- a command is carried out, or nothing has changed
abbrev pub Carries : (p : Program) → World p → Command → Result (Memory × Reply) NoMemory → Debuggee → Type 0
Carries p w command (Ok answer) d = LeadsTo p w command answer.0 (said_of answer.1) d
Carries p w command (Err error) d = Stands p w d

-- how a reply tells why steps were not taken back, done again, or put in another order, and how far memory allowed it
abbrev pub refusal_said : BackRefused → Memory × Said
refusal_said backs.NothingToUndo = (Enough, No refusals.NothingToUndo)
refusal_said backs.NotKept = (Enough, No refusals.NotKept)
refusal_said backs.NotTheSteps = (Enough, No refusals.NotTheSteps)
refusal_said (backs.BreaksDependence earlier later) = (Enough, BreaksDependence earlier later)
refusal_said backs.NothingToRedo = (Enough, No refusals.NothingToRedo)
refusal_said (backs.NoMemory ids) = (EnoughFor (length ids.items), PartlyDone ids.items)

abbrev pub Tells : Memory × Reply → BackRefused → Type 0
Tells answer why = (answer.0, said_of answer.1) ≡ refusal_said why

-- the steps of a loan lead to the world in which the program then stands, with this reply
pub record CommitsTo (p : Program) (w : World p) (loan : Loan) (stood : Bool) (memory : Memory) (reply : Said) (d : Debuggee) : Type 0 where
  pub world : World p
  pub commits : Commits p w loan stood memory world reply
  pub stands : Stands p world d

-- a batch that may join does, where the log has room for its records
abbrev pub JoinsWhereItMay : Debuggee → LentCopy → Said → Type 0
JoinsWhereItMay d l reply = (p : Program) (w : World p) → Stands p w d → MayJoin p w (contents_at (store_in d)) (loan_of l)
    → CanTake (log_in d) (records_led l) → reply ≡ Committed (loan_of l).steps

-- a batch comes to this outcome, with which the program then stands so
pub record BatchComesTo (old : Debuggee) (l : LentCopy) (outcome : Outcome) (new : Debuggee) : Type 0 where
  pub kept : loan_kept outcome.batch ≡ loan_of l
  pub commits : (p : Program) (w : World p) → Stands p w old
      → CommitsTo p w (loan_of l) outcome.stood outcome.memory (said_of outcome.reply) new
  pub as_lent : IsTrue outcome.stood ↔ IsAsLent l (store_in old)
  pub stale : (said_of outcome.reply ≡ Stale)
      ↔ MustBeStale (program_at (store_in old)) (contents_at (store_in old)) old.grant (loan_of l)
  pub joins : JoinsWhereItMay old l (said_of outcome.reply)
  pub contents : contents_at (store_in new) ≡ contents_after (said_of outcome.reply) l (contents_at (store_in old))
  pub listing : SameListing (store_in old) (store_in new)
