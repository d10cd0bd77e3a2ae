-- What a session makes of a batch, by what its store contains.
use Rattle.std.specs.Prelude.{◌≡◌, ℕ, ◌<◌, ◌↔◌, ◌⊎◌, ◌∷◌, [], ◌++◌, length, Bool, false, nat_eq, if◌then◌else◌, IsTrue, Result, IfOk, OnErr, IsErrOf}
use Rattle.gr_program.specs.Programs.{Program}
use Rattle.gr_program.specs.Views.{program_of}
use Rattle.gr_command.specs.Replies.{Said, Committed, Stale, said_of}
use Rattle.gr_depend.specs.Room.{CanTake}
use Rattle.gr_rollback.specs.Contents.{Contents}
use Rattle.gr_rollback.specs.LentCopy.{LentCopy}
use Rattle.gr_rollback.specs.Leasing.{led_on}
use Rattle.gr_rollback.specs.StepLeasing.{Loan, IsAsLentIn, loan_of, records_led}
use Rattle.gr_rollback.specs.Stores.{contents_at}
use Rattle.gr_session.specs.declared.journal.Asked.TheVariants as asks
use Rattle.gr_session.specs.declared.TheConstants.{JOURNAL_LIMIT}
use Rattle.gr_session.specs.declared.journal.AskRefused.{AskRefused}
use Rattle.gr_session.specs.declared.journal.AskRefused.TheVariants.{JournalFull, NoMemory}
use Rattle.gr_session.specs.declared.journal.Entry.{Entry}
use Rattle.gr_session.specs.declared.journal.Receipt.{Receipt}
use Rattle.gr_session.specs.Batches.{MayJoin}
use Rattle.gr_session.specs.Entries.{EntersBatch, InItsWorld}
use Rattle.gr_session.specs.Growing.{Grows}
use Rattle.gr_session.specs.Keeps.{Seen}

-- whether the entry notes of a batch that its goroutine was as it was lent
abbrev pub notes_as_lent : Entry → Bool
notes_as_lent e = elim e.asked [ asks.Command c ↦ false | asks.Batch batch as_lent ↦ as_lent ]

-- the goroutine of a loan is not as it was lent, or its steps are more than the workers may take
abbrev pub MustBeStale : Program → Contents → ℕ → Loan → Type 0
MustBeStale p s grant b = (¬ IsAsLentIn b p s) ⊎ (grant < b.steps)

-- what the store contains after this reply to a batch: its goroutine has gone on where all steps were committed
abbrev pub contents_after : Said → LentCopy → Contents → Contents
contents_after (Committed steps) l s = if nat_eq steps (loan_of l).steps then led_on l s else s
contents_after reply l s = s

-- A session replies to a batch, and it is stale just where it must be. A batch that may join does where the log has room for its
-- records.
pub record Decides (old : Seen) (l : LentCopy) (reply : Said) (new : Seen) : Type 0 where
  pub stale : InItsWorld (program_of old.program) old.journal
      (λ w. (reply ≡ Stale) ↔ MustBeStale (program_of old.program) (contents_at old.store) w.grant (loan_of l))
  pub joins : InItsWorld (program_of old.program) old.journal
      (λ w. MayJoin (program_of old.program) w (contents_at old.store) (loan_of l) → CanTake old.log (records_led l)
      → reply ≡ Committed (loan_of l).steps)
  pub noted : (e : Entry) → new.journal ≡ old.journal ++ e ∷ []
      → IsTrue (notes_as_lent e) ↔ IsAsLentIn (loan_of l) (program_of old.program) (contents_at old.store)
  pub contents : contents_at new.store ≡ contents_after reply l (contents_at old.store)

-- a session answers a batch of this asker
pub record AnswersBatch (old : Seen) (asker : ℕ) (l : LentCopy) (result : Result Receipt AskRefused) (new : Seen) : Type 0 where
  pub entry : IfOk result
      (λ receipt. EntersBatch (program_of old.program) asker (loan_of l) old.journal new.journal receipt.number (said_of receipt.reply))
  pub decided : IfOk result (λ receipt. Decides old l (said_of receipt.reply) new)
  pub full : IsErrOf result JournalFull ↔ (length old.journal ≡ JOURNAL_LIMIT)
  pub memory : IsErrOf result NoMemory → Grows (length old.journal)
  pub err : OnErr result (new ≡ old)
  pub others : (new.program ≡ old.program) × (new.askers ≡ old.askers)
