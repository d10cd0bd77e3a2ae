-- What came of a command that a session refused.
use Rattle.std.proofs.Common.{◌≡◌, ℕ, ◌↔◌, length, Err, refl, ap}
use Rattle.std.specs.Prelude.{◌⊎◌, IsErrOf}
use Rattle.gr_program.specs.Programs.{Program}
use Rattle.gr_command.specs.declared.command.Command.{Command}
use Rattle.gr_session.specs.declared.TheConstants.{JOURNAL_LIMIT}
use Rattle.gr_session.specs.declared.journal.AskRefused.{AskRefused}
use Rattle.gr_session.specs.declared.journal.AskRefused.TheVariants.{JournalFull, NoMemory}
use Rattle.gr_session.specs.declared.journal.Receipt.{Receipt}
use Rattle.gr_session.specs.Keeps.{Seen}
use Rattle.gr_session.specs.Growing.{Grows}
use Rattle.gr_session.specs.Wants.{MayWantMemory}
use Rattle.gr_serve.specs.Replies.{answer_of}
use Rattle.gr_serve.specs.Stream.{of_session}

-- a session that refused a command
pub refused : (program : Program) (asker : ℕ) (command : Command) (old new : Seen) (why : AskRefused)
    → IsErrOf {T = Receipt} (Err why) JournalFull ↔ (length old.journal ≡ JOURNAL_LIMIT)
    → (IsErrOf {T = Receipt} (Err why) NoMemory → Grows (length old.journal) ⊎ MayWantMemory command) → new ≡ old
    → of_session program asker old.journal command (answer_of (Err why)) new.journal
refused program asker command old new JournalFull when wants same = (when.0 refl, ap (λ s. s.journal) same)
refused program asker command old new NoMemory when wants same =
    (λ full. let bad : IsErrOf {T = Receipt} (Err NoMemory) JournalFull = when.1 full in cc, ap (λ s. s.journal) same, wants refl)
