-- What desks and workers have asked, and what that is to the journal.
use Rattle.std.specs.Prelude.{◌≡◌, ℕ, suc, ◌<◌, ◌==◌, if◌then◌else◌, Bool, true, List, [], ◌∷◌, ◌++◌, map, length, ⊤, All, Result, IfOk, IfErr}
use Rattle.std.specs.Borrow.{MutBor, Bor, Fml, follows_so}
use mathlib.Core.List.{IsPrefix}
use mathlib.Core.Option.{none}
use denote.RattleType.{RattleType}
use Rattle.gr_program.specs.Programs.{Program}
use Rattle.gr_program.specs.Views.{program_of}
use Rattle.gr_command.specs.Replies.{Said, said_of}
use Rattle.gr_session.specs.declared.TheConstants.{JOURNAL_LIMIT}
use Rattle.gr_session.specs.declared.journal.AskRefused.{AskRefused}
use Rattle.gr_session.specs.declared.journal.AskRefused.TheVariants.{JournalFull, NoMemory}
use Rattle.gr_session.specs.declared.journal.Entry.{Entry}
use Rattle.gr_session.specs.declared.journal.Receipt.{Receipt}
use Rattle.gr_session.specs.Entries.{EntersCommand, EntersBatch}
use Rattle.gr_session.specs.Keeps.{Seen}
use Rattle.gr_session.specs.Copies.{Loan}
use Rattle.gr_share.specs.declared.desk.Asked.{Asked as Wanted}
use Rattle.gr_share.specs.declared.desk.Asked.TheVariants.{Command, Batch}
use Rattle.gr_share.specs.declared.desk.Call.{Call}

-- an asker: its number, its calls, the oldest first, and whether it was told that the journal is full
pub record Asker : Type 0 where
  pub number : ℕ
  pub calls : List Call
  pub told_full : Bool

-- a worker: its seat, and its place among the workers
pub record Staff : Type 0 where
  pub seat : Asker
  pub place : ℕ

-- the places of an asker's entries, where the first entry of the list has this place
abbrev pub places : ℕ → ℕ → List Entry → List ℕ
places asker first [] = []
places asker first (e ∷ es) = if e.asker == asker then first ∷ places asker (suc first) es else places asker (suc first) es

-- the journal got this many steps of a goroutine as one entry, with this number and reply
pub record EntersSteps (p : Program) (asker : ℕ) (go : List ℕ) (steps : ℕ) (old new : List Entry) (number : ℕ) (reply : Said) : Type 0 where
  pub loan : Loan
  pub name : loan.name ≡ go
  pub count : loan.steps ≡ steps
  pub enters : EntersBatch p asker loan old new number reply

-- the journal got a command, or this many steps of a goroutine, as one entry, with this number and reply
abbrev pub EntersCall : Program → ℕ → Wanted → List Entry → List Entry → ℕ → Said → Type 0
EntersCall p asker (Command command) old new number reply = EntersCommand p asker command old new number reply
EntersCall p asker (Batch go steps) old new number reply = EntersSteps p asker go steps old new number reply

-- the call is an entry of the journal: it made a beginning of the journal longer by that entry, whose number and reply its
-- receipt has
pub record IsEntry (p : Program) (journal : List Entry) (asker : ℕ) (c : Call) : Type 0 where
  pub before : List Entry
  pub after : List Entry
  pub begins : IsPrefix after journal
  pub entered : EntersCall p asker c.asked before after c.receipt.number (said_of c.receipt.reply)

-- The asker's entries in the session's journal are its calls, each once, in their order. The journal is full where the asker was told
-- so.
pub record IsTied (session : Seen) (asker : Asker) : Type 0 where
  pub numbers : map (λ c. c.receipt.number) asker.calls ≡ places asker.number 1 session.journal
  pub entries : All (IsEntry (program_of session.program) session.journal asker.number) asker.calls
  pub full : asker.told_full ≡ true → length session.journal ≡ JOURNAL_LIMIT

-- the asker with this call more
abbrev pub with_call : Asker → Wanted → Receipt → Asker
with_call a wanted r = record a { calls = a.calls ++ record { asked = wanted; receipt = r } ∷ [] }

-- the asker has one call more, of what it asked and with this receipt. The receipt's number is larger than all before
abbrev pub GainsBy : Asker → Wanted → Receipt → Asker → Type 0
GainsBy old wanted r new = (new ≡ with_call old wanted r) × All (λ c. c.receipt.number < r.number) old.calls

-- the asker has one call more, of what it wanted
abbrev pub Gains : Asker → Wanted → Asker → Type 0
Gains old wanted new = (r : Receipt) × GainsBy old wanted r new

-- whether an asker was told that the journal is full, after a refusal
abbrev pub is_told : AskRefused → Bool → Bool
is_told JournalFull before = true
is_told NoMemory before = before

-- the asker after it was refused
abbrev pub after_refusal : AskRefused → Asker → Asker
after_refusal why a = record a { told_full = is_told why a.told_full }

-- the asker has one call more, and its receipt is shown; or it was refused
abbrev pub Asked : Asker → Wanted → Result (Bor Receipt) AskRefused → Asker → Type 0
Asked old wanted result new = IfOk result (λ r. GainsBy old wanted r.now new) × IfErr result (λ why. new ≡ after_refusal why old)

-- when the borrow ends, P holds of what was lent
abbrev pub EndsAs : (R : RattleType) → MutBor R.Denot → (R.Denot → Type 0) → Fml
EndsAs R s P = follows_so R R s.ghost_name none (λ _ _. ⊤) P
