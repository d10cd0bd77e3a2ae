-- What a worker finds to do, and does: a stepping stone of the proofs, of which no public clause speaks.
use Rattle.std.specs.Prelude.{◌≡◌, ℕ, ◌⊎◌, Bool, true, List, [], ◌∷◌, ◌++◌, length}
use Rattle.gr_program.specs.Programs.{Program}
use Rattle.gr_command.specs.declared.command.Command.TheVariants.{Turn}
use Rattle.gr_session.specs.declared.TheConstants.{JOURNAL_LIMIT}
use Rattle.gr_session.specs.declared.journal.AskRefused.TheVariants.{JournalFull, NoMemory}
use Rattle.gr_session.specs.declared.journal.Entry.{Entry}
use Rattle.gr_session.specs.Copies.{loan_of}
use Rattle.gr_session.specs.Entries.{InItsWorld}
use Rattle.gr_session.specs.Granting.{CanLend}
use Rattle.gr_session.specs.Growing.{Grows}
use Rattle.gr_share.specs.declared.desk.Asked.TheVariants.{Command}
use Rattle.gr_share.specs.declared.desk.Call.{Call}
use Rattle.gr_share.specs.declared.desk.Work.{Work}
use Rattle.gr_share.specs.declared.desk.Work.TheVariants as works
use Rattle.gr_share.specs.declared.locked.Found.{Found}
use Rattle.gr_share.specs.declared.locked.Found.TheVariants as found
use Rattle.gr_share.specs.declared.views.View.{View}
use Rattle.gr_share.specs.Calls.{Asker, Gains, after_refusal, is_told}
use Rattle.gr_share.specs.Ties.{asking, told, numbers_of, AllBelow}
use Rattle.gr_share.specs.Works.{Lends, IsWork, IsCut}

-- what was found for a worker at this place, whose seat is then new: a turn that it took, what the journal lends, or nothing
abbrev pub Finds : Program → List Entry → (place number : ℕ) → (old : View) → Found → (new : View) → Type 0
Finds p journal place number old (found.Turned call) new =
    (call.asked ≡ Command Turn) × (new ≡ asking number (old.calls ++ told number call ∷ []) old.told_full)
    × AllBelow call.receipt.number (numbers_of old.calls)
Finds p journal place number old (found.Lends lease limit) new =
    (new ≡ old) × ((loan_of lease.copy).program ≡ p) × Lends p journal place lease limit
Finds p journal place number old found.Closed new = new ≡ old
Finds p journal place number old (found.Refused why) new = new ≡ asking number old.calls (is_told why old.told_full)

abbrev pub IsClosed : Found → Type 0
IsClosed (found.Turned call) = ⊥
IsClosed (found.Lends lease limit) = ⊥
IsClosed found.Closed = Unit {0}
IsClosed (found.Refused why) = ⊥

-- a refusal has its reason: the journal is full; or a goroutine was to be lent, or the journal was to grow
abbrev pub HasReason : Program → List Entry → Found → Type 0
HasReason p journal (found.Turned call) = Unit {0}
HasReason p journal (found.Lends lease limit) = Unit {0}
HasReason p journal found.Closed = Unit {0}
HasReason p journal (found.Refused JournalFull) = length journal ≡ JOURNAL_LIMIT
HasReason p journal (found.Refused NoMemory) = InItsWorld p journal (CanLend p) ⊎ Grows (length journal)

-- a worker took a turn, or has nothing new
abbrev pub Looks : Asker → Work → Asker → Type 0
Looks old works.Turned new = Gains old (Command Turn) new
Looks old (works.Lends lease limit) new = new ≡ old
Looks old works.Closed new = new ≡ old
Looks old (works.Refused why) new = new ≡ after_refusal why old

-- what is lent to a worker at this place is of this program, and is what some journal of it lends there
abbrev pub LendsOf : Program → (place : ℕ) → Work → Type 0
LendsOf p place works.Turned = Unit {0}
LendsOf p place (works.Lends lease limit) =
    ((loan_of lease.copy).program ≡ p) × ((journal : List Entry) × Lends p journal place lease limit)
LendsOf p place works.Closed = Unit {0}
LendsOf p place (works.Refused why) = Unit {0}

-- The asker has one call more, of a worker at this place, or none. The worker may go on only where that call was not cut.
pub data WorksOnce (p : Program) (place : ℕ) (goes_on : Bool) (old new : Asker) : Type 0 where
  has_rested : new.number ≡ old.number → new.calls ≡ old.calls → WorksOnce p place goes_on old new
  has_called : (c : Call) → new.number ≡ old.number → new.calls ≡ old.calls ++ c ∷ [] → IsWork p place c.asked
      → (goes_on ≡ true → ¬ IsCut c) → WorksOnce p place goes_on old new
