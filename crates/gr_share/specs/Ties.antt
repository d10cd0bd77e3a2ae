-- The rule that ties the calls of each asker to the lines of the journal, by one word.
use Rattle.std.specs.Prelude.{◌≡◌, ◌≢◌, ℕ, zero, suc, ◌+◌, ◌<◌, ◌≤◌, ◌==◌, Bool, true, false, if◌then◌else◌, List, [], ◌∷◌, ◌++◌, map, length, slice_index, Some, None}
use mathlib.Core.Option.{Option, none, some}
use mathlib.Core.List.{IsPrefix}
use lib.ListN.{get_elem?}
use Rattle.atomic_table.specs.Seated.{TableId}
use Rattle.atomic_table.specs.Table.{State}
use Rattle.gr_program.specs.Programs.{Program, ProgramIs}
use Rattle.gr_session.specs.declared.TheConstants.{JOURNAL_LIMIT}
use Rattle.gr_session.specs.declared.journal.Entry.{Entry}
use Rattle.gr_share.specs.declared.views.View.{View}
use Rattle.gr_share.specs.declared.desk.Call.{Call}
use Rattle.gr_share.specs.Calls.{IsEntry, places}
use Rattle.gr_share.specs.Lines.{Line}

-- the name of no table
abbrev pub no_table : TableId
no_table = record { words = 0; slots = 0; views_name = 0; atom = 0; block = 0; offset = 0; slot_names = [] }

-- a program without functions
abbrev pub no_program : Program
no_program = ProgramIs [] 0

-- entries that are older than the sharing, where the first has this number
abbrev pub older_lines : ℕ → List Entry → List Line
older_lines first [] = []
older_lines first (e ∷ es) = record { asker = e.asker; number = first; call = None } ∷ older_lines (suc first) es

-- the lines of one asker
abbrev pub asked : ℕ → List Line → List Line
asked asker [] = []
asked asker (x ∷ xs) = if x.asker == asker then x ∷ asked asker xs else asked asker xs

-- all but the last
abbrev pub front : List Line → List Line
front [] = []
front (x ∷ []) = []
front (x ∷ y ∷ ys) = x ∷ front (y ∷ ys)

-- the lines whose askers have them among their calls: all, but for the last while the word names its asker
abbrev pub settled : ℕ → List Line → List Line
settled zero log = log
settled (suc word) log = front log

-- no line is of a later asker
abbrev pub AskedUpTo : ℕ → List Line → Type 0
AskedUpTo askers [] = Unit {0}
AskedUpTo askers (x ∷ xs) = (x.asker ≤ askers) × AskedUpTo askers xs

-- the session's seat, while the word is 0
abbrev pub keeping : List Line → ℕ → View
keeping log askers = record {
  keeps = true;
  log = log;
  askers = askers;
  rests = true;
  asker = 0;
  calls = [];
  told_full = false;
  noted = 0;
  claims = [];
  noted_full = false;
  seen = [];
  taken = [];
}

-- the session's seat after an entry
abbrev pub entering : List Line → ℕ → View
entering log askers = record (keeping log askers) { rests = false }

-- an asker's seat, with its calls, and whether it was told that the journal is full
abbrev pub asking : ℕ → List Line → Bool → View
asking asker calls told_full = record {
  keeps = false;
  log = [];
  askers = 0;
  rests = false;
  asker = asker;
  calls = calls;
  told_full = told_full;
  noted = 0;
  claims = [];
  noted_full = false;
  seen = [];
  taken = [];
}

abbrev pub nobody : View
nobody = asking 0 [] false

abbrev pub claim : ℕ → List Line → Bool → View
claim asker calls told_full = record nobody { noted = asker; claims = calls; noted_full = told_full }

abbrev pub sight : List Line → View
sight log = record nobody { seen = log }

abbrev pub sight_taken : List Line → View
sight_taken log = record nobody { taken = log }

-- a seat that took in a note
abbrev pub hearing : View → View → View
hearing v w = record v { noted = w.noted; claims = w.claims; noted_full = w.noted_full; seen = w.seen; taken = w.taken }

-- the session's seat after a further asker
abbrev pub with_asker : View → View
with_asker v = keeping v.log (v.askers + 1)

abbrev pub newest : View → View
newest v = asking (v.askers + 1) [] false

-- the journal is full
abbrev pub IsFull : List Line → Type 0
IsFull log = JOURNAL_LIMIT ≤ length log

-- What holds of one view. There is one seat of the session, and one of each asker. The word is 0 while the session's seat rests.
-- Notes are beginnings of what they tell. Who was told that the journal is full was told the truth.
pub record Fits (word seat : ℕ) (home : ℕ → ℕ) (log : List Line) (askers by : ℕ) (v : View) : Type 0 where
  pub keeper : v.keeps ≡ true → (by ≡ seat) × (v.log ≡ log) × (v.askers ≡ askers) × (v.rests ≡ true → word ≡ 0)
  pub asker : 0 < v.asker → (by ≡ home v.asker) × (v.asker ≤ askers) × (v.calls ≡ asked v.asker (settled word log))
  pub noted : v.noted ≤ askers
  pub claims : IsPrefix v.claims (asked v.noted log)
  pub seen : IsPrefix v.seen log
  pub taken : IsPrefix v.taken (settled word log)
  pub full : v.told_full ≡ true → IsFull log
  pub noted_full : v.noted_full ≡ true → IsFull log

-- the rule
pub record Kept (s : State Call View) : Type 0 where
  pub wide : length s.words ≡ 1
  pub seat : ℕ
  pub home : ℕ → ℕ
  pub log : List Line
  pub askers : ℕ
  pub known : AskedUpTo askers log
  pub fits : (by : ℕ) (v : View) → get_elem? s.views by ≡ some v → Fits (slice_index s.words 0) seat home log askers by v

-- A note of an asker's calls is of one of the askers, and its calls are lines of the journal. The journal is full where the asker was
-- told so.
pub record Compared (v w : View) : Type 0 where
  pub after : w ≡ keeping v.log v.askers
  pub known : v.noted ≤ v.askers
  pub begins : IsPrefix v.claims (asked v.noted v.log)
  pub full : v.noted_full ≡ true → IsFull v.log

-- a call as a line
abbrev pub told : ℕ → Call → Line
told asker call = record { asker = asker; number = call.receipt.number; call = Some call }

abbrev pub longer : View → ℕ → Option Call → View
longer v asker none = v
longer v asker (some call) = entering (v.log ++ told asker call ∷ []) v.askers

abbrev pub called : View → ℕ → Option Call → View
called v asker none = v
called v asker (some call) = asking v.asker (v.calls ++ told asker call ∷ []) v.told_full

-- the journal has one line more, of the asker that the word now names, if the word was as expected; else nothing changed
abbrev pub Entered : ℕ → ℕ → Option Call → View → ℕ → View → Type 0
Entered expected asker said v found w = (found ≡ expected → w ≡ longer v asker said) × (found ≢ expected → w ≡ v)

-- the session's seat rests, if the word is 0; else nothing changed
abbrev pub Rested : View → ℕ → View → Type 0
Rested v found w = (found ≡ 0 → w ≡ keeping v.log v.askers) × (found ≢ 0 → w ≡ v)

-- the asker has one call more, if the word named it; else nothing changed
abbrev pub Taken : ℕ → Option Call → View → ℕ → View → Type 0
Taken asker said v found w = (found ≡ asker → w ≡ called v asker said) × (found ≢ asker → w ≡ v)

-- the asker's lines, where all lines are among the calls of their askers, are a beginning of its calls
abbrev pub Settled : View → View → Type 0
Settled v w = (w ≡ asking v.asker v.calls v.told_full) × IsPrefix (asked v.asker v.taken) v.calls

-- the asker notes that the journal is full
abbrev pub Noted : View → View → Type 0
Noted v w = w ≡ asking v.asker v.calls true

abbrev pub calls_of : ℕ → List Call → List Line
calls_of asker calls = map (told asker) calls

-- each number is smaller
abbrev pub AllBelow : ℕ → List ℕ → Type 0
AllBelow number [] = Unit {0}
AllBelow number (n ∷ ns) = (n < number) × AllBelow number ns

-- the numbers of lines
abbrev pub numbers_of : List Line → List ℕ
numbers_of log = map (λ x. x.number) log

-- the call of which the line came, if it came of one, is an entry of the journal
abbrev pub IsTold : Program → List Entry → Line → Type 0
IsTold p journal x = (c : Call) → x.call ≡ Some c → IsEntry p journal x.asker c

abbrev pub AllTold : Program → List Entry → List Line → Type 0
AllTold p journal [] = Unit {0}
AllTold p journal (x ∷ xs) = IsTold p journal x × AllTold p journal xs

-- the lines are those of the journal
pub record Tells (p : Program) (journal : List Entry) (log : List Line) : Type 0 where
  pub numbers : (asker : ℕ) → numbers_of (asked asker log) ≡ places asker 1 journal
  pub as_long : length log ≡ length journal
  pub entries : AllTold p journal log
