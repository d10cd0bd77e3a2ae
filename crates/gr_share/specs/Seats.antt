-- The seats of a shared session.
use Rattle.std.specs.Prelude.{◌≡◌, ℕ, ◌<◌, ◌≤◌, ◌⊎◌, List, Bool, length, slice_index_or}
use Rattle.atomic_table.specs.Seated.{TableId}
use Rattle.gr_session.specs.Keeps.{Seen}
use Rattle.gr_share.specs.Calls.{Asker, Staff}

-- a session that is to be shared, and the name of its table
pub record Named : Type 0 where
  pub table : TableId
  pub session : Seen

-- a shared session: how many askers there were before
pub record Sharing : Type 0 where
  pub first : ℕ

-- what lies under the lock: the session, how many workers there are, and whether they shall end
pub record Held : Type 0 where
  pub session : Seen
  pub workers : ℕ
  pub closed : Bool

-- the asker of this number is among the desks
abbrev pub IsDesk : ℕ → List Asker → Type 0
IsDesk number desks = (k : ℕ) × (k < length desks) × ((d : Asker) → (slice_index_or desks k d).number ≡ number)

-- the asker of this number is among the workers
abbrev pub IsWorker : ℕ → List Staff → Type 0
IsWorker number workers = (k : ℕ) × (k < length workers) × ((w : Staff) → (slice_index_or workers k w).seat.number ≡ number)

-- the askers after the first and up to the last are here
abbrev pub AreAll : ℕ → ℕ → List Asker → List Staff → Type 0
AreAll first last desks workers = (number : ℕ) → first < number → number ≤ last → IsDesk number desks ⊎ IsWorker number workers

-- an asker after the first and up to the last is not here
pub record LacksSeat (first last : ℕ) (desks : List Asker) (workers : List Staff) : Type 0 where
  pub number : ℕ
  pub after : first < number
  pub upto : number ≤ last
  pub no_desk : ¬ IsDesk number desks
  pub no_worker : ¬ IsWorker number workers
