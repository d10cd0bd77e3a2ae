-- A session beside workers, from its source to its last reply.
use Rattle.std.specs.Prelude.{◌≡◌, ℕ, suc, List, [], ◌∷◌, ◌⊎◌, All, map, Result, Ok, Err, OnOk, OnErr, IfErr}
use Rattle.gr_program.specs.Programs.{Program}
use Rattle.gr_program.specs.Views.{program_of}
use Rattle.gr_share.specs.Entries.{IsLegal}
use Rattle.gr_share.specs.Keeps.{Seen}
use Rattle.gr_share.specs.Calls.{Asker, Staff, IsTied}
use Rattle.gr_share.specs.Seats.{AreAll}
use Rattle.gr_share.specs.Works.{IsAtWork}
use Rattle.gr_serve.specs.declared.stream.ServeFault.{ServeFault}
use Rattle.gr_serve.specs.declared.stream.ServeFault.TheVariants.{Read, Write, Memory}
use Rattle.gr_serve.specs.declared.debug.DebugFault.{DebugFault}
use Rattle.gr_serve.specs.declared.debug.DebugFault.TheVariants.{Source, Open, Serve, Threads}
use Rattle.gr_lines.specs.Devices.{Change, NeverFails}
use Rattle.gr_serve.specs.Fault.{Blames}
use Rattle.gr_serve.specs.Debug.{Opened, Unopened, NothingDone, NeverServed}
use Rattle.gr_serve.specs.Clients.{StreamEnds}
use Rattle.rewind.specs.DeskStreams.{of_desk, Serves, Leaves}

-- the lines were served by a desk without calls before
pub record ServedBeside (reader writer : Change) : Type 0 where
  pub old : Asker
  pub fresh : old.calls ≡ []
  pub desk : Asker
  pub served : Serves old desk reader writer

-- such a stream was left
pub record LeftBeside (fault : ServeFault) (reader writer : Change) : Type 0 where
  pub old : Asker
  pub fresh : old.calls ≡ []
  pub desk : Asker
  pub left : Leaves fault old desk reader writer

-- The sharing of a session of this program has ended. The calls of each desk and worker are its entries in the legal journal, and
-- those of a worker are turns and steps that it was lent to take. There are no entries but theirs.
pub record Settled (program : Program) (desks : List Asker) : Type 0 where
  pub session : Seen
  pub program_is : program_of session.program ≡ program
  pub legal : IsLegal program session.askers session.journal
  pub workers : List Staff
  pub all : AreAll 0 session.askers desks workers
  pub tied : All (λ desk. IsTied session desk) desks
  pub workers_tied : All (λ worker. IsTied session worker.seat) workers
  pub at_work : All (IsAtWork program) workers

-- the lines were served by a desk of a session of this program, whose sharing has ended
pub record SettledBeside (program : Program) (reader writer : Change) : Type 0 where
  pub stream : ServedBeside reader writer
  pub settled : Settled program (stream.desk ∷ [])

-- such a stream was left, and the sharing has ended
pub record LeftSettled (program : Program) (fault : ServeFault) (reader writer : Change) : Type 0 where
  pub stream : LeftBeside fault reader writer
  pub settled : Settled program (stream.desk ∷ [])

-- What a fault leaves of such a stream, where there is a session. A thread that could not be started leaves nothing done.
abbrev pub StreamLeft : Program → DebugFault → (reader writer : Change) → Type 0
StreamLeft program Source reader writer = ⊥
StreamLeft program (Open error) reader writer = ⊥
StreamLeft program (Serve Read) reader writer = LeftSettled program Read reader writer
StreamLeft program (Serve Write) reader writer = LeftSettled program Write reader writer
StreamLeft program (Serve Memory) reader writer = NothingDone reader writer ⊎ LeftSettled program Memory reader writer
StreamLeft program Threads reader writer = NothingDone reader writer

-- its fault names the device that failed, if one did
abbrev pub BlamesStream : DebugFault → (reader writer : Change) → Type 0
BlamesStream Source reader writer = ⊥
BlamesStream (Open error) reader writer = ⊥
BlamesStream (Serve fault) reader writer = Blames fault reader writer
BlamesStream Threads reader writer = NeverFails reader × NeverFails writer

-- how a stream of a desk ended
abbrev pub Streamed : {A : Type 0} → (old new : Asker) → Result A ServeFault → (reader writer : Change) → Type 0
Streamed old new result reader writer = StreamEnds of_desk old new result reader writer

-- the device is as it was
abbrev pub IsStill : Change → Type 0
IsStill device = device.new ≡ device.old

-- what is told once the sharing has settled: the stream's fault, if it had one
abbrev pub EndedWith : {A E : Type 0} → Result E ServeFault → (settled : Type 0) → Result A DebugFault → Type 0
EndedWith (Ok v) settled result = settled × OnErr result ⊥
EndedWith (Err fault) settled result = settled × (OnOk result ⊥ × IfErr result (λ told. told ≡ Serve fault))

-- the numbers of workers among the askers
abbrev pub numbers_of : List Staff → List ℕ
numbers_of workers = map (λ w. w.seat.number) workers

-- the workers' numbers follow each other, from this one on
abbrev pub AreFrom : ℕ → List Staff → Type 0
AreFrom number [] = Unit {0}
AreFrom number (w ∷ ws) = (w.seat.number ≡ number) × AreFrom (suc number) ws

-- how a session beside workers ended
abbrev pub BesideEnds : {A : Type 0} → Program → Result A DebugFault → (reader writer : Change) → Type 0
BesideEnds program (Ok v) reader writer = SettledBeside program reader writer × (NeverFails reader × NeverFails writer)
BesideEnds program (Err fault) reader writer = StreamLeft program fault reader writer × BlamesStream fault reader writer

-- the lines were served beside workers, by a session of the source's program
pub record DebuggedBeside (source reader writer : Change) : Type 0 where
  pub program : Program
  pub opened : Opened source.old.bytes source.new.bytes program
  pub settled : SettledBeside program reader writer

-- what a fault leaves, where there is a session of the source's program
pub record LeftWith (fault : DebugFault) (source reader writer : Change) : Type 0 where
  pub program : Program
  pub opened : Opened source.old.bytes source.new.bytes program
  pub left : StreamLeft program fault reader writer

-- what a fault leaves: where there is no session, nothing was done
abbrev pub BesideLeft : DebugFault → (source reader writer : Change) → Type 0
BesideLeft Source source reader writer = NeverServed source reader writer
BesideLeft (Open error) source reader writer = Unopened error source.old.bytes source.new.bytes × NothingDone reader writer
BesideLeft (Serve Read) source reader writer = LeftWith (Serve Read) source reader writer
BesideLeft (Serve Write) source reader writer = LeftWith (Serve Write) source reader writer
BesideLeft (Serve Memory) source reader writer = NeverServed source reader writer ⊎ LeftWith (Serve Memory) source reader writer
BesideLeft Threads source reader writer = LeftWith Threads source reader writer
