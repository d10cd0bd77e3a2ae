-- A session from its source to its last reply.
use Rattle.std.specs.Prelude.{◌≡◌, ℕ, ◌+◌, ◌<◌, ◌≤◌, List, [], length, Option, IfSome, ◌⊎◌}
use Rattle.std.specs.Io.KnownBytes.{Keeps, Consumes, IsAtEnd}
use Rattle.gr_scan.specs.declared.scan.TheConstants.{TEXT_LIMIT}
use Rattle.gr_program.specs.Programs.{Program}
use Rattle.gr_session.specs.declared.journal.Entry.{Entry}
use Rattle.gr_session.specs.declared.open.OpenError.{OpenError}
use Rattle.gr_session.specs.Entries.{IsLegal}
use Rattle.gr_session.specs.Source.{IsProgramOf}
use Rattle.gr_session.specs.Refused.{SaysWhy}
use Rattle.gr_serve.specs.declared.stream.ServeFault.{ServeFault}
use Rattle.gr_serve.specs.declared.stream.ServeFault.TheVariants.{Read, Write, Memory}
use Rattle.gr_serve.specs.declared.debug.TheConstants.{BLOCK}
use Rattle.gr_serve.specs.declared.debug.DebugFault.{DebugFault}
use Rattle.gr_serve.specs.declared.debug.DebugFault.TheVariants.{Source, Open, Serve, Threads}
use Rattle.gr_serve.specs.Stream.{of_session}
use Rattle.gr_serve.specs.Served.{ServedAll}
use Rattle.gr_lines.specs.Devices.{Change, Fails, NeverFails}
use Rattle.gr_lines.specs.declared.counted.LineError.{LineError}
use Rattle.gr_lines.specs.declared.counted.LineError.TheVariants as lines
use Rattle.gr_serve.specs.Fault.{Left, Blames}

-- what a fault of reading a source is for a session of it
abbrev pub reading_fault : LineError → DebugFault
reading_fault lines.Read = Source
reading_fault lines.Memory = Serve Memory

-- these bytes of a source were read: all, or more than a text may have, and at most a block more
pub record SourceRead (had has : Option (List ℕ)) (text : List ℕ) : Type 0 where
  pub taken : Consumes had has text
  pub enough : IsAtEnd has ⊎ (TEXT_LIMIT < length text)
  pub bound : length text ≤ TEXT_LIMIT + BLOCK

-- of a source no more was read than a text may have, and a block
pub record ReadInPart (had has : Option (List ℕ)) : Type 0 where
  pub text : List ℕ
  pub taken : Consumes had has text
  pub bound : length text ≤ TEXT_LIMIT + BLOCK

-- the source gave a text, all that there was, whose program this is
pub record Opened (had has : Option (List ℕ)) (program : Program) : Type 0 where
  pub text : List ℕ
  pub taken : Consumes had has text
  pub bound : length text ≤ TEXT_LIMIT + BLOCK
  pub whole : IfSome had (λ all. all ≡ text)
  pub is_program : IsProgramOf text program

-- the source gave a text that has a program
abbrev pub Accepted : Change → Type 0
Accepted source = (program : Program) × Opened source.old.bytes source.new.bytes program

-- the source was not opened, and the error says why; of a source that is too long at most a block too much was read
pub record Unopened (error : OpenError) (had has : Option (List ℕ)) : Type 0 where
  pub text : List ℕ
  pub taken : Consumes had has text
  pub bound : length text ≤ TEXT_LIMIT + BLOCK
  pub refused : SaysWhy error text
  pub whole : IfSome had (λ all. SaysWhy error all)

-- the lines were served by a session of the source's program, from an empty journal to a legal one; its one asker's number is 1
pub record Debugged (source reader writer : Change) : Type 0 where
  pub program : Program
  pub opened : Opened source.old.bytes source.new.bytes program
  pub journal : List Entry
  pub served : ServedAll (of_session program 1) reader.old.bytes reader.new.bytes [] journal writer.old.bytes writer.new.bytes
  pub legal : IsLegal program 1 journal

-- such a stream was left
pub record Stopped (fault : ServeFault) (source reader writer : Change) : Type 0 where
  pub program : Program
  pub opened : Opened source.old.bytes source.new.bytes program
  pub journal : List Entry
  pub left : Left fault (of_session program 1) reader.old.bytes reader.new.bytes [] journal writer.old.bytes writer.new.bytes (Fails reader) (Fails writer)
  pub legal : IsLegal program 1 journal

-- no command was read, and nothing was written
abbrev pub NothingDone : Change → Change → Type 0
NothingDone reader writer = Keeps reader.old.bytes reader.new.bytes × Keeps writer.old.bytes writer.new.bytes

-- the fault is `Source` exactly where the source failed
abbrev pub BlamesSource : DebugFault → (source : Change) → Type 0
BlamesSource Source source = Fails source
BlamesSource (Open error) source = NeverFails source
BlamesSource (Serve fault) source = NeverFails source
BlamesSource Threads source = NeverFails source

-- the fault names the device that failed, if one did
abbrev pub BlamesDevice : DebugFault → (source reader writer : Change) → Type 0
BlamesDevice Source source reader writer = Fails source × (NeverFails reader × NeverFails writer)
BlamesDevice (Open error) source reader writer = NeverFails source × (NeverFails reader × NeverFails writer)
BlamesDevice (Serve fault) source reader writer = NeverFails source × Blames fault reader writer
BlamesDevice Threads source reader writer = NeverFails source × (NeverFails reader × NeverFails writer)

-- why there is no session: the source failed, it was not opened, or the program is out of memory
abbrev pub SourceLeft : DebugFault → Change → Type 0
SourceLeft Source source = ReadInPart source.old.bytes source.new.bytes
SourceLeft (Open error) source = Unopened error source.old.bytes source.new.bytes
SourceLeft (Serve Read) source = ⊥
SourceLeft (Serve Write) source = ⊥
SourceLeft (Serve Memory) source = ReadInPart source.old.bytes source.new.bytes
SourceLeft Threads source = ⊥

-- the source was read in part, no command was read, and nothing was written
abbrev pub NeverServed : (source reader writer : Change) → Type 0
NeverServed source reader writer = ReadInPart source.old.bytes source.new.bytes × NothingDone reader writer

-- what a fault leaves: where there is no session, nothing was done; else the stream was left
abbrev pub DebugLeft : DebugFault → (source reader writer : Change) → Type 0
DebugLeft Source source reader writer = NeverServed source reader writer
DebugLeft (Open error) source reader writer =
    Unopened error source.old.bytes source.new.bytes × NothingDone reader writer
DebugLeft (Serve Read) source reader writer = Stopped Read source reader writer
DebugLeft (Serve Write) source reader writer = Stopped Write source reader writer
DebugLeft (Serve Memory) source reader writer = NeverServed source reader writer ⊎ Stopped Memory source reader writer
DebugLeft Threads source reader writer = ⊥
