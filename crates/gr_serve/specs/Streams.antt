-- A stream between a session, a reader and a writer.
use Rattle.std.specs.Prelude.{ℕ}
use Rattle.gr_session.specs.Keeps.{Seen}
use Rattle.gr_program.specs.Views.{program_of}
use Rattle.gr_serve.specs.declared.stream.ServeFault.{ServeFault}
use Rattle.gr_lines.specs.Devices.{Change, Fails}
use Rattle.gr_serve.specs.Stream.{of_session}
use Rattle.gr_serve.specs.Served.{ServedAll}
use Rattle.gr_serve.specs.Fault.{Left}

-- the lines that the reader gave were answered, and the writer got the answers
abbrev pub Serves : ℕ → (old new : Seen) → (reader writer : Change) → Type 0
Serves asker old new reader writer =
    ServedAll (of_session (program_of old.program) asker) reader.old.bytes reader.new.bytes old.journal new.journal
    writer.old.bytes writer.new.bytes

-- what a fault leaves of a stream
abbrev pub Leaves : ServeFault → ℕ → (old new : Seen) → (reader writer : Change) → Type 0
Leaves fault asker old new reader writer =
    Left fault (of_session (program_of old.program) asker) reader.old.bytes reader.new.bytes old.journal new.journal
    writer.old.bytes writer.new.bytes (Fails reader) (Fails writer)
