-- What holds where a stream was left.
use Rattle.std.specs.Prelude.{◌≡◌, ℕ, List, Option, ◌⊎◌}
use Rattle.std.specs.Io.KnownBytes.{Keeps}
use Rattle.gr_serve.specs.declared.stream.ServeFault.{ServeFault}
use Rattle.gr_serve.specs.declared.stream.ServeFault.TheVariants.{Read, Write, Memory}
use Rattle.gr_lines.specs.Devices.{Change, Fails, NeverFails}
use Rattle.gr_serve.specs.Stream.{Gets}
use Rattle.gr_serve.specs.Served.{Begun, ServedWhole, ServedBefore, ServedPart}

-- the fault of a line is `Write` exactly where the writer failed
abbrev pub BlamesWriter : ServeFault → (writer : Change) → Type 0
BlamesWriter Read writer = ⊥
BlamesWriter Write writer = Fails writer
BlamesWriter Memory writer = NeverFails writer

-- the fault of a stream names the device that failed; out of memory is told where none did
abbrev pub Blames : ServeFault → (reader writer : Change) → Type 0
Blames Read reader writer = Fails reader × NeverFails writer
Blames Write reader writer = NeverFails reader × Fails writer
Blames Memory reader writer = NeverFails reader × NeverFails writer

-- nothing was done: what is asked is as before, and nothing was written
abbrev pub Untouched : {S : Type 0} → S → S → Option (List ℕ) → Option (List ℕ) → Type 0
Untouched old new held holds = (new ≡ old) × Keeps held holds

-- what a fault leaves of one line: the writer failed in its answer, or it was out of memory before the line was asked or in its
-- answer
abbrev pub LineLeft : {S : Type 0} → ServeFault → Gets S → List ℕ → (old new : S) → (held holds : Option (List ℕ)) → (writer_failed : Type 0) → Type 0
LineLeft Read gets line old new held holds writer_failed = ⊥
LineLeft Write gets line old new held holds writer_failed = Begun gets line old new held holds × writer_failed
LineLeft Memory gets line old new held holds writer_failed =
    Untouched old new held holds ⊎ Begun gets line old new held holds

-- what a fault leaves of a stream: the reader failed between two lines or within one; the writer failed in an answer; or it was
-- out of memory while a line was read, while it was made into its command, or for its answer
abbrev pub Left : {S : Type 0} → ServeFault → Gets S → (had has : Option (List ℕ)) → (old new : S) → (held holds : Option (List ℕ))
    → (reader_failed writer_failed : Type 0) → Type 0
Left Read gets had has old new held holds reader_failed writer_failed = ServedWhole gets had has old new held holds × reader_failed
Left Write gets had has old new held holds reader_failed writer_failed = ServedPart gets had has old new held holds × writer_failed
Left Memory gets had has old new held holds reader_failed writer_failed =
    ServedWhole gets had has old new held holds
    ⊎ (ServedBefore gets had has old new held holds ⊎ ServedPart gets had has old new held holds)
