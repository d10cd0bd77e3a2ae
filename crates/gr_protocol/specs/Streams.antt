-- A stream of lines and their answers.
use Rattle.std.specs.Prelude.{◌≡◌, ◌⊎◌, ℕ, true, false, List, [], ◌∷◌, ◌++◌, Option, OnSome, Result, Ok, Err}
use Rattle.std.specs.Io.KnownBytes.{Appends, Consumes, IsAtEnd}
use Rattle.gr_command.specs.Requests.{request_meant}
use Rattle.gr_lines.specs.Devices.{Change, NeverFails}
use Rattle.gr_program.specs.Programs.{Program}
use Rattle.gr_protocol.specs.Answers.{Answers, is_quit}
use Rattle.gr_serve.specs.Debug.{NeverServed, NothingDone, Opened, Unopened}
use Rattle.gr_serve.specs.Fault.{Blames}
use Rattle.gr_serve.specs.Lines.{lines_of}
use Rattle.gr_serve.specs.declared.debug.DebugFault.{DebugFault}
use Rattle.gr_serve.specs.declared.debug.DebugFault.TheVariants.{Source, Open, Serve, Threads}
use Rattle.gr_serve.specs.declared.stream.ServeFault.{ServeFault}
use Rattle.gr_session.specs.declared.journal.Entry.{Entry}

-- lines are answered in their order, and these are the answers, one after the other
abbrev pub AnswersAll : Program → ℕ → List (List ℕ) → (old new : List Entry) → (out : List ℕ) → Type 0
AnswersAll p asker [] old new out = (new ≡ old) × (out ≡ [])
AnswersAll p asker (line ∷ lines) old new out =
    (mid : List Entry) × (first : List ℕ) × (others : List ℕ)
    × Answers p asker (request_meant line) old mid first × AnswersAll p asker lines mid new others × (out ≡ first ++ others)

-- no line before the last is `quit`
abbrev pub QuitLast : List (List ℕ) → Type 0
QuitLast [] = Unit {0}
QuitLast (l ∷ []) = Unit {0}
QuitLast (l ∷ m ∷ ls) = (is_quit (request_meant l) ≡ false) × QuitLast (m ∷ ls)

-- the last of the lines is `quit`
pub record EndsInQuit (lines : List (List ℕ)) : Type 0 where
  pub front : List (List ℕ)
  pub line : List ℕ
  pub split : lines ≡ front ++ line ∷ []
  pub quits : is_quit (request_meant line) ≡ true

-- what was read is these bytes, all that there was or all up to `quit`, and the writer got the answers to their lines
pub record Conversed (p : Program) (asker : ℕ) (had has : Option (List ℕ)) (old new : List Entry) (held holds : Option (List ℕ)) : Type 0 where
  pub bytes : List ℕ
  pub taken : Consumes had has bytes
  pub last : QuitLast (lines_of bytes)
  pub ends : OnSome had (IsAtEnd has) ⊎ EndsInQuit (lines_of bytes)
  pub out : List ℕ
  pub answered : AnswersAll p asker (lines_of bytes) old new out
  pub written : Appends held holds out

-- all lines up to `quit` or the end were answered, or the fault names the device that failed
abbrev pub Converses : {A : Type 0} → Program → ℕ → (old new : List Entry) → Result A ServeFault → (reader writer : Change) → Type 0
Converses p asker old new (Ok v) reader writer =
    Conversed p asker reader.old.bytes reader.new.bytes old new writer.old.bytes writer.new.bytes × (NeverFails reader × NeverFails writer)
Converses p asker old new (Err fault) reader writer = Blames fault reader writer

-- a line was answered, and the writer got the answer
pub record LineAnswered (p : Program) (asker : ℕ) (line : List ℕ) (old new : List Entry) (writer : Change) : Type 0 where
  pub out : List ℕ
  pub answers : Answers p asker (request_meant line) old new out
  pub written : Appends writer.old.bytes writer.new.bytes out

-- what a fault leaves where there is no session: the source was read in part or was not opened, no command was read, and nothing
-- was written
abbrev pub Unserved : DebugFault → (source reader writer : Change) → Type 0
Unserved Source source reader writer = NeverServed source reader writer
Unserved (Open error) source reader writer = Unopened error source.old.bytes source.new.bytes × NothingDone reader writer
Unserved (Serve fault) source reader writer = Unit {0}
Unserved Threads source reader writer = ⊥

-- the lines were answered by a session of the source's program, from an empty journal on; its one asker's number is 1
pub record Debugged (source reader writer : Change) : Type 0 where
  pub program : Program
  pub opened : Opened source.old.bytes source.new.bytes program
  pub journal : List Entry
  pub conversed : Conversed program 1 reader.old.bytes reader.new.bytes [] journal writer.old.bytes writer.new.bytes
