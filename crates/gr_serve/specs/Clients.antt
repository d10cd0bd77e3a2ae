-- How the lines of a client end.
use Rattle.std.specs.Prelude.{◌≡◌, ℕ, Bool, List, ◌∷◌, [], Result, Ok, Err}
use Rattle.gr_command.specs.declared.command.Line.{Line}
use Rattle.gr_command.specs.Commands.{meaning}
use Rattle.gr_serve.specs.declared.stream.ServeFault.{ServeFault}
use Rattle.gr_serve.specs.Lines.{is_quit}
use Rattle.gr_lines.specs.Devices.{Change, Fails, NeverFails}
use Rattle.gr_serve.specs.Stream.{Gets, Answers, AnsweredLine}
use Rattle.gr_serve.specs.Served.{Served, ServedAll}
use Rattle.gr_serve.specs.Fault.{LineLeft, Left, Blames, BlamesWriter}

-- a line was answered, with this text or without memory for one
abbrev pub IsAnswered : {S A E : Type 0} → Gets S → Line → (old new : S) → (text : List ℕ) → Result A E → Type 0
IsAnswered gets line old new text (Ok v) = Answers gets line old new text
IsAnswered gets line old new text (Err e) = AnsweredLine gets line old new

-- a line was answered, and the writer got the answer; whether it was `quit`; or what a fault leaves
abbrev pub LineEnds : {S : Type 0} → Gets S → List ℕ → (old new : S) → Result Bool ServeFault → (writer : Change) → Type 0
LineEnds gets line old new (Ok quit) writer =
    Served gets (line ∷ []) old new writer.old.bytes writer.new.bytes × ((quit ≡ is_quit (meaning line)) × NeverFails writer)
LineEnds gets line old new (Err fault) writer =
    LineLeft fault gets line old new writer.old.bytes writer.new.bytes (Fails writer) × BlamesWriter fault writer

-- the lines that the reader gave were answered, and the writer got the answers; or what a fault leaves
abbrev pub StreamEnds : {S A : Type 0} → Gets S → (old new : S) → Result A ServeFault → (reader writer : Change) → Type 0
StreamEnds gets old new (Ok v) reader writer =
    ServedAll gets reader.old.bytes reader.new.bytes old new writer.old.bytes writer.new.bytes × (NeverFails reader × NeverFails writer)
StreamEnds gets old new (Err fault) reader writer =
    Left fault gets reader.old.bytes reader.new.bytes old new writer.old.bytes writer.new.bytes (Fails reader) (Fails writer)
    × Blames fault reader writer
