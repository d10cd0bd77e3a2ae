-- Lines that were served: read from a reader, asked of a session or a desk, answered to a writer.
-- What is known of a reader is the bytes that it still has, and of a writer those that it holds, if they tell (`Option`).
use Rattle.std.specs.Prelude.{◌≡◌, ℕ, List, [], ◌∷◌, ◌++◌, take, Option, IfSome}
use Rattle.std.specs.Io.KnownBytes.{Appends, Consumes}
use Rattle.gr_serve.specs.Lines.{lines_of, whole_lines}
use Rattle.gr_serve.specs.Replies.{Answer}
use Rattle.gr_serve.specs.Stream.{Gets, Answered, commands, output, NoQuit, QuitLast}

-- the commands of these lines were answered in order, and the writer got the output for the lines
pub record Served {S : Type 0} (gets : Gets S) (lines : List (List ℕ)) (old new : S) (held holds : Option (List ℕ)) : Type 0 where
  pub answers : List Answer
  pub answered : Answered gets old (commands lines) answers new
  pub written : Appends held holds (output lines answers)

-- this line was answered, and the writer got a beginning of the output for it
pub record Begun {S : Type 0} (gets : Gets S) (line : List ℕ) (old new : S) (held holds : Option (List ℕ)) : Type 0 where
  pub answers : List Answer
  pub answered : Answered gets old (commands (line ∷ [])) answers new
  pub count : ℕ
  pub written : Appends held holds (take count (output (line ∷ []) answers))

-- what was read is these bytes, and their lines are served: all that there was, or all up to `quit`
pub record ServedAll {S : Type 0} (gets : Gets S) (had has : Option (List ℕ)) (old new : S) (held holds : Option (List ℕ)) : Type 0 where
  pub bytes : List ℕ
  pub taken : Consumes had has bytes
  pub last : QuitLast (lines_of bytes)
  pub served : Served gets (lines_of bytes) old new held holds
  pub whole : IfSome had (λ input. Served gets (lines_of input) old new held holds)

-- what was read is these bytes, and the lines that a newline ends in them are served
pub record ServedWhole {S : Type 0} (gets : Gets S) (had has : Option (List ℕ)) (old new : S) (held holds : Option (List ℕ)) : Type 0 where
  pub bytes : List ℕ
  pub taken : Consumes had has bytes
  pub going : NoQuit (whole_lines bytes)
  pub served : Served gets (whole_lines bytes) old new held holds

-- what was read is these bytes; their lines are served but for the last, which was not made into its command
pub record ServedBefore {S : Type 0} (gets : Gets S) (had has : Option (List ℕ)) (old new : S) (held holds : Option (List ℕ)) : Type 0 where
  pub bytes : List ℕ
  pub taken : Consumes had has bytes
  pub done : List (List ℕ)
  pub line : List ℕ
  pub lines : lines_of bytes ≡ done ++ line ∷ []
  pub going : NoQuit done
  pub served : Served gets done old new held holds

-- what was read is these bytes; their lines are served but for the last, whose answer was begun
pub record ServedPart {S : Type 0} (gets : Gets S) (had has : Option (List ℕ)) (old new : S) (held holds : Option (List ℕ)) : Type 0 where
  pub bytes : List ℕ
  pub taken : Consumes had has bytes
  pub done : List (List ℕ)
  pub line : List ℕ
  pub lines : lines_of bytes ≡ done ++ line ∷ []
  pub going : NoQuit done
  pub mid : S
  pub middle : Option (List ℕ)
  pub served : Served gets done old mid held middle
  pub begun : Begun gets line mid new middle holds
