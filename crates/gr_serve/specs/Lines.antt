-- Bytes cut into lines.
use Rattle.std.specs.Prelude.{ℕ, ◌==◌, Bool, true, false, if◌then◌else◌, List, [], ◌∷◌}
use Rattle.gr_command.specs.declared.command.Line.{Line}
use Rattle.gr_command.specs.declared.command.Line.TheVariants.{Command, Quit, Blank, Rejected}

-- a byte in front of the first of the lines
abbrev pub onto : ℕ → List (List ℕ) → List (List ℕ)
onto b [] = (b ∷ []) ∷ []
onto b (l ∷ ls) = (b ∷ l) ∷ ls

-- the lines of bytes, without their newlines; what follows the last newline is a line too, if it is anything
abbrev pub lines_of : List ℕ → List (List ℕ)
lines_of [] = []
lines_of (b ∷ bs) = if b == 10 then [] ∷ lines_of bs else onto b (lines_of bs)

-- a byte in front of the first line, if a newline ends it
abbrev pub onto_whole : ℕ → List (List ℕ) → List (List ℕ)
onto_whole b [] = []
onto_whole b (l ∷ ls) = (b ∷ l) ∷ ls

-- those lines that a newline ends
abbrev pub whole_lines : List ℕ → List (List ℕ)
whole_lines [] = []
whole_lines (b ∷ bs) = if b == 10 then [] ∷ whole_lines bs else onto_whole b (whole_lines bs)

-- whether a line ends the stream
abbrev pub is_quit : Line → Bool
is_quit Blank = false
is_quit Rejected = false
is_quit Quit = true
is_quit (Command command) = false
