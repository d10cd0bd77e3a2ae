-- The output for lines, and the answers that a session gives.
use Rattle.std.specs.Prelude.{◌≡◌, ℕ, ◌≢◌, ◌⊎◌, false, List, [], ◌∷◌, ◌++◌, length, codes}
use Rattle.gr_program.specs.Programs.{Program}
use Rattle.gr_command.specs.declared.command.Command.{Command}
use Rattle.gr_session.specs.declared.journal.Entry.{Entry}
use Rattle.gr_session.specs.declared.TheConstants.{JOURNAL_LIMIT}
use Rattle.gr_session.specs.Entries.{EntersCommand}
use Rattle.gr_session.specs.Growing.{Grows}
use Rattle.gr_session.specs.Wants.{MayWantMemory}
use Rattle.gr_command.specs.declared.command.Line.{Line}
use Rattle.gr_command.specs.declared.command.Line.TheVariants as says
use Rattle.gr_command.specs.Commands.{meaning}
use Rattle.gr_serve.specs.Lines.{is_quit}
use Rattle.gr_serve.specs.Replies.{Answer, Replied, JournalFull, NoMemory, answer_text}

-- the output for a line, and then for the rest; `quit` ends the stream
abbrev pub output_at : Line → (List Answer → List ℕ) → List Answer → List ℕ
output_at says.Blank rest answers = rest answers
output_at says.Rejected rest answers = codes "? bad command\n" ++ rest answers
output_at says.Quit rest answers = codes "ok\n"
output_at (says.Command command) rest [] = []
output_at (says.Command command) rest (a ∷ answers) = answer_text a ++ rest answers

-- the output for lines whose commands got these answers, in order
abbrev pub output : List (List ℕ) → List Answer → List ℕ
output [] answers = []
output (l ∷ ls) answers = output_at (meaning l) (output ls) answers

-- the command of a line, and then those of the rest; `quit` ends the stream
abbrev pub commands_at : Line → List Command → List Command
commands_at says.Blank rest = rest
commands_at says.Rejected rest = rest
commands_at says.Quit rest = []
commands_at (says.Command command) rest = command ∷ rest

-- the commands of lines, up to `quit`
abbrev pub commands : List (List ℕ) → List Command
commands [] = []
commands (l ∷ ls) = commands_at (meaning l) (commands ls)

-- what may come of one command: from one state of what is asked to the next
abbrev pub Gets : Type 0 → Type 1
Gets S = S → Command → Answer → S → Type 0

-- what a session answers to one of its askers, by its journal: it has an entry more, with this reply, or is as before. It is
-- out of memory only where the journal makes room, or the command may need memory itself
abbrev pub of_session : Program → ℕ → List Entry → Command → Answer → List Entry → Type 0
of_session program asker old c (Replied said) new = EntersCommand program asker c old new (length new) said
of_session program asker old c JournalFull new = (length old ≡ JOURNAL_LIMIT) × (new ≡ old)
of_session program asker old c NoMemory new =
    (length old ≢ JOURNAL_LIMIT) × (new ≡ old) × (Grows (length old) ⊎ MayWantMemory c)

-- from the state old, commands may get these answers in their order, and the state is then new
abbrev pub Answered : {S : Type 0} → Gets S → S → List Command → List Answer → S → Type 0
Answered gets old [] [] new = new ≡ old
Answered {S = S} gets old (c ∷ cs) (a ∷ more) new = (mid : S) × gets old c a mid × Answered gets mid cs more new
Answered gets old [] (a ∷ more) new = ⊥
Answered gets old (c ∷ cs) [] new = ⊥

-- no line is `quit`
abbrev pub NoQuit : List (List ℕ) → Type 0
NoQuit [] = Unit {0}
NoQuit (l ∷ ls) = (is_quit (meaning l) ≡ false) × NoQuit ls

-- no line before the last is `quit`
abbrev pub QuitLast : List (List ℕ) → Type 0
QuitLast [] = Unit {0}
QuitLast (l ∷ []) = Unit {0}
QuitLast (l ∷ m ∷ ls) = (is_quit (meaning l) ≡ false) × QuitLast (m ∷ ls)

-- a line was answered, with this text
pub record Answers {S : Type 0} (gets : Gets S) (line : Line) (old new : S) (text : List ℕ) : Type 0 where
  pub answers : List Answer
  pub answered : Answered gets old (commands_at line []) answers new
  pub text_is : text ≡ output_at line (λ more. []) answers

-- a line was answered
pub record AnsweredLine {S : Type 0} (gets : Gets S) (line : Line) (old new : S) : Type 0 where
  pub answers : List Answer
  pub answered : Answered gets old (commands_at line []) answers new
