-- What is written for a line of a client, and what it leaves.
use Rattle.std.specs.Prelude.{◌≡◌, ◌⊎◌, ℕ, Bool, true, false, List, [], ◌∷◌, ◌++◌, codes}
use Rattle.serde_json.specs.Data.{Data, string}
use Rattle.serde_json.specs.Written.{compact_text}
use Rattle.gr_command.specs.declared.command.Line.{Line}
use Rattle.gr_command.specs.declared.command.Line.TheVariants.{Command, Quit, Blank, Rejected}
use Rattle.gr_command.specs.declared.request.Query.{Query}
use Rattle.gr_command.specs.declared.request.Request.{Request}
use Rattle.gr_command.specs.declared.request.Request.TheVariants.{Ask, Say}
use Rattle.gr_json.specs.Parts.{fields}
use Rattle.gr_json.specs.Replies.{answer, said_data}
use Rattle.gr_program.specs.Programs.{Program}
use Rattle.gr_command.specs.Replies.{Acknowledged}
use Rattle.gr_protocol.specs.About.{TellsAsked}
use Rattle.gr_serve.specs.Replies.{Answer, Replied, JournalFull, NoMemory}
use Rattle.gr_serve.specs.Stream.{of_session}
use Rattle.gr_session.specs.Entries.{InItsWorld}
use Rattle.gr_session.specs.Journal.{course_of}
use Rattle.gr_session.specs.declared.journal.Entry.{Entry}

-- a value without spaces, on a line of its own
abbrev pub line_text : Data → List ℕ
line_text d = compact_text d ++ codes "\n"

-- a command that has no entry in the journal
abbrev pub without_entry : List ℕ → List ℕ → Data
without_entry code text = fields ((codes "reply", answer (codes "refused") ((codes "code", string code) ∷ [])) ∷ (codes "text", string text) ∷ [])

-- what came of a command
abbrev pub answer_data : Answer → Data
answer_data (Replied said) = said_data said
answer_data JournalFull = without_entry (codes "Q1") (codes "no Q1\n")
answer_data NoMemory = without_entry (codes "Q2") (codes "no Q2\n")

-- a line that asks nothing
abbrev pub rejected_data : Data
rejected_data = fields (
    (codes "error", string (codes "bad request"))
    ∷ (codes "expected", string (codes "a command, or: about G#N, about FROM TO, or: at N with show G, chan C, text G or console"))
    ∷ (codes "text", string (codes "? bad command\n"))
    ∷ [])

-- the answer to a query: where the journal leads, it tells of the steps that are kept, or of a state to which they led
abbrev pub Tells : Program → List Entry → Query → Data → Type 0
Tells p journal query d = InItsWorld p journal (λ w. TellsAsked p (course_of p w).past.log query d)

-- what is written for a line that is no query, and the journal after it
abbrev pub Replies : Program → ℕ → Line → (old new : List Entry) → (text : List ℕ) → Type 0
Replies p asker Blank old new text = (new ≡ old) × (text ≡ [])
Replies p asker Rejected old new text = (new ≡ old) × (text ≡ line_text rejected_data)
Replies p asker Quit old new text = (new ≡ old) × (text ≡ line_text (said_data Acknowledged))
Replies p asker (Command command) old new text = (a : Answer) × of_session p asker old command a new × (text ≡ line_text (answer_data a))

-- what is written for what a line asks, and the journal after it: a query makes no entry
abbrev pub Answers : Program → ℕ → Request → (old new : List Entry) → (text : List ℕ) → Type 0
Answers p asker (Ask query) old new text = (new ≡ old) × ((d : Data) × Tells p old query d × (text ≡ line_text d))
Answers p asker (Say line) old new text = Replies p asker line old new text

-- what is left where there is no memory for the answer: a command may have been asked
abbrev pub Leaves : Program → ℕ → Request → (old new : List Entry) → Type 0
Leaves p asker (Ask query) old new = new ≡ old
Leaves p asker (Say line) old new = elim line [ Command command ↦ (new ≡ old) ⊎ ((a : Answer) × of_session p asker old command a new) | _ ↦ new ≡ old ]

-- whether a line ends the session
abbrev pub is_quit : Request → Bool
is_quit request = elim request [ Say line ↦ elim line [ Quit ↦ true | _ ↦ false ] | _ ↦ false ]
