-- What is written for a line.
use Rattle.std.proofs.Common.{◌≡◌, ℕ, false, List, [], ◌++◌, length, map, None, Result, OnOk, codes, refl, sym, subst, inl}
use Rattle.std.proofs.lemmas.Result.{IfOk-weaker}
use Rattle.serde_json.specs.Data.{Data}
use Rattle.serde_json.specs.Written.{compact_text, has_float}
use Rattle.gr_command.specs.declared.command.Command.{Command as Asked}
use Rattle.gr_command.specs.declared.command.Line.TheVariants.{Command, Quit, Blank, Rejected}
use Rattle.gr_command.specs.declared.request.Query.{Query}
use Rattle.gr_command.specs.declared.request.Query.TheVariants.{Step, Places, At}
use Rattle.gr_command.specs.declared.request.Request.{Request}
use Rattle.gr_command.specs.declared.request.Request.TheVariants.{Ask, Say}
use Rattle.gr_facts.specs.Views.{facts_in}
use Rattle.gr_json.proofs.Plain.{IsPlain, said_plain}
use Rattle.gr_laws.specs.Reached.{Logged}
use Rattle.gr_program.specs.Programs.{Program}
use Rattle.gr_protocol.proofs.Rows.{about_plain}
use Rattle.gr_protocol.specs.About.{TellsAsked, next_place, row_of}
use Rattle.gr_protocol.specs.Answers.{Answers, Leaves, Replies, Tells, answer_data, line_text}
use Rattle.gr_serve.specs.Replies.{Answer, Replied, JournalFull, NoMemory}
use Rattle.gr_serve.specs.Stream.{of_session}
use Rattle.gr_session.specs.Journal.{course_of}
use Rattle.gr_session.specs.declared.journal.Entry.{Entry}

pub answer_plain : (a : Answer) → IsPlain (answer_data a)
answer_plain (Replied said) = said_plain said
answer_plain JournalFull = refl
answer_plain NoMemory = refl

-- a value that has no fraction is written as a line
pub line_written : {T E : Type 0} (r : Result T E) (v d : Data) (old new : List ℕ) → v ≡ d → IsPlain d
    → OnOk r (has_float v ≡ false → new ≡ old ++ (compact_text v ++ codes "\n")) → OnOk r (new ≡ old ++ line_text d)
line_written r v d old new is plain h =
    IfOk-weaker r _ _ (λ _. subst {_, _} (λ (x : Data). IsPlain x → (IsPlain v → new ≡ old ++ line_text v) → new ≡ old ++ line_text x) is (λ p k. k p) plain) h

-- into a text that was empty
pub only_line : (old new line : List ℕ) → old ≡ [] → new ≡ old ++ line → new ≡ line
only_line old new line none is = subst {_, _} (λ (o : List ℕ). new ≡ o ++ line) none is

pub command_replied : (p : Program) (asker : ℕ) (command : Asked) (old new : List Entry) (a : Answer) (before after : List ℕ)
    → of_session p asker old command a new → before ≡ [] → after ≡ before ++ line_text (answer_data a)
    → Replies p asker (Command command) old new after
command_replied p asker command old new a before after came none is = (a, came, only_line before after (line_text (answer_data a)) none is)

-- what is told has no fraction
asked_plain : (p : Program) (log : List (Logged p)) (query : Query) (d : Data) → TellsAsked p log query d → IsPlain d
asked_plain p log (Step id) d tells = subst {_, _} IsPlain (sym tells.is) (about_plain (row_of tells.row) None)
asked_plain p log (Places first last) d tells =
    subst {_, _} IsPlain (sym tells.is) (about_plain (map facts_in tells.rows) (next_place first last (length tells.rows)))
asked_plain p log (At steps view) d tells = subst {_, _} IsPlain (sym tells.is) (said_plain tells.said)

tells_plain : (p : Program) (journal : List Entry) (query : Query) (d : Data) → Tells p journal query d → IsPlain d
tells_plain p journal query d tells = asked_plain p (course_of p tells.world).past.log query d tells.holds

-- the answer to a query is written as a line
pub query_told : {T E : Type 0} (p : Program) (asker : ℕ) (query : Query) (journal new : List Entry) (r : Result T E) (v : Data) (before after : List ℕ)
    → new ≡ journal → Tells p journal query v → before ≡ [] → OnOk r (has_float v ≡ false → after ≡ before ++ (compact_text v ++ codes "\n"))
    → OnOk r (Answers p asker (Ask query) journal new after)
query_told p asker query journal new r v before after same tells none h =
    IfOk-weaker r _ _ (λ _ is. (same, (v, tells, only_line before after (line_text v) none (is (tells_plain p journal query v tells))))) h

-- nothing is left of a line that was not asked
pub nothing_left : (p : Program) (asker : ℕ) (request : Request) (journal : List Entry) → Leaves p asker request journal journal
nothing_left p asker (Ask query) journal = refl
nothing_left p asker (Say Blank) journal = refl
nothing_left p asker (Say Rejected) journal = refl
nothing_left p asker (Say Quit) journal = refl
nothing_left p asker (Say (Command command)) journal = inl refl
