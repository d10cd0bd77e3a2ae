-- A script: what comes of commands that a session carries out one after the other, as long as none is refused.
use Rattle.std.specs.Prelude.{◌≡◌, ◌⊎◌, ℕ, suc, List, [], ◌∷◌, length}
use Rattle.gr_program.specs.Programs.{Program}
use Rattle.gr_command.specs.Commands.{meaning}
use Rattle.gr_command.specs.declared.command.Command.{Command}
use Rattle.gr_command.specs.declared.command.Line.{Line}
use Rattle.gr_command.specs.declared.command.Line.TheVariants as says
use Rattle.gr_command.specs.declared.refusal.Refusal.TheVariants as refusals
use Rattle.gr_command.specs.declared.reply.RunEnd.TheVariants as ends
use Rattle.gr_command.specs.Replies.{Said}
use Rattle.gr_command.specs.Replies as replies
use Rattle.gr_session.specs.declared.journal.Entry.{Entry}
use Rattle.gr_session.specs.declared.TheConstants.{JOURNAL_LIMIT}
use Rattle.gr_session.specs.Entries.{EntersCommand}
use Rattle.gr_survey.specs.declared.script.Outcome.{Outcome}
use Rattle.gr_survey.specs.declared.script.Outcome.TheVariants.{Done, Quit, Refused, Memory}

-- whether a command was carried out, by its reply
abbrev pub outcome_of : Said → Outcome
outcome_of (replies.No refusals.NoMemory) = Memory
outcome_of (replies.No why) = Refused
outcome_of (replies.BreaksDependence earlier later) = Refused
outcome_of (replies.PartlyDone ids) = Memory
outcome_of (replies.Ran steps ends.Memory) = Memory
outcome_of said = Done

-- the session's journal has the command as one entry more, with a reply of this outcome
pub record Asks (p : Program) (asker : ℕ) (command : Command) (old : List Entry) (outcome : Outcome) (new : List Entry) : Type 0 where
  pub said : Said
  pub enters : EntersCommand p asker command old new (length new) said
  pub is : outcome_of said ≡ outcome

-- a command is refused: the journal is full, or the reply says so
abbrev pub RefusesCommand : Program → ℕ → Command → List Entry → List Entry → Type 0
RefusesCommand p asker command old new = ((length old ≡ JOURNAL_LIMIT) × (new ≡ old)) ⊎ Asks p asker command old Refused new

-- what a line says is done
abbrev pub Does : Program → ℕ → Line → List Entry → List Entry → Type 0
Does p asker says.Blank old new = new ≡ old
Does p asker (says.Command command) old new = Asks p asker command old Done new
Does p asker says.Rejected old new = ⊥
Does p asker says.Quit old new = ⊥

-- a line is no command, or its command is refused
abbrev pub Refuses : Program → ℕ → Line → List Entry → List Entry → Type 0
Refuses p asker says.Blank old new = ⊥
Refuses p asker (says.Command command) old new = RefusesCommand p asker command old new
Refuses p asker says.Rejected old new = new ≡ old
Refuses p asker says.Quit old new = ⊥

-- what comes of a line, by its outcome; out of memory tells nothing
abbrev pub Comes : Program → ℕ → Line → List Entry → Outcome → List Entry → Type 0
Comes p asker line old Done new = Does p asker line old new
Comes p asker line old Quit new = (line ≡ says.Quit) × (new ≡ old)
Comes p asker line old Refused new = Refuses p asker line old new
Comes p asker line old Memory new = Unit {0}

-- what the lines say is done, one after the other, up to `quit` or to their end
pub data Follows (p : Program) (asker : ℕ) : List (List ℕ) → List Entry → List Entry → Type 0 where
  to_the_end : {old : List Entry} → Follows p asker [] old old
  to_quit : {line : List ℕ} {lines : List (List ℕ)} {old : List Entry} → meaning line ≡ says.Quit → Follows p asker (line ∷ lines) old old
  one_more : {line : List ℕ} {lines : List (List ℕ)} {old mid new : List Entry}
      → Does p asker (meaning line) old mid → Follows p asker lines mid new → Follows p asker (line ∷ lines) old new

-- the line with this number, from 1, is refused, and what the lines before it say is done
pub data IsRefused (p : Program) (asker : ℕ) : List (List ℕ) → ℕ → List Entry → Type 0 where
  first_is : {line : List ℕ} {lines : List (List ℕ)} {old : List Entry} (new : List Entry)
      → Refuses p asker (meaning line) old new → IsRefused p asker (line ∷ lines) 1 old
  later_is : {line : List ℕ} {lines : List (List ℕ)} {number : ℕ} {old mid : List Entry}
      → Does p asker (meaning line) old mid → IsRefused p asker lines number mid → IsRefused p asker (line ∷ lines) (suc number) old
