-- What workers are lent, and what they ask.
use Rattle.std.specs.Prelude.{◌≡◌, ℕ, ◌-◌, ◌<◌, ◌≤◌, min, List, [], ◌∷◌, ◌++◌, length, All}
use Rattle.gr_program.specs.Programs.{Program}
use Rattle.gr_rules.specs.Limits.{most_steps}
use Rattle.gr_command.specs.declared.command.Command.TheVariants.{Turn}
use Rattle.gr_command.specs.Replies.{Said, Committed, said_of}
use Rattle.gr_session.specs.declared.journal.Entry.{Entry}
use Rattle.gr_session.specs.Copies.{Lent, loan_of, most_at}
use Rattle.gr_session.specs.Entries.{InItsWorld}
use Rattle.gr_session.specs.Granting.{IsLoan}
use Rattle.gr_session.specs.Journal.{World}
use Rattle.gr_share.specs.declared.desk.Asked.{Asked as Wanted}
use Rattle.gr_share.specs.declared.desk.Asked.TheVariants.{Command, Batch}
use Rattle.gr_share.specs.declared.desk.Call.{Call}
use Rattle.gr_share.specs.Calls.{Asker, Staff}

-- how many steps a worker may take: as many as the log and the grant have room for
abbrev pub most_lent : (p : Program) → World p → ℕ
most_lent p w = min (most_steps - length w.log) w.grant

-- where this journal leads, the goroutine at the place is lent, to take at most this many steps
pub record Lends (p : Program) (journal : List Entry) (place : ℕ) (lease : Lent) (limit : ℕ) : Type 0 where
  pub place_is : lease.place ≡ place
  pub lent : InItsWorld p journal (λ w. IsLoan p w place lease.copy × (limit ≡ most_lent p w))

-- a goroutine of this name was lent at the place, to take this many steps or more
pub record WasLent (p : Program) (place : ℕ) (go : List ℕ) (steps : ℕ) : Type 0 where
  pub journal : List Entry
  pub lease : Lent
  pub limit : ℕ
  pub lends : Lends p journal place lease limit
  pub name : (loan_of lease.copy).name ≡ go
  pub few : steps ≤ most_at limit

-- what a worker at this place asks: turns, and that steps which it was lent to take join the log
abbrev pub IsWork : Program → (place : ℕ) → Wanted → Type 0
IsWork p place (Command command) = command ≡ Turn
IsWork p place (Batch go steps) = WasLent p place go steps

-- each call of the worker is work at its place
abbrev pub IsAtWork : Program → Staff → Type 0
IsAtWork p w = All (λ c. IsWork p w.place c.asked) w.seat.calls

-- a reply tells that fewer than so many steps joined the log
abbrev pub IsCutTo : ℕ → Said → Type 0
IsCutTo steps reply = (joined : ℕ) × (reply ≡ Committed joined) × (joined < steps)

-- fewer steps joined the log than the batch had
abbrev pub IsCut : Call → Type 0
IsCut c = elim c.asked [ Command command ↦ ⊥ | Batch go steps ↦ IsCutTo steps (said_of c.receipt.reply) ]

-- The asker has further calls. No call follows a batch that was cut.
pub record HasWorked (old new : Asker) : Type 0 where
  pub number : new.number ≡ old.number
  pub more : List Call
  pub calls : new.calls ≡ old.calls ++ more
  pub ends : (before after : List Call) (c : Call) → more ≡ before ++ c ∷ after → IsCut c → after ≡ []
