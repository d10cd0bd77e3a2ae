-- What the queries say, as the rules tell it.
use Rattle.std.specs.Prelude.{ℕ, List, map, Option, Some, None}
use Rattle.gr_base.specs.declared.names.ChName.{ChName}
use Rattle.gr_channels.specs.Objects.{GateContent}
use Rattle.gr_program.specs.Programs.{Program}
use Rattle.gr_rules.specs.Goroutines.{Goroutine}
use Rattle.gr_rules.specs.States.{State}
use Rattle.gr_rules.specs.Tells.{shown, channel_shown, console}
use Rattle.gr_laws.specs.Reached.{Logged}
use Rattle.gr_command.specs.declared.refusal.Refusal.TheVariants as refusals
use Rattle.gr_command.specs.Replies.{Said, told}
use Rattle.gr_command.specs.Replies as said
use Rattle.gr_step.specs.Record.{Record}
use Rattle.gr_step.specs.Pairs.{id_of}
pub use Rattle.gr_step.specs.Pairs.{step_kind}

-- a goroutine, as it is shown
abbrev pub goroutine_said : Program → List ℕ → Option Goroutine → Said
goroutine_said p go None = said.No refusals.NotThere
goroutine_said p go (Some g) = said.Shown go (told (shown p g))

-- a channel, as it is shown
abbrev pub channel_said : State → ChName → Option GateContent → Said
channel_said s c None = said.No refusals.NotThere
channel_said s c (Some gate) = said.Channel (channel_shown s c gate)

-- the lines that a goroutine printed
abbrev pub text_said : Option Goroutine → Said
text_said None = said.No refusals.NotThere
text_said (Some g) = said.Lines g.text

-- the steps of a log, with their kinds
abbrev pub log_said : (p : Program) → List (Logged p) → Said
log_said p log = said.Log (map (λ l. (id_of p l, step_kind p l)) log)

-- the steps of records, with their kinds
abbrev pub records_said : List Record → Said
records_said records = said.Log (map (λ r. (r.id, r.change.kind)) records)

-- the lines that the steps of a log printed
abbrev pub console_said : (p : Program) → List (Logged p) → Said
console_said p log = said.Lines (console p log)
