-- What a store tells of a step: the send or the receive that a need asks for, before it, and the last line, after it.
use Rattle.std.specs.Prelude.{◌-◌, ℕ, List, length, slice_get, if◌then◌else◌, Option, None}
use Rattle.std.specs.Option.{option_or}
use Rattle.gr_base.specs.declared.events.Choice.{Choice}
use Rattle.gr_base.specs.declared.values.Value.{Value}
use Rattle.gr_channels.specs.Channels.{Content}
use Rattle.gr_facts.specs.Moved.{communication_by, first_sent}
use Rattle.gr_goros.specs.Before.{is_printed}
use Rattle.gr_goros.specs.Views.{communications_of}
use Rattle.gr_goros.specs.declared.needs.Need.{Need}
use Rattle.gr_goros.specs.declared.needs.Need.TheVariants as needs
use Rattle.gr_record.specs.declared.record.Record.{Record}
use Rattle.gr_laws.specs.Consoles.{text_of}
use Rattle.gr_rules.specs.Deeds.{Communication, Sending, Receiving, Communicates, Chooses}
use Rattle.gr_rules.specs.Outcomes.{gives}
use Rattle.gr_rules.specs.States.{State}

-- with a choice
abbrev pub communication_wanted : Choice → Need → Option Communication
communication_wanted choice (needs.Send c v) = communication_by choice (gives (Communicates (Sending c (gives v))))
communication_wanted choice (needs.Receive c zero) = communication_by choice (gives (Communicates (Receiving c zero)))
communication_wanted choice (needs.Select cs) = communication_by choice (gives (Chooses (communications_of cs.items)))
communication_wanted choice _ = None

-- the value that a receive takes out of a channel, if there is one: that of the front item, else that of the first sender
abbrev pub next_value : Content → Option Value
next_value c = option_or (slice_get c.items 0) (first_sent c.senders)

-- the last of the lines, if there is one
abbrev pub last_of : List (List ℕ) → Option (List ℕ)
last_of lines = slice_get lines (length lines - 1)

-- the last line that a goroutine printed
abbrev pub last_line_of : State → List ℕ → Option (List ℕ)
last_line_of s go = last_of (text_of (s.goroutines go))

-- the line that the step of a record printed, in the state after it
abbrev pub line_after : State → Record → Option (List ℕ)
line_after s r = if is_printed r.change.own then last_line_of s r.id.go else None
