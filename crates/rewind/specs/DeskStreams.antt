-- A stream between a desk, a reader and a writer.
use Rattle.std.specs.Prelude.{◌≡◌}
use Rattle.gr_command.specs.declared.command.Command.{Command}
use Rattle.gr_command.specs.Replies.{said_of}
use Rattle.gr_share.specs.AskRefused.TheVariants as refusals
use Rattle.gr_share.specs.Receipt.{Receipt}
use Rattle.gr_share.specs.Calls.{Asker, GainsBy, after_refusal}
use Rattle.gr_share.specs.declared.desk.Asked.TheVariants as asks
use Rattle.gr_serve.specs.declared.stream.ServeFault.{ServeFault}
use Rattle.gr_lines.specs.Devices.{Change, Fails}
use Rattle.gr_serve.specs.Replies.{Answer, Replied, JournalFull, NoMemory}
use Rattle.gr_serve.specs.Served.{ServedAll}
use Rattle.gr_serve.specs.Fault.{Left}

-- what a desk of a shared session answers: it has a call more, with this reply on its receipt, or was refused
abbrev pub of_desk : Asker → Command → Answer → Asker → Type 0
of_desk old c (Replied said) new = (r : Receipt) × GainsBy old (asks.Command c) r new × (said ≡ said_of r.reply)
of_desk old c JournalFull new = new ≡ after_refusal refusals.JournalFull old
of_desk old c NoMemory new = new ≡ after_refusal refusals.NoMemory old

-- the lines that the reader gave were answered, and the writer got the answers
abbrev pub Serves : (old new : Asker) → (reader writer : Change) → Type 0
Serves old new reader writer =
    ServedAll of_desk reader.old.bytes reader.new.bytes old new
    writer.old.bytes writer.new.bytes

-- what a fault leaves of a stream
abbrev pub Leaves : ServeFault → (old new : Asker) → (reader writer : Change) → Type 0
Leaves fault old new reader writer =
    Left fault of_desk reader.old.bytes reader.new.bytes old new
    writer.old.bytes writer.new.bytes (Fails reader) (Fails writer)
