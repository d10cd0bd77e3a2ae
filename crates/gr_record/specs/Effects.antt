-- What a step did, however it is kept: its kind, what it replaced in its goroutine, and what it reached beyond that.
use Rattle.std.specs.Prelude.{ℕ, List, Option, Some, None, false}
use Rattle.gr_base.specs.declared.names.ChName.{ChName}
use Rattle.gr_base.specs.declared.kinds.Kind.{Kind}
use Rattle.gr_base.specs.declared.kinds.Kind.TheVariants.{SendWait, RecvWait}
use Rattle.gr_channels.specs.declared.changes.ChanUndo.{ChanUndo}
use Rattle.gr_channels.specs.declared.changes.ChanUndo.TheVariants.{ParkedSender, ParkedReceiver}
use Rattle.gr_tables.specs.GoUndo.{GoUndo}
use Rattle.gr_tables.specs.GoUndo.TheVariants.{Parked}
use Rattle.gr_tables.specs.Kinds.{kind_of}
use Rattle.gr_tables.specs.Spot.{Spot}
use Rattle.gr_record.specs.declared.few.Few.{Few}
use Rattle.gr_record.specs.declared.few.Few.TheVariants.{Empty, One}
use Rattle.gr_record.specs.declared.record.Operation.TheVariants.{SendsOn, ReceivesFrom}
use Rattle.gr_record.specs.declared.record.Beyond.{Beyond}
use Rattle.gr_record.specs.declared.record.Contact.{Contact}
use Rattle.gr_record.specs.declared.record.Parts.TheVariants as parts
use Rattle.gr_record.specs.declared.record.Touched.{Touched}
use Rattle.gr_record.specs.declared.record.Passage.{Passage}
use Rattle.gr_record.specs.declared.record.Exchange.{Exchange}
use Rattle.gr_record.specs.declared.record.Form.{Form}
use Rattle.gr_record.specs.declared.record.Form.TheVariants.{Alone, WaitsToSend, WaitsToReceive, Passes, Exchanges, Further}
use Rattle.gr_record.specs.Parts.{channel_in}

pub record Effect : Type 0 where
  pub kind : Kind
  pub own : GoUndo
  pub beyond : Option Beyond

-- what a step touched that came to wait for a send: it read where the next value enters, and wrote the gate
abbrev pub touched_to_send : Option ℕ → Touched
touched_to_send slot = record { read = parts.Entrance; written = parts.Gate; slot = slot }

-- what a step touched that came to wait for a receive: it read where the front item is, and wrote the gate
abbrev pub touched_to_receive : Option ℕ → Touched
touched_to_receive slot = record { read = parts.Exit; written = parts.Gate; slot = slot }

-- one change of a channel, if there is one
abbrev pub one_or_none : ChName → Option ChanUndo → Few (ChName × ChanUndo)
one_or_none c None = Empty
one_or_none c (Some undo) = One (c, undo)

-- what a step reached that communicated over a channel and met nobody, with its change of the channel, if there was one
abbrev pub reached_on : Contact → Option ChanUndo → Beyond
reached_on c undo = record {
  operation = Some c.operation;
  touched = c.touched;
  stops = false;
  partner = None;
  met = Empty;
  channels = one_or_none (channel_in c.operation) undo;
  more = None;
}

abbrev pub reached_by_passage : Passage → Beyond
reached_by_passage p = reached_on p.contact p.undo

-- what it reached that met this goroutine, with its change
abbrev pub met_on : Contact → Option ChanUndo → List ℕ × GoUndo → Beyond
met_on c undo met = record (reached_on c undo) { partner = Some met.0; met = One met }

abbrev pub reached_by_exchange : Exchange → Beyond
reached_by_exchange e = met_on e.passage.contact e.passage.undo e.met

-- what a step did that came to wait for a send on a channel, or for a receive from it: it came to stand in a queue there
abbrev pub wait_to_send : Option ℕ → ChName → Spot → Effect
wait_to_send slot c spot = record {
  kind = SendWait;
  own = Parked spot;
  beyond = Some (reached_on (record { operation = SendsOn c; touched = touched_to_send slot }) (Some ParkedSender));
}

abbrev pub wait_to_receive : Option ℕ → ChName → Spot → Effect
wait_to_receive slot c spot = record {
  kind = RecvWait;
  own = Parked spot;
  beyond = Some (reached_on (record { operation = ReceivesFrom c; touched = touched_to_receive slot }) (Some ParkedReceiver));
}

abbrev pub effect_in : Form → Effect
effect_in (Alone kind own) = record { kind = kind_of kind; own = own; beyond = None }
effect_in (WaitsToSend slot c spot) = wait_to_send slot c spot
effect_in (WaitsToReceive slot c spot) = wait_to_receive slot c spot
effect_in (Passes kind p) = record { kind = kind; own = p.value.own; beyond = Some (reached_by_passage p.value) }
effect_in (Exchanges kind e) = record { kind = kind; own = e.value.passage.own; beyond = Some (reached_by_exchange e.value) }
effect_in (Further kind f) = record { kind = kind; own = f.value.own; beyond = Some f.value.beyond }
