-- What replies say, as the rules tell it.
use Rattle.std.specs.Prelude.{ℕ, List, [], map, Option, Some, None, Vec}
use Rattle.std.proofs.Common.{Global}
use Rattle.gr_base.specs.declared.kinds.Kind.{Kind}
use Rattle.gr_base.specs.declared.names.StepId.{StepId}
use Rattle.gr_base.specs.declared.values.Value.{Value}
use Rattle.gr_rules.specs.Attempts as attempts
use Rattle.gr_rules.specs.Goroutines as rules
use Rattle.gr_rules.specs.Tells.{FrameShown, GoroutineShown, ChannelShown}
use Rattle.gr_rules.specs.Turns as turns
use Rattle.gr_command.specs.declared.refusal.Refusal.{Refusal}
use Rattle.gr_command.specs.declared.refusal.Refusal.TheVariants as refusals
use Rattle.gr_command.specs.declared.reply.RunEnd.{RunEnd}
use Rattle.gr_command.specs.declared.reply.RunEnd.TheVariants as ends
use Rattle.gr_command.specs.declared.reply.Status.{Status}
use Rattle.gr_command.specs.declared.reply.Status.TheVariants.{Ready, Waiting, Done}
use Rattle.gr_command.specs.declared.reply.FrameShown.{FrameShown as FrameInReply}
use Rattle.gr_command.specs.declared.reply.GoroutineShown.{GoroutineShown as GoroutineInReply}
use Rattle.gr_command.specs.declared.reply.ChannelShown.{ChannelShown as ChannelInReply}
use Rattle.gr_command.specs.declared.reply.Reply.{Reply}
use Rattle.gr_command.specs.declared.reply.Reply.TheVariants as replies

-- a reply, as it is read
pub data Said : Type 0 where
  Stepped : (id : StepId) (kind : Kind) → Said
  Ran : (steps : ℕ) (end : RunEnd) → Said
  Undone : (id : StepId) → Said
  Shown : (go : List ℕ) (shown : GoroutineShown) → Said
  Channel : (shown : ChannelShown) → Said
  Lines : (lines : List (List ℕ)) → Said
  Log : (steps : List (StepId × Kind)) → Said
  -- these steps were asked for, or were taken back, or taken again
  Steps : (ids : List StepId) → Said
  -- only these were taken back, or taken again: there was no memory for more
  PartlyDone : (ids : List StepId) → Said
  -- these two conflict and would change places
  BreaksDependence : (earlier later : StepId) → Said
  Acknowledged : Said
  -- workers may take this many steps
  Granted : (steps : ℕ) → Said
  -- this many steps of a batch joined the log
  Committed : (steps : ℕ) → Said
  -- no step of a batch joined the log, since it is of another program, goroutine or grant than is there
  Stale : Said
  No : (why : Refusal) → Said

-- the lines of a list of lines
abbrev pub lines_in : List (Vec ℕ Global) → List (List ℕ)
lines_in lines = map (λ line. line.items) lines

-- a status, without what is waited for
abbrev pub status_in : Status → rules.Status
status_in Ready = rules.ready
status_in Waiting = rules.waiting []
status_in Done = rules.finished

-- a variable that a reply shows
abbrev pub variable_in : Vec ℕ Global × Value → List ℕ × Value
variable_in variable = (variable.0.items, variable.1)

-- a frame that a reply shows
abbrev pub frame_in : FrameInReply → FrameShown
frame_in f = record { function = f.function.items; variables = map variable_in f.variables.items }

-- a goroutine that a reply shows, without its name
abbrev pub goroutine_in : GoroutineInReply → GoroutineShown
goroutine_in g = record { status = status_in g.status; steps = g.steps; line = g.line; frames = map frame_in g.frames.items }

-- a channel that a reply shows
abbrev pub channel_in : ChannelInReply → ChannelShown
channel_in c = record { capacity = c.capacity; closed = c.closed; items = c.items.items; senders = c.senders.items; receivers = c.receivers.items }

-- what a reply says
abbrev pub said_of : Reply → Said
said_of (replies.Stepped id kind) = Stepped id kind
said_of (replies.Ran steps end) = Ran steps end
said_of (replies.Undone id) = Undone id
said_of (replies.Shown g) = Shown g.go (goroutine_in g)
said_of (replies.Channel c) = Channel (channel_in c)
said_of (replies.Lines lines) = Lines (lines_in lines.items)
said_of (replies.Log steps) = Log steps.items
said_of (replies.Steps ids) = Steps ids.items
said_of (replies.PartlyDone ids) = PartlyDone ids.items
said_of (replies.BreaksDependence earlier later) = BreaksDependence earlier later
said_of replies.Acknowledged = Acknowledged
said_of (replies.Granted steps) = Granted steps
said_of (replies.Committed steps) = Committed steps
said_of replies.Stale = Stale
said_of (replies.Refused why) = No why

-- a status as replies have it, without what is waited for
abbrev pub without_waits : rules.Status → rules.Status
without_waits rules.ready = rules.ready
without_waits (rules.waiting waits) = rules.waiting []
without_waits rules.finished = rules.finished

-- what a reply tells of a goroutine that is shown
abbrev pub told : GoroutineShown → GoroutineShown
told g = record g { status = without_waits g.status }

-- why many steps ended, as the rules tell it; they do not know out of memory
abbrev pub end_in : RunEnd → Option turns.RunEnd
end_in ends.Ended = Some turns.program_ended
end_in (ends.Fault fault) = Some (turns.program_faulted fault)
end_in ends.Count = Some turns.all_taken
end_in ends.Stuck = Some turns.none_ready
end_in ends.Full = Some turns.log_full
end_in (ends.Break line) = Some (turns.at_break line)
end_in ends.Memory = None

-- why a step is not possible, as a reply tells it; the last reason holds in no state that a checked program reaches
abbrev pub refusal_told : attempts.Refusal → Option Refusal
refusal_told attempts.program_is_over = Some refusals.Ended
refusal_told attempts.no_such_goroutine = Some refusals.NotThere
refusal_told attempts.goroutine_is_done = Some refusals.Done
refusal_told attempts.goroutine_waits = Some refusals.Waits
refusal_told attempts.no_such_choice = Some refusals.NoChoice
refusal_told attempts.unsound = None
