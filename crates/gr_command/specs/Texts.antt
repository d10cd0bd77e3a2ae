-- The text of each reply.
use Rattle.std.specs.Prelude.{ℕ, Bool, List, [], ◌++◌, length, Option, Some, None, if◌then◌else◌, codes, decimal}
use Rattle.std.specs.List.{flat_map}
use Rattle.gr_base.specs.Kinds.{kind_text}
use Rattle.gr_base.specs.Names.{go_text, step_text}
use Rattle.gr_base.specs.Values.{value_text}
use Rattle.gr_base.specs.declared.kinds.Kind.{Kind}
use Rattle.gr_base.specs.declared.names.StepId.{StepId}
use Rattle.gr_base.specs.declared.values.Value.{Value}
use Rattle.gr_channels.specs.declared.waiter.Waiter.{Waiter}
use Rattle.gr_rules.specs.Goroutines.{Status, ready, waiting, finished}
use Rattle.gr_rules.specs.Tells.{FrameShown, GoroutineShown, ChannelShown}
use Rattle.gr_command.specs.declared.refusal.Refusal.{Refusal}
use Rattle.gr_command.specs.declared.refusal.Refusal.TheVariants as refusals
use Rattle.gr_command.specs.declared.reply.RunEnd.{RunEnd}
use Rattle.gr_command.specs.declared.reply.RunEnd.TheVariants as ends
use Rattle.gr_command.specs.declared.reply.Reply.{Reply}
use Rattle.gr_command.specs.Replies.{Said, Stepped, Ran, Undone, Shown, Channel, Lines, Log, Steps, PartlyDone, BreaksDependence, Acknowledged, Granted, Committed, Stale, No, said_of}

-- a refusal by its code
abbrev pub refusal_text : Refusal → List ℕ
refusal_text refusals.Ended = codes "no N1\n"
refusal_text refusals.NotThere = codes "no N2\n"
refusal_text refusals.Waits = codes "no N3\n"
refusal_text refusals.Done = codes "no N4\n"
refusal_text refusals.NoChoice = codes "no N5\n"
refusal_text refusals.NoMemory = codes "no N6\n"
refusal_text refusals.NothingToUndo = codes "no B1\n"
refusal_text refusals.NotKept = codes "no B2\n"
refusal_text refusals.NotTheSteps = codes "no B3\n"
refusal_text refusals.NothingToRedo = codes "no B5\n"
refusal_text refusals.LogFull = codes "no Q1\n"

-- why many steps ended
abbrev pub end_text : RunEnd → List ℕ
end_text ends.Ended = codes "ended"
end_text (ends.Fault fault) = codes "fault"
end_text ends.Count = codes "count"
end_text ends.Stuck = codes "stuck"
end_text ends.Full = codes "full"
end_text (ends.Break line) = codes "break " ++ decimal line
end_text ends.Memory = codes "memory"

-- a line after `| `
abbrev pub row : List ℕ → List ℕ
row line = codes "| " ++ (line ++ codes "\n")

-- the text of each, as a row
abbrev pub rows : {A : Type 0} → (A → List ℕ) → List A → List ℕ
rows text_of xs = flat_map (λ x. row (text_of x)) xs

-- a text after a space
abbrev pub spaced : List ℕ → List ℕ
spaced text = codes " " ++ text

-- the text of each, after a space
abbrev pub each_spaced : {A : Type 0} → (A → List ℕ) → List A → List ℕ
each_spaced text_of xs = flat_map (λ x. spaced (text_of x)) xs

-- a status, between a name and a count of steps
abbrev pub status_text : Status → List ℕ
status_text ready = codes " ready "
status_text (waiting waits) = codes " waiting "
status_text finished = codes " done "

-- the line of the next step, if there is one
abbrev pub line_text : Option ℕ → List ℕ
line_text None = []
line_text (Some line) = codes " line " ++ decimal line

-- a variable and its value
abbrev pub variable_text : List ℕ × Value → List ℕ
variable_text variable = variable.0 ++ (codes "=" ++ value_text variable.1)

-- a frame: its function and its variables
abbrev pub frame_text : FrameShown → List ℕ
frame_text f = f.function ++ each_spaced variable_text f.variables

-- where a goroutine stands: its status, its count of steps, its line
abbrev pub standing_text : Status → ℕ → Option ℕ → List ℕ
standing_text status steps line = status_text status ++ (decimal steps ++ line_text line)

-- a goroutine: its name, and where it stands
abbrev pub goroutine_text : List ℕ → GoroutineShown → List ℕ
goroutine_text go g = go_text go ++ standing_text g.status g.steps g.line

-- the clause that waits, where it is one of a select
abbrev pub clause_text : Option ℕ → List ℕ
clause_text None = []
clause_text (Some clause) = codes "@" ++ decimal clause

-- who waits
abbrev pub waiter_text : {X : Type 0} → Waiter X → List ℕ
waiter_text w = go_text w.go ++ clause_text w.case

-- who waits to send, and what
abbrev pub sender_text : Waiter Value → List ℕ
sender_text w = waiter_text w ++ (codes "=" ++ value_text w.value)

-- whether a channel is closed
abbrev pub state_text : Bool → List ℕ
state_text closed = if closed then codes " closed" else codes " open"

-- a channel without what it holds
abbrev pub capacity_text : ℕ → Bool → List ℕ
capacity_text capacity closed = codes "cap " ++ (decimal capacity ++ state_text closed)

-- a list behind its name
abbrev pub list_text : {A : Type 0} → List ℕ → (A → List ℕ) → List A → List ℕ
list_text name text_of xs = name ++ each_spaced text_of xs

-- who waits on a channel, in two rows
abbrev pub queue_rows : List (Waiter Value) → List (Waiter (Unit {0})) → List ℕ
queue_rows senders receivers = row (list_text (codes "senders") sender_text senders) ++ row (list_text (codes "receivers") waiter_text receivers)

-- a channel: its capacity, whether it is closed, its items, and who waits
abbrev pub channel_rows : ChannelShown → List ℕ
channel_rows c =
    row (capacity_text c.capacity c.closed) ++ (row (list_text (codes "items") value_text c.items) ++ queue_rows c.senders c.receivers)

-- a step and its kind
abbrev pub taken_text : StepId × Kind → List ℕ
taken_text step = step_text step.0 ++ (codes " " ++ kind_text step.1)

-- this many steps, and why they ended
abbrev pub ran_text : ℕ → RunEnd → List ℕ
ran_text steps end = decimal steps ++ (codes " " ++ (end_text end ++ codes "\n"))

-- the last line, where it tells a number
abbrev pub total_text : ℕ → List ℕ
total_text n = codes "ok " ++ (decimal n ++ codes "\n")

-- a count of steps and their names, as the end of a line
abbrev pub ids_text : List StepId → List ℕ
ids_text ids = decimal (length ids) ++ (each_spaced step_text ids ++ codes "\n")

-- two steps
abbrev pub pair_text : StepId → StepId → List ℕ
pair_text first second = step_text first ++ (codes " " ++ step_text second)

-- the text of a reply: rows, and a last line that begins `ok` or `no`
abbrev pub said_text : Said → List ℕ
said_text (Stepped id kind) = codes "ok " ++ (taken_text (id, kind) ++ codes "\n")
said_text (Ran steps end) = codes "ok " ++ ran_text steps end
said_text (Undone id) = codes "ok " ++ (step_text id ++ codes "\n")
said_text (Shown go g) = row (goroutine_text go g) ++ (rows frame_text g.frames ++ codes "ok\n")
said_text (Channel c) = channel_rows c ++ codes "ok\n"
said_text (Lines lines) = rows (λ line. line) lines ++ codes "ok\n"
said_text (Log steps) = rows taken_text steps ++ total_text (length steps)
said_text (Steps ids) = codes "ok " ++ ids_text ids
said_text (PartlyDone ids) = codes "no B6 " ++ ids_text ids
said_text (BreaksDependence earlier later) = codes "no B4 " ++ (pair_text earlier later ++ codes "\n")
said_text Acknowledged = codes "ok\n"
said_text (Granted steps) = codes "ok grant " ++ (decimal steps ++ codes "\n")
said_text (Committed steps) = codes "ok batch " ++ (decimal steps ++ codes "\n")
said_text Stale = codes "no stale\n"
said_text (No why) = refusal_text why

-- the text of a reply of the code
abbrev pub reply_text : Reply → List ℕ
reply_text reply = said_text (said_of reply)
