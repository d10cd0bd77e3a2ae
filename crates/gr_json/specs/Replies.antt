-- JSON of replies.
use Rattle.std.specs.Prelude.{ℕ, List, [], ◌∷◌, Option, Some, None, codes}
use Rattle.serde_json.specs.Data.{Data, boolean, string}
use Rattle.gr_base.specs.declared.kinds.Kind.{Kind}
use Rattle.gr_base.specs.declared.kinds.Kind.TheVariants as kinds
use Rattle.gr_base.specs.declared.names.StepId.{StepId}
use Rattle.gr_base.specs.declared.values.Value.{Value}
use Rattle.gr_channels.specs.declared.waiter.Waiter.{Waiter}
use Rattle.gr_command.specs.Replies.{Said, Stepped, Ran, Undone, Shown, Channel, Lines, Log, Steps, PartlyDone, BreaksDependence, Acknowledged, Granted, Committed, Stale, No}
use Rattle.gr_command.specs.Texts.{said_text}
use Rattle.gr_command.specs.declared.refusal.Refusal.{Refusal}
use Rattle.gr_command.specs.declared.refusal.Refusal.TheVariants as refusals
use Rattle.gr_command.specs.declared.reply.RunEnd.{RunEnd}
use Rattle.gr_command.specs.declared.reply.RunEnd.TheVariants as ends
use Rattle.gr_json.specs.Parts.{text, count, go_data, step_data, value_data, kind_data, perhaps, list, fields}
use Rattle.gr_rules.specs.Goroutines.{Status, ready, waiting, finished}
use Rattle.gr_rules.specs.Tells.{FrameShown, GoroutineShown, ChannelShown}

-- what a reply is, and its parts
abbrev pub answer : List ℕ → List (List ℕ × Data) → Data
answer what parts = fields ((codes "answer", string what) ∷ parts)

-- a reply that tells a count of steps
abbrev pub counted : List ℕ → ℕ → Data
counted what steps = answer what ((codes "steps", count steps) ∷ [])

abbrev pub refusal_code : Refusal → List ℕ
refusal_code refusals.Ended = codes "N1"
refusal_code refusals.NotThere = codes "N2"
refusal_code refusals.Waits = codes "N3"
refusal_code refusals.Done = codes "N4"
refusal_code refusals.NoChoice = codes "N5"
refusal_code refusals.NoMemory = codes "N6"
refusal_code refusals.NothingToUndo = codes "B1"
refusal_code refusals.NotKept = codes "B2"
refusal_code refusals.NotTheSteps = codes "B3"
refusal_code refusals.NothingToRedo = codes "B5"
refusal_code refusals.LogFull = codes "Q1"

-- why a run ended, the kind of the step that stopped the program, and the line of a breakpoint
abbrev pub end_name : RunEnd → List ℕ
end_name ends.Ended = codes "ended"
end_name (ends.Fault fault) = codes "fault"
end_name ends.Count = codes "count"
end_name ends.Stuck = codes "stuck"
end_name ends.Full = codes "full"
end_name (ends.Break line) = codes "break"
end_name ends.Memory = codes "memory"

abbrev pub end_kind : RunEnd → Option Kind
end_kind end = elim end [ ends.Fault fault ↦ Some (kinds.Fault fault) | _ ↦ None ]

abbrev pub end_line : RunEnd → Option ℕ
end_line end = elim end [ ends.Break line ↦ Some line | _ ↦ None ]

abbrev pub status_name : Status → List ℕ
status_name ready = codes "ready"
status_name (waiting waits) = codes "waiting"
status_name finished = codes "done"

abbrev pub variable_data : List ℕ × Value → Data
variable_data variable = fields ((codes "name", text variable.0) ∷ (codes "value", value_data variable.1) ∷ [])

abbrev pub frame_data : FrameShown → Data
frame_data f = fields ((codes "function", text f.function) ∷ (codes "variables", list variable_data f.variables) ∷ [])

abbrev pub goroutine_data : List ℕ → GoroutineShown → Data
goroutine_data go g = answer (codes "goroutine") (
    (codes "frames", list frame_data g.frames)
    ∷ (codes "goroutine", go_data go)
    ∷ (codes "line", perhaps count g.line)
    ∷ (codes "status", string (status_name g.status))
    ∷ (codes "steps", count g.steps)
    ∷ [])

-- who waits to receive, and who to send, with the clause of a select
abbrev pub receiver_data : Waiter (Unit {0}) → Data
receiver_data w = fields ((codes "clause", perhaps count w.case) ∷ (codes "goroutine", go_data w.go) ∷ [])

abbrev pub sender_data : Waiter Value → Data
sender_data w = fields ((codes "clause", perhaps count w.case) ∷ (codes "goroutine", go_data w.go) ∷ (codes "value", value_data w.value) ∷ [])

abbrev pub shown_channel_data : ChannelShown → Data
shown_channel_data c = answer (codes "channel") (
    (codes "capacity", count c.capacity)
    ∷ (codes "closed", boolean c.closed)
    ∷ (codes "items", list value_data c.items)
    ∷ (codes "receivers", list receiver_data c.receivers)
    ∷ (codes "senders", list sender_data c.senders)
    ∷ [])

abbrev pub kept_data : StepId × Kind → Data
kept_data step = fields ((codes "id", step_data step.0) ∷ (codes "kind", kind_data step.1) ∷ [])

-- a reply by its parts
abbrev pub reply_data : Said → Data
reply_data (Stepped id kind) = answer (codes "stepped") ((codes "id", step_data id) ∷ (codes "kind", kind_data kind) ∷ [])
reply_data (Ran steps end) = answer (codes "ran") (
    (codes "end", string (end_name end))
    ∷ (codes "kind", perhaps kind_data (end_kind end))
    ∷ (codes "line", perhaps count (end_line end))
    ∷ (codes "steps", count steps)
    ∷ [])
reply_data (Undone id) = answer (codes "undone") ((codes "id", step_data id) ∷ [])
reply_data (Shown go g) = goroutine_data go g
reply_data (Channel c) = shown_channel_data c
reply_data (Lines lines) = answer (codes "lines") ((codes "lines", list text lines) ∷ [])
reply_data (Log steps) = answer (codes "log") ((codes "steps", list kept_data steps) ∷ [])
reply_data (Steps ids) = answer (codes "steps") ((codes "ids", list step_data ids) ∷ [])
reply_data (PartlyDone ids) = answer (codes "partly") ((codes "code", string (codes "B6")) ∷ (codes "ids", list step_data ids) ∷ [])
reply_data (BreaksDependence earlier later) = answer (codes "breaks") (
    (codes "code", string (codes "B4"))
    ∷ (codes "earlier", step_data earlier)
    ∷ (codes "later", step_data later)
    ∷ [])
reply_data Acknowledged = answer (codes "done") []
reply_data (Granted steps) = counted (codes "granted") steps
reply_data (Committed steps) = counted (codes "committed") steps
reply_data Stale = answer (codes "stale") []
reply_data (No why) = answer (codes "refused") ((codes "code", string (refusal_code why)) ∷ [])

-- a reply by its parts, beside its text
abbrev pub said_data : Said → Data
said_data said = fields ((codes "reply", reply_data said) ∷ (codes "text", text (said_text said)) ∷ [])
