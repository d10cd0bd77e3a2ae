-- What a step moves over a channel, and what it prints, by the rules: of a step of a log, and of the state in which it began.
use Rattle.std.specs.Prelude.{◌%◌, ℕ, List, [], ◌∷◌, slice_get, Option, Some, None, option_map, option_and_then, if◌then◌else◌}
use Rattle.std.specs.Option.{option_or}
use Rattle.gr_base.specs.declared.events.Choice.{Choice}
use Rattle.gr_base.specs.declared.events.Choice.TheVariants as choices
use Rattle.gr_base.specs.declared.events.Event.{Event}
use Rattle.gr_base.specs.declared.kinds.Kind.{Kind}
use Rattle.gr_base.specs.declared.names.ChName.{ChName}
use Rattle.gr_base.specs.declared.names.StepId.{StepId}
use Rattle.gr_base.specs.declared.values.Value.{Value}
use Rattle.gr_channels.specs.declared.waiter.Waiter.{Waiter}
use Rattle.gr_channels.specs.Objects.{GateContent}
use Rattle.gr_depend.specs.Histories.{is_fault}
use Rattle.gr_laws.specs.Reached.{Logged}
use Rattle.gr_program.specs.Programs.{Program}
use Rattle.gr_record.specs.Pairs.{id_of, step_kind}
use Rattle.gr_rules.specs.Actors.{clause_at}
use Rattle.gr_rules.specs.Deeds.{Communication, Sending, Receiving, Deed, Communicates, Chooses, deed}
use Rattle.gr_rules.specs.Frames.{Frame}
use Rattle.gr_rules.specs.Outcomes.{Outcome, gives}
use Rattle.gr_rules.specs.States.{State}

-- Its name. The value that it sent or received, or with which it began to wait as a sender. The line that it printed.
pub record Moved : Type 0 where
  pub id : StepId
  pub value : Option Value
  pub printed : Option (List ℕ)

-- the send or the receive of a choice: that of the statement or of its next part, or that of the picked clause
abbrev pub communication_by : Choice → Outcome Deed → Option Communication
communication_by choices.Plain (gives (Communicates c)) = Some c
communication_by (choices.Pick i) (gives (Chooses cs)) = clause_at cs i
communication_by _ _ = None

abbrev pub communication_in : Choice → List Frame → Option Communication
communication_in choice [] = None
communication_in choice (f ∷ below) = communication_by choice (deed f)

-- the front item of the buffer, which stands in the slot of the head; no slot of a channel without a buffer has an item
abbrev pub front_item : State → ChName → GateContent → Option (ℕ × Value)
front_item s c gate = s.slots c (s.heads c % gate.capacity)

-- the value of the sender that is served first
abbrev pub first_sent : List (Waiter Value) → Option Value
first_sent ws = option_map (λ w. w.value) (slice_get ws 0)

-- What a receive gets: the front item; with no item the value of the first waiting sender; with no sender either the zero value
-- of a closed channel (Go: Receive operator). Otherwise it gets nothing, and waits.
abbrev pub received : State → ChName → Value → GateContent → Option Value
received s c zero gate =
    option_or (option_map (λ item. item.1) (front_item s c gate))
    (option_or (first_sent gate.senders) (if gate.closed then Some zero else None))

-- what a send sends, also one that waits, and what a receive gets
abbrev pub value_in : State → Communication → Option Value
value_in s (Sending channel (gives v)) = Some v
value_in s (Receiving (Some c) zero) = option_and_then (received s c zero) (s.gates c)
value_in s _ = None

-- what a step of an event and of this kind moves, from the state; a fault moves nothing
abbrev pub value_moved : State → Event → Kind → Option Value
value_moved s e kind =
    if is_fault kind
    then None
    else option_and_then (λ g. option_and_then (value_in s) (communication_in e.choice g.frames)) (s.goroutines e.go)

-- what is told of a step that began in the state
abbrev pub moved : (p : Program) → State → Logged p → Moved
moved p s l = record { id = id_of p l; value = value_moved s l.event (step_kind p l); printed = l.note.kind.printed }
