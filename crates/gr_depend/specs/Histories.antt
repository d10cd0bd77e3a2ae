-- Steps of a log that commands ask for, as the rules tell them, by their records.
use Rattle.std.specs.Prelude.{ℕ, Bool, true, false, not, ◌&&◌, List, find, filter, Option, Some, None, option_map}
use Rattle.std.specs.List.{list_any}
use Rattle.gr_base.specs.declared.names.ChName.{ChName}
use Rattle.gr_base.specs.declared.names.StepId.{StepId}
use Rattle.gr_base.specs.declared.objects.Object.TheVariants.{Go}
use Rattle.gr_base.specs.declared.kinds.Kind.{Kind}
use Rattle.gr_base.specs.declared.kinds.Kind.TheVariants.{Fault}
use Rattle.gr_rules.specs.Attempts.{Operation, sends_on, receives_from}
use Rattle.gr_rules.specs.History.{is_go, numbered_step}
use Rattle.gr_rules.specs.Operators.{same_channel}
use Rattle.gr_rules.specs.States.{same_go, same}
use Rattle.gr_record.specs.declared.record.Record.{Record}
use Rattle.gr_record.specs.Records.{operation_in}
use Rattle.gr_record.specs.Conflicts.{written_by}

-- whether the step started the goroutine
abbrev pub starts : List ℕ → Record → Bool
starts g r = is_go r.change.kind && not (same_go g r.id.go) && list_any (same (Go g)) (written_by r)

-- the name of the step that started the goroutine
abbrev pub start_of : List ℕ → List Record → Option StepId
start_of g rs = option_map (λ r. r.id) (find (starts g) rs)

-- whether the step was a fault
abbrev pub is_fault : Kind → Bool
is_fault kind = elim kind [ Fault e ↦ true | _ ↦ false ]

-- Whether the step sent on the channel or came to wait for that, and whether it received from it or came to wait for that. It
-- did so as a statement, or as a clause that was picked. A fault did not (Go: Send statements, Receive operator).
abbrev pub sends_to : ChName → Record → Bool
sends_to c r = elim (operation_in r.change) [ Some (sends_on d) ↦ same_channel c d && not (is_fault r.change.kind) | _ ↦ false ]

abbrev pub receives_of : ChName → Record → Bool
receives_of c r = elim (operation_in r.change) [ Some (receives_from d) ↦ same_channel c d && not (is_fault r.change.kind) | _ ↦ false ]

-- the channel on which an operation sends, and the one from which it receives
abbrev pub sends_over : Operation → Option ChName
sends_over o = elim o [ sends_on d ↦ Some d | _ ↦ None ]

abbrev pub receives_over : Operation → Option ChName
receives_over o = elim o [ receives_from d ↦ Some d | _ ↦ None ]

-- the name of the send with this number on the channel, counted from 1, and of the receive
abbrev pub sent : ChName → ℕ → List Record → Option StepId
sent c k rs = option_map (λ r. r.id) (numbered_step k (filter (sends_to c) rs))

abbrev pub received : ChName → ℕ → List Record → Option StepId
received c k rs = option_map (λ r. r.id) (numbered_step k (filter (receives_of c) rs))
