-- Steps of a log that commands ask for: the one that started a goroutine, and the sends and receives on a channel.
use Rattle.std.specs.Prelude.{ℕ, zero, suc, Bool, true, false, not, ◌&&◌, List, find, filter, slice_get, Option, Some, None}
use Rattle.std.specs.List.{list_any}
use Rattle.gr_base.specs.declared.names.ChName.{ChName}
use Rattle.gr_base.specs.declared.kinds.Kind.{Kind}
use Rattle.gr_base.specs.declared.kinds.Kind.TheVariants as kinds
use Rattle.gr_base.specs.declared.kinds.Kind.TheVariants.{Hand, Buffer, SendWait, Take, Meet, Closed, RecvWait}
use Rattle.gr_base.specs.declared.objects.Object.TheVariants.{Go}
use Rattle.gr_causal.specs.Machine.{StepOf}
use Rattle.gr_program.specs.Programs.{Program}
use Rattle.gr_rules.specs.Operators.{same_channel}
use Rattle.gr_rules.specs.States.{same_go, same}
use Rattle.gr_rules.specs.Attempts.{Operation, sends_on, receives_from}
use Rattle.gr_rules.specs.Steps.{machine}

abbrev pub is_go : Kind → Bool
is_go kind = elim kind [ kinds.Go ↦ true | _ ↦ false ]

-- whether the step started the goroutine: a `go` of another that wrote it (Go: Go statements)
abbrev pub starts : (p : Program) → List ℕ → StepOf (machine p) → Bool
starts p g r = is_go r.note.kind.deed && not (same_go g r.event.go) && list_any (same (Go g)) r.note.writes

-- the step that started the goroutine; that of `main` has none
abbrev pub start_of : (p : Program) → List ℕ → List (StepOf (machine p)) → Option (StepOf (machine p))
start_of p g log = find (starts p g) log

-- whether a step of this kind sends, or comes to wait for that
abbrev pub sends : Kind → Bool
sends kind = elim kind [ Hand ↦ true | Buffer ↦ true | SendWait ↦ true | _ ↦ false ]

-- whether a step of this kind receives, or comes to wait for that
abbrev pub receives : Kind → Bool
receives kind = elim kind [ Take ↦ true | Meet ↦ true | Closed ↦ true | RecvWait ↦ true | _ ↦ false ]

abbrev pub is_on : ChName → Option Operation → Bool
is_on c operation = elim operation [ Some (sends_on d) ↦ same_channel c d | Some (receives_from d) ↦ same_channel c d | _ ↦ false ]

-- the steps that sent on the channel, and those that received from it, in the order of the log; a fault does neither (Go: Send
-- statements, Receive operator)
abbrev pub sends_to : (p : Program) → ChName → List (StepOf (machine p)) → List (StepOf (machine p))
sends_to p c log = filter (λ r. sends r.note.kind.deed && is_on c r.note.kind.operation) log

abbrev pub receives_of : (p : Program) → ChName → List (StepOf (machine p)) → List (StepOf (machine p))
receives_of p c log = filter (λ r. receives r.note.kind.deed && is_on c r.note.kind.operation) log

-- the one with a number, counted from 1
abbrev pub numbered_step : {A : Type 0} → ℕ → List A → Option A
numbered_step zero rs = None
numbered_step (suc i) rs = slice_get rs i

-- the send with this number on the channel, and the receive
abbrev pub sent : (p : Program) → ChName → ℕ → List (StepOf (machine p)) → Option (StepOf (machine p))
sent p c k log = numbered_step k (sends_to p c log)

abbrev pub received : (p : Program) → ChName → ℕ → List (StepOf (machine p)) → Option (StepOf (machine p))
received p c k log = numbered_step k (receives_of p c log)
