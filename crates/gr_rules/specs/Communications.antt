-- Sends, receives and closing (Go: Send statements, Receive operator, Close, Channel types).
use Rattle.std.specs.Prelude.{fold, ℕ, ◌+◌, ◌%◌, Bool, true, false, List, [], ◌∷◌, ◌++◌, map, Option, Some, None, option_map, if◌then◌else◌}
use Rattle.std.specs.List.{list_any, flat_map}
use Rattle.gr_base.specs.declared.names.ChName.{ChName}
use Rattle.gr_base.specs.declared.values.Value.{Value}
use Rattle.gr_base.specs.declared.kinds.Fault.TheVariants.{SendOnClosed, CloseOfClosed, CloseOfNil}
use Rattle.gr_base.specs.declared.kinds.Kind.{Kind}
use Rattle.gr_base.specs.declared.kinds.Kind.TheVariants.{Hand, Meet, Buffer, Take, Closed, SendWait, RecvWait, Close}
use Rattle.gr_channels.specs.declared.waiter.Waiter.{Waiter}
use Rattle.gr_channels.specs.Objects.{GateContent}
use Rattle.gr_rules.specs.Outcomes.{gives}
use Rattle.gr_rules.specs.Operators.{same_channel}
use Rattle.gr_rules.specs.Frames.{goes_on}
use Rattle.gr_rules.specs.Deeds.{Communication, Sending, Receiving, Otherwise, past}
use Rattle.gr_rules.specs.Goroutines.{Wait, ToSend, ToReceive, Goroutine, ready, waiting}
use Rattle.gr_rules.specs.States.{same_go, Cell, go_has, gate_has, tail_has, head_has, slot_has}
use Rattle.gr_rules.specs.Attempts.{unsound, Operation, sends_on, receives_from, closes, Attempt, refuse, ask_tail, ask_gate, ask_room, ask_item}
use Rattle.gr_rules.specs.Actors.{Actor, onward, does, fault, given, without, channels_but, ask_waiter, ask_withdrawn, ask_met}

-- a communication that proceeds: what it did with the channel, its kind, what was got where it is a receive, and what else
-- the step writes
abbrev pub proceeds : Actor → Option ℕ → Operation → Kind → Option (Value × Bool) → List Cell → Attempt
proceeds a clause operation kind got cells = given a (past a.frame clause got) (λ f. does a clause (Some operation) kind (onward a f) cells)

-- The first waiting receiver gets the value. With none, the value enters the buffer, where there is room (Go: Send
-- statements: a send on an unbuffered channel can proceed if a receiver is ready, on a buffered one if there is room).
abbrev pub send_to : Actor → Option ℕ → ChName → GateContent → Value → Attempt → List (Waiter (Unit {0})) → Attempt
send_to a clause c gate v otherwise (w ∷ ws) = ask_met c w (Some (v, true)) (λ cells.
    proceeds a clause (sends_on c) Hand None (gate_has c (Some (without (w.go ∷ []) gate)) ∷ cells))
send_to a clause c gate v otherwise [] = ask_room c gate (elim [
  | Some n ↦ proceeds a clause (sends_on c) Buffer None (tail_has c (n + 1) ∷ slot_has c (n % gate.capacity) (Some (n, v)) ∷ [])
  | None ↦ otherwise
])

-- a send; on a closed channel it is a fault (Go: Send statements)
abbrev pub send : Actor → Option ℕ → ChName → Value → Attempt → Attempt
send a clause c v otherwise = ask_gate c (λ gate.
    if gate.closed then fault a (Some (sends_on c)) SendOnClosed else send_to a clause c gate v otherwise gate.receivers)

-- The front item is taken, and the value of the first waiting sender enters the buffer (Go: Channel types: channels act as
-- first-in-first-out queues).
abbrev pub take : Actor → Option ℕ → ChName → GateContent → ℕ × Value → List (Waiter Value) → Attempt
take a clause c gate item [] =
    proceeds a clause (receives_from c) Take (Some (item.1, true)) (head_has c (item.0 + 1) ∷ slot_has c (item.0 % gate.capacity) None ∷ [])
take a clause c gate item (w ∷ ws) = ask_tail c (λ n. ask_met c w None (λ cells.
    proceeds a clause (receives_from c) Take (Some (item.1, true)) (
    gate_has c (Some (without (w.go ∷ []) gate)) ∷ head_has c (item.0 + 1) ∷ tail_has c (n + 1)
    ∷ slot_has c (item.0 % gate.capacity) (Some (n, w.value)) ∷ cells)))

-- With no item, the first waiting sender gives its value. With no sender either, a closed channel gives the zero value and
-- `false` (Go: Receive operator).
abbrev pub receive_from : Actor → Option ℕ → ChName → GateContent → Value → Attempt → Option (ℕ × Value) → List (Waiter Value) → Attempt
receive_from a clause c gate zero otherwise (Some item) ws = take a clause c gate item ws
receive_from a clause c gate zero otherwise None (w ∷ ws) = ask_met c w None (λ cells.
    proceeds a clause (receives_from c) Meet (Some (w.value, true)) (gate_has c (Some (without (w.go ∷ []) gate)) ∷ cells))
receive_from a clause c gate zero otherwise None [] =
    if gate.closed then proceeds a clause (receives_from c) Closed (Some (zero, false)) [] else otherwise

abbrev pub receive : Actor → Option ℕ → ChName → Value → Attempt → Attempt
receive a clause c zero otherwise =
    ask_gate c (λ gate. ask_item c gate (λ item. receive_from a clause c gate zero otherwise item gate.senders))

-- a communication, whose value has been evaluated, where it can proceed; on nil it never can (Go: Send statements, Receive
-- operator)
abbrev pub communicate : Actor → Option ℕ → Communication → Attempt → Attempt
communicate a clause (Sending (Some c) (gives v)) otherwise = send a clause c v otherwise
communicate a clause (Sending (Some c) _) otherwise = refuse unsound
communicate a clause (Receiving (Some c) zero) otherwise = receive a clause c zero otherwise
communicate a clause _ otherwise = otherwise

-- the wait of a communication, with the number of its clause in a select; on nil it waits in no queue, forever
abbrev pub waits_for : Option ℕ → Communication → List Wait
waits_for clause (Sending (Some c) v) = ToSend c clause ∷ []
waits_for clause (Receiving (Some c) zero) = ToReceive c clause ∷ []
waits_for clause _ = []

abbrev pub all_waits : List (Option ℕ × Communication) → List Wait
all_waits ws = flat_map (λ w. waits_for w.0 w.1) ws

-- the gate of a channel with the goroutine at the end of the queue for a communication on it
abbrev pub enqueued : List ℕ → ChName → GateContent → Option ℕ → Communication → GateContent
enqueued name c gate clause (Sending (Some d) (gives v)) =
    if same_channel c d then record gate { senders = gate.senders ++ record { go = name; case = clause; value = v } ∷ [] } else gate
enqueued name c gate clause (Receiving (Some d) zero) =
    if same_channel c d then record gate { receivers = gate.receivers ++ record { go = name; case = clause; value = tt } ∷ [] } else gate
enqueued name c gate clause _ = gate

-- the gates of these channels with the goroutine in their queues for these communications
abbrev pub ask_enqueued : List ℕ → List (Option ℕ × Communication) → List ChName → (List Cell → Attempt) → Attempt
ask_enqueued name ws [] k = k []
ask_enqueued name ws (c ∷ cs) k = ask_gate c (λ gate. ask_enqueued name ws cs (λ cells.
    k (gate_has c (Some (fold (λ gate w. enqueued name c gate w.0 w.1) gate ws)) ∷ cells)))

-- it waits for any of these
abbrev pub wait : Actor → Option Operation → Kind → List (Option ℕ × Communication) → Attempt
wait a operation kind ws =
    ask_enqueued a.name ws (channels_but [] (all_waits ws)) (does a None operation kind (record (a.before) { status = waiting (all_waits ws); steps = a.before.steps + 1 }))

-- A send statement or a receive, which waits where it cannot proceed (Go: Send statements: communication blocks until the
-- send can proceed; Receive operator).
abbrev pub proceed_or_wait : Actor → Communication → Attempt
proceed_or_wait a (Sending c v) = communicate a None (Sending c v) (wait a (option_map sends_on c) SendWait ((None, Sending c v) ∷ []))
proceed_or_wait a (Receiving c zero) = communicate a None (Receiving c zero) (wait a (option_map receives_from c) RecvWait ((None, Receiving c zero) ∷ []))
proceed_or_wait a Otherwise = refuse unsound

-- names, each once
abbrev pub once : List (List ℕ) → List (List ℕ)
once [] = []
once (n ∷ ns) = if list_any (same_go n) ns then once ns else n ∷ once ns

-- these goroutines, which wait
abbrev pub ask_waiters : List (List ℕ) → (List (List ℕ × Goroutine × List Wait) → Attempt) → Attempt
ask_waiters [] k = k []
ask_waiters (n ∷ ns) k = ask_waiter n (λ g ws. ask_waiters ns (λ others. k ((n, g, ws) ∷ others)))

-- all that wait on the channel are ready again, at their operations, with all their waits withdrawn (Go: Close)
abbrev pub close_open : Actor → ChName → GateContent → List (List ℕ) → Attempt
close_open a c gate names = ask_waiters names (λ ws.
    ask_withdrawn names (channels_but (c ∷ []) (flat_map (λ w. w.2) ws)) (λ cells.
    does a None (Some (closes c)) Close (onward a (goes_on a.frame)) (
    gate_has c (Some (record gate { closed = true; senders = []; receivers = [] }))
    ∷ map (λ w. go_has w.0 (Some (record (w.1) { status = ready }))) ws ++ cells)))

-- a channel that is nil or closed may not be closed (Go: Close)
abbrev pub close : Actor → Option ChName → Attempt
close a None = fault a None CloseOfNil
close a (Some c) = ask_gate c (λ gate.
    if gate.closed then fault a (Some (closes c)) CloseOfClosed
    else close_open a c gate (once (map (λ w. w.go) gate.senders ++ map (λ w. w.go) gate.receivers)))
