-- Changes of the gates of several channels.
use Rattle.std.specs.Prelude.{◌≡◌, ℕ, Bool, true, not, ◌&&◌, List, [], ◌∷◌, map, fold, Option, option_map, if◌then◌else◌}
use Rattle.std.specs.List.{list_any}
use Rattle.gr_base.specs.declared.names.ChName.{ChName}
use Rattle.gr_channels.specs.Channels.{Content}
use Rattle.gr_channels.specs.Objects.{GateContent, gate_of}
use Rattle.gr_rules.specs.Operators.{same_channel}
use Rattle.gr_rules.specs.Deeds.{Communication}
use Rattle.gr_rules.specs.Goroutines.{Wait}
use Rattle.gr_rules.specs.Frames.{Frame}
use Rattle.gr_rules.specs.States.{Cell, gate_has}
use Rattle.gr_rules.specs.Actors.{without, channels_but}
use Rattle.gr_rules.specs.Communications.{enqueued}
use Rattle.gr_code.specs.CodeFrames.{CodeFrame}
use Rattle.gr_refine.specs.Contents.{Contents, with_channel}
use Rattle.gr_refine.specs.Changes.{Writes}

-- the channel with this gate
abbrev pub with_gate : GateContent → Content → Content
with_gate gate x = record x { capacity = gate.capacity; closed = gate.closed; senders = gate.senders; receivers = gate.receivers }

-- a change of gates leaves the capacity
abbrev pub KeepsCapacity : (ChName → GateContent → GateContent) → Type 0
KeepsCapacity f = (c : ChName) (gate : GateContent) → (f c gate).capacity ≡ gate.capacity

-- the gates of these channels, each changed
abbrev pub gate_cells : (ChName → GateContent → GateContent) → Contents → List ChName → List Cell
gate_cells f s cs = map (λ c. gate_has c (option_map (λ x. f c (gate_of x)) (s.channels c))) cs

abbrev pub gate_changed : (ChName → GateContent → GateContent) → Contents → ChName → Option Content
gate_changed f s c = option_map (λ x. with_gate (f c (gate_of x)) x) (s.channels c)

-- with the gates of these channels changed, all at once, and one after the other
abbrev pub with_gates : (ChName → GateContent → GateContent) → Contents → List ChName → Contents
with_gates f s cs = record s { channels = λ c. if list_any (same_channel c) cs then gate_changed f s c else s.channels c }

abbrev pub with_gates_in_turn : (ChName → GateContent → GateContent) → Contents → List ChName → Contents
with_gates_in_turn f s cs = fold (λ t c. with_channel t c (gate_changed f t c)) s cs

-- the change of a gate that withdraws these goroutines, and the one that puts a goroutine at the end of the queues
abbrev pub withdrawing : List (List ℕ) → ChName → GateContent → GateContent
withdrawing names c gate = without names gate

abbrev pub enqueuing : List ℕ → List (Option ℕ × Communication) → ChName → GateContent → GateContent
enqueuing name ws c gate = fold (λ gate w. enqueued name c gate w.0 w.1) gate ws

-- whether no channel stands twice among these
abbrev pub each_once : List ChName → Bool
each_once [] = true
each_once (c ∷ cs) = not (list_any (same_channel c) cs) && each_once cs

-- the changed gates are what is written
abbrev pub GatesAreWritten : Type 0
GatesAreWritten = (frame : CodeFrame → Frame) (f : ChName → GateContent → GateContent) (s : Contents) (cs : List ChName) → KeepsCapacity f
    → Writes frame s (with_gates f s cs) (gate_cells f s cs)

abbrev pub WithdrawingIsWritten : Type 0
WithdrawingIsWritten = (frame : CodeFrame → Frame) (names : List (List ℕ)) (s : Contents) (cs : List ChName)
    → Writes frame s (with_gates (withdrawing names) s cs) (gate_cells (withdrawing names) s cs)

abbrev pub EnqueuingIsWritten : Type 0
EnqueuingIsWritten = (frame : CodeFrame → Frame) (name : List ℕ) (ws : List (Option ℕ × Communication)) (s : Contents) (cs : List ChName)
    → Writes frame s (with_gates (enqueuing name ws) s cs) (gate_cells (enqueuing name ws) s cs)

-- gates that change one after the other, each once, change at once
abbrev pub GatesGoInTurn : Type 0
GatesGoInTurn = (f : ChName → GateContent → GateContent) (s : Contents) (cs : List ChName) → each_once cs ≡ true
    → with_gates_in_turn f s cs ≡ with_gates f s cs

-- the channels of waits that the rules name stand there once
abbrev pub WaitsNameChannelsOnce : Type 0
WaitsNameChannelsOnce = (seen : List ChName) (ws : List Wait) → each_once (channels_but seen ws) ≡ true
