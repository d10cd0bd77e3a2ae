-- What the rules learn where they ask for an object of a state, looked up in what a store contains.
use Rattle.std.specs.Prelude.{◌≡◌, ℕ, nat_lt, List, [], ◌∷◌, map, length, Option, Some, None, option_map, if◌then◌else◌}
use Rattle.gr_base.specs.declared.names.ChName.{ChName}
use Rattle.gr_base.specs.declared.values.Value.{Value}
use Rattle.gr_base.specs.declared.events.Event.{Event}
use Rattle.gr_channels.specs.Channels.{Content, IsChannel, tail_of}
use Rattle.gr_channels.specs.Objects.{GateContent, gate_of}
use Rattle.gr_program.specs.Programs.{Program}
use Rattle.gr_rules.specs.Frames.{Frame}
use Rattle.gr_rules.specs.Deeds.{deed}
use Rattle.gr_rules.specs.Goroutines.{Wait, ready, waiting, finished, Goroutine}
use Rattle.gr_rules.specs.States.{Run, live}
use Rattle.gr_rules.specs.Attempts.{program_is_over, no_such_goroutine, goroutine_is_done, goroutine_waits, Attempt, ask_run, ask_go, ask_tail, ask_head, ask_gate, ask_room, ask_item}
use Rattle.gr_rules.specs.Actors.{Actor, ask_waiter}
use Rattle.gr_rules.specs.Steps.{act_by, attempt}
use Rattle.gr_code.specs.CodeFrames.{CodeFrame}
use Rattle.gr_refine.specs.Contents.{Contents, goroutine_of, state_of}
use Rattle.gr_code.specs.Goroutines.{CodeGoroutine}
use Rattle.gr_refine.specs.Leaves.{leaf, Refuses}

-- the number of the next value that enters the buffer, where there is room
abbrev pub room_in : Content → Option ℕ
room_in x = if nat_lt (length x.items) x.capacity then Some (tail_of x) else None

-- the front item with its number, where there is one
abbrev pub numbered_front : ℕ → List Value → Option (ℕ × Value)
numbered_front n [] = None
numbered_front n (v ∷ vs) = Some (n, v)

abbrev pub front_in : Content → Option (ℕ × Value)
front_in x = numbered_front x.head x.items

-- in the state of what a store contains both attempts end in the same
abbrev pub Ends : (CodeFrame → Frame) → Contents → Attempt → Attempt → Type 0
Ends frame s a b = leaf (state_of frame s) a ≡ leaf (state_of frame s) b

-- whether the program runs, and a goroutine that may be there
abbrev pub RunIsLookedUp : Type 0
RunIsLookedUp = (frame : CodeFrame → Frame) (s : Contents) (k : Run → Attempt) → Ends frame s (ask_run k) (k s.run)

abbrev pub GoroutineIsLookedUp : Type 0
GoroutineIsLookedUp = (frame : CodeFrame → Frame) (s : Contents) (n : List ℕ) (k : Option Goroutine → Attempt)
    → Ends frame s (ask_go n k) (k (option_map (goroutine_of frame) (s.goroutines n)))

-- a goroutine that is there and waits
abbrev pub WaiterIsLookedUp : Type 0
WaiterIsLookedUp = (frame : CodeFrame → Frame) (s : Contents) (n : List ℕ) (g : CodeGoroutine) (ws : List Wait) (k : Goroutine → List Wait → Attempt)
    → s.goroutines n ≡ Some g → g.status ≡ waiting ws → Ends frame s (ask_waiter n k) (k (goroutine_of frame g) ws)

-- a channel that is there
abbrev pub GateIsLookedUp : Type 0
GateIsLookedUp = (frame : CodeFrame → Frame) (s : Contents) (c : ChName) (x : Content) (k : GateContent → Attempt) → s.channels c ≡ Some x
    → Ends frame s (ask_gate c k) (k (gate_of x))

abbrev pub TailIsLookedUp : Type 0
TailIsLookedUp = (frame : CodeFrame → Frame) (s : Contents) (c : ChName) (x : Content) (k : ℕ → Attempt) → s.channels c ≡ Some x
    → Ends frame s (ask_tail c k) (k (tail_of x))

abbrev pub HeadIsLookedUp : Type 0
HeadIsLookedUp = (frame : CodeFrame → Frame) (s : Contents) (c : ChName) (x : Content) (k : ℕ → Attempt) → s.channels c ≡ Some x
    → Ends frame s (ask_head c k) (k x.head)

-- whether there is room, and the front item, as its buffer has them
abbrev pub RoomIsLookedUp : Type 0
RoomIsLookedUp = (frame : CodeFrame → Frame) (s : Contents) (c : ChName) (x : Content) (k : Option ℕ → Attempt) → s.channels c ≡ Some x → IsChannel x
    → Ends frame s (ask_room c (gate_of x) k) (k (room_in x))

abbrev pub ItemIsLookedUp : Type 0
ItemIsLookedUp = (frame : CodeFrame → Frame) (s : Contents) (c : ChName) (x : Content) (k : Option (ℕ × Value) → Attempt) → s.channels c ≡ Some x
    → IsChannel x
    → Ends frame s (ask_item c (gate_of x) k) (k (front_in x))

-- the goroutine of an event at its next step
abbrev pub actor_of : (CodeFrame → Frame) → Program → Event → CodeGoroutine → CodeFrame → List CodeFrame → Actor
actor_of frame p e g f below = record { program = p; name = e.go; before = goroutine_of frame g; frame = frame f; below = map frame below }

-- The attempt of a goroutine that is there and ready, in a program that runs, is that of its innermost frame.
abbrev pub AttemptIsOfTheFrame : Type 0
AttemptIsOfTheFrame = (frame : CodeFrame → Frame) (s : Contents) (p : Program) (e : Event) (g : CodeGoroutine) (f : CodeFrame) (below : List CodeFrame)
    → s.run ≡ live → s.goroutines e.go ≡ Some g → g.status ≡ ready → g.frames ≡ f ∷ below
    → Ends frame s (attempt p e) (act_by (actor_of frame p e g f below) e.choice (deed (frame f)))

-- why an event is refused before its goroutine is asked what it does
abbrev pub OverIsRefused : Type 0
OverIsRefused = (frame : CodeFrame → Frame) (s : Contents) (p : Program) (e : Event) → ¬ (s.run ≡ live)
    → Refuses (attempt p e) (state_of frame s) program_is_over

abbrev pub UnknownIsRefused : Type 0
UnknownIsRefused = (frame : CodeFrame → Frame) (s : Contents) (p : Program) (e : Event)
    → s.run ≡ live → s.goroutines e.go ≡ None → Refuses (attempt p e) (state_of frame s) no_such_goroutine

abbrev pub DoneIsRefused : Type 0
DoneIsRefused = (frame : CodeFrame → Frame) (s : Contents) (p : Program) (e : Event) (g : CodeGoroutine)
    → s.run ≡ live → s.goroutines e.go ≡ Some g → g.status ≡ finished → Refuses (attempt p e) (state_of frame s) goroutine_is_done

abbrev pub WaitingIsRefused : Type 0
WaitingIsRefused = (frame : CodeFrame → Frame) (s : Contents) (p : Program) (e : Event) (g : CodeGoroutine) (ws : List Wait)
    → s.run ≡ live → s.goroutines e.go ≡ Some g → g.status ≡ waiting ws → Refuses (attempt p e) (state_of frame s) goroutine_waits
