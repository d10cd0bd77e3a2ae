-- Changes of what a store contains, and the cells that they write.
use Rattle.std.specs.Prelude.{◌≡◌, fold, ℕ, ◌+◌, ◌%◌, ◌<◌, List, [], ◌∷◌, ◌++◌, length, Some, None}
use Rattle.gr_base.specs.declared.names.ChName.{ChName}
use Rattle.gr_base.specs.declared.values.Value.{Value}
use Rattle.gr_channels.specs.Channels.{Content, IsChannel, tail_of}
use Rattle.gr_channels.specs.Objects.{gate_of}
use Rattle.gr_rules.specs.Frames.{Frame}
use Rattle.gr_rules.specs.States.{Run, Cell, put, run_has, go_has, gate_has, tail_has, head_has, slot_has}
use Rattle.gr_code.specs.CodeFrames.{CodeFrame}
use Rattle.gr_refine.specs.Contents.{Contents, goroutine_of, state_of, with_goroutine, with_channel}
use Rattle.gr_code.specs.Goroutines.{CodeGoroutine}

-- the change from the first contents to the second is the writing of these cells, one after the other
abbrev pub Writes : (CodeFrame → Frame) → Contents → Contents → List Cell → Type 0
Writes frame s t cells = state_of frame t ≡ fold put (state_of frame s) cells

-- changes one after the other write their cells one after the other
abbrev pub WritesInTurn : Type 0
WritesInTurn = (frame : CodeFrame → Frame) (s t u : Contents) (before after : List Cell) → Writes frame s t before → Writes frame t u after
    → Writes frame s u (before ++ after)

-- the program ends; a goroutine changes or starts; a goroutine goes away
abbrev pub RunIsWritten : Type 0
RunIsWritten = (frame : CodeFrame → Frame) (s : Contents) (r : Run) → Writes frame s (record s { run = r }) (run_has r ∷ [])

abbrev pub GoroutineIsWritten : Type 0
GoroutineIsWritten = (frame : CodeFrame → Frame) (s : Contents) (n : List ℕ) (g : CodeGoroutine)
    → Writes frame s (with_goroutine s n (Some g)) (go_has n (Some (goroutine_of frame g)) ∷ [])

abbrev pub GoneIsWritten : Type 0
GoneIsWritten = (frame : CodeFrame → Frame) (s : Contents) (n : List ℕ) → Writes frame s (with_goroutine s n None) (go_has n None ∷ [])

-- a channel whose buffer stays as it is: its gate is written
abbrev pub GateIsWritten : Type 0
GateIsWritten = (frame : CodeFrame → Frame) (s : Contents) (c : ChName) (x y : Content) → s.channels c ≡ Some x
    → y.capacity ≡ x.capacity → y.head ≡ x.head → y.items ≡ x.items → Writes frame s (with_channel s c (Some y)) (gate_has c (Some (gate_of y)) ∷ [])

-- a value enters the buffer, where there is room
abbrev pub EnteringIsWritten : Type 0
EnteringIsWritten = (frame : CodeFrame → Frame) (s : Contents) (c : ChName) (x y : Content) (v : Value) → s.channels c ≡ Some x
    → length x.items < x.capacity → y ≡ record x { items = x.items ++ v ∷ [] }
    → Writes frame s (with_channel s c (Some y)) (tail_has c (tail_of x + 1) ∷ slot_has c (tail_of x % x.capacity) (Some (tail_of x, v)) ∷ [])

-- the front item leaves the buffer
abbrev pub LeavingIsWritten : Type 0
LeavingIsWritten = (frame : CodeFrame → Frame) (s : Contents) (c : ChName) (x y : Content) (v : Value) (rest : List Value) → s.channels c ≡ Some x
    → IsChannel x → x.items ≡ v ∷ rest → y ≡ record x { head = x.head + 1; items = rest }
    → Writes frame s (with_channel s c (Some y)) (head_has c (x.head + 1) ∷ slot_has c (x.head % x.capacity) None ∷ [])

-- the front item leaves a full buffer, and another value enters; the queues may change too
abbrev pub MovingUpIsWritten : Type 0
MovingUpIsWritten = (frame : CodeFrame → Frame) (s : Contents) (c : ChName) (x y : Content) (v w : Value) (rest : List Value) → s.channels c ≡ Some x
    → x.items ≡ v ∷ rest → length x.items ≡ x.capacity → y.capacity ≡ x.capacity → y.head ≡ x.head + 1 → y.items ≡ rest ++ w ∷ []
    → Writes frame s (with_channel s c (Some y)) (gate_has c (Some (gate_of y)) ∷ head_has c (x.head + 1) ∷ tail_has c (tail_of x + 1)
    ∷ slot_has c (x.head % x.capacity) (Some (tail_of x, w)) ∷ [])

-- a channel is made, and one that is new goes away
abbrev pub MakingIsWritten : Type 0
MakingIsWritten = (frame : CodeFrame → Frame) (s : Contents) (c : ChName) (y : Content) → s.channels c ≡ None
    → y.head ≡ 0 → y.items ≡ [] → Writes frame s (with_channel s c (Some y)) (gate_has c (Some (gate_of y)) ∷ [])

abbrev pub UnmakingIsWritten : Type 0
UnmakingIsWritten = (frame : CodeFrame → Frame) (s : Contents) (c : ChName) (x : Content) → s.channels c ≡ Some x
    → x.head ≡ 0 → x.items ≡ [] → Writes frame s (with_channel s c None) (gate_has c None ∷ [])
