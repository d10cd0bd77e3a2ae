-- What a store contains after one that waited was met, and after goroutines came to wait or were woken.
use Rattle.std.specs.Prelude.{◌≡◌, ℕ, ◌+◌, ◌%◌, ◌||◌, true, false, List, [], ◌∷◌, ◌++◌, map, length, Some, option_map, if◌then◌else◌}
use Rattle.std.specs.List.{list_any, list_all, flat_map}
use Rattle.gr_base.specs.declared.names.ChName.{ChName}
use Rattle.gr_base.specs.declared.values.Value.{Value}
use Rattle.gr_channels.specs.declared.waiter.Waiter.{Waiter}
use Rattle.gr_channels.specs.Channels.{Content, tail_of}
use Rattle.gr_channels.specs.Objects.{gate_of}
use Rattle.gr_channels.specs.Queues.{is_of, others}
use Rattle.gr_rules.specs.Frames.{Frame}
use Rattle.gr_rules.specs.Operators.{same_channel}
use Rattle.gr_rules.specs.Goroutines.{Wait, channel_of, ready, Goroutine}
use Rattle.gr_rules.specs.States.{Cell, go_has, gate_has, tail_has, head_has, slot_has, same_go}
use Rattle.gr_rules.specs.Actors.{without, channels_but}
use Rattle.gr_code.specs.CodeFrames.{CodeFrame}
use Rattle.gr_refine.specs.Contents.{Contents, goroutine_of, with_goroutine, with_channel}
use Rattle.gr_code.specs.Goroutines.{CodeGoroutine}
use Rattle.gr_refine.specs.Changes.{Writes}
use Rattle.gr_refine.specs.Gates.{gate_cells, with_gates, withdrawing}
use Rattle.gr_refine.specs.Partners.{is_waiting, waiters_in, as_ruled, met_cells}

-- the channel without the waits of a goroutine
abbrev pub thinned : List ℕ → Content → Content
thinned n x = record x { senders = others n x.senders; receivers = others n x.receivers }

-- A goroutine that waited was met at a channel, which is this one by now. It is that goroutine, and waits on no other
-- channel.
abbrev pub met_in : Contents → ChName → Content → List ℕ → CodeGoroutine → List Wait → Contents
met_in s c y n p ws = with_goroutine (with_gates (withdrawing (n ∷ [])) (with_channel s c (Some y)) (channels_but (c ∷ []) ws)) n (Some p)

-- the buffer of a channel whose front item left, and into which another value moved
abbrev pub moved_up : Content → List Value → Value → Content
moved_up x rest w = record x { head = x.head + 1; items = rest ++ w ∷ [] }

-- a partner is met, and nothing is in the buffer, or nothing of it changes
abbrev pub MeetingIsWritten : Type 0
MeetingIsWritten = (frame : CodeFrame → Frame) (s : Contents) (c : ChName) (x : Content) (n : List ℕ) (p : CodeGoroutine) (ws : List Wait)
    → s.channels c ≡ Some x
    → Writes frame s (met_in s c (thinned n x) n p ws) (gate_has c (Some (without (n ∷ []) (gate_of x))) ∷ met_cells s c n ws (goroutine_of frame p))

-- the front item of a full buffer is taken, and the value of a partner moves up
abbrev pub MovingIsWritten : Type 0
MovingIsWritten = (frame : CodeFrame → Frame) (s : Contents) (c : ChName) (x : Content) (v w : Value) (rest : List Value) (n : List ℕ)
    (p : CodeGoroutine) (ws : List Wait)
    → s.channels c ≡ Some x → x.items ≡ v ∷ rest → length x.items ≡ x.capacity
    → Writes frame s (met_in s c (moved_up (thinned n x) rest w) n p ws) (gate_has c (Some (without (n ∷ []) (gate_of x))) ∷ head_has c (x.head + 1)
    ∷ tail_has c (tail_of x + 1) ∷ slot_has c (x.head % x.capacity) (Some (tail_of x, w)) ∷ met_cells s c n ws (goroutine_of frame p))

-- whether these name the channel and those of the waits
abbrev pub NamesChannels : List ChName → ChName → List Wait → Type 0
NamesChannels cs c ws = (d : ChName) → list_any (same_channel d) cs ≡ (same_channel d c || list_any (λ w. same_channel d (channel_of w)) ws)

-- its name in front of theirs does, and theirs alone where one of the waits is on it
abbrev pub NamesInFront : Type 0
NamesInFront = (c : ChName) (ws : List Wait) → NamesChannels (c ∷ map channel_of ws) c ws

abbrev pub NamesOfWaits : Type 0
NamesOfWaits = (c : ChName) (ws : List Wait) → list_any (λ w. same_channel c (channel_of w)) ws ≡ true → NamesChannels (map channel_of ws) c ws

-- a goroutine that left a queue of a channel, and is withdrawn from that channel and the others, was met there
abbrev pub WithdrawingIsMeeting : Type 0
WithdrawingIsMeeting = (s : Contents) (c : ChName) (y : Content) (n : List ℕ) (p : CodeGoroutine) (ws : List Wait) (cs : List ChName) → NamesChannels cs c ws
    → with_goroutine (with_gates (withdrawing (n ∷ [])) (with_channel s c (Some y)) cs) n (Some p) ≡ met_in s c (thinned n y) n p ws

abbrev pub LeavingSendersIsThin : Type 0
LeavingSendersIsThin = (x : Content) (w : Waiter Value) (ws : List (Waiter Value)) → x.senders ≡ w ∷ ws
    → thinned w.go (record x { senders = ws }) ≡ thinned w.go x

abbrev pub LeavingReceiversIsThin : Type 0
LeavingReceiversIsThin = (x : Content) (w : Waiter (Unit {0})) (ws : List (Waiter (Unit {0}))) → x.receivers ≡ w ∷ ws
    → thinned w.go (record x { receivers = ws }) ≡ thinned w.go x

-- a channel on which the goroutine does not wait is without it
abbrev pub NobodyLeaves : Type 0
NobodyLeaves = (x : Content) (n : List ℕ) → list_any (is_of n) x.senders ≡ false → list_any (is_of n) x.receivers ≡ false → thinned n x ≡ x

-- one that waits on no other channel leaves none
abbrev pub OneWaitIsHere : Type 0
OneWaitIsHere = (c : ChName) (w : Wait) → channel_of w ≡ c → channels_but (c ∷ []) (w ∷ []) ≡ []

abbrev pub MeetingHereAlone : Type 0
MeetingHereAlone = (s : Contents) (c : ChName) (y : Content) (n : List ℕ) (p : CodeGoroutine) (ws : List Wait) → channels_but (c ∷ []) ws ≡ []
    → met_in s c y n p ws ≡ with_goroutine (with_channel s c (Some y)) n (Some p)

-- ready again at its operation
abbrev pub woken : CodeGoroutine → CodeGoroutine
woken g = record g { status = ready }

-- with these goroutines ready again
abbrev pub with_woken : Contents → List (List ℕ) → Contents
with_woken s names = record s { goroutines = λ n. if list_any (same_go n) names then option_map woken (s.goroutines n) else s.goroutines n }

-- all that waited on a channel are ready again, and wait on no other channel
abbrev pub all_waits_in : Contents → List (List ℕ) → List Wait
all_waits_in s names = flat_map (λ w. w.2) (waiters_in s names)

abbrev pub closed_in : Contents → ChName → Content → List (List ℕ) → Contents
closed_in s c y names = with_woken (with_gates (withdrawing names) (with_channel s c (Some y)) (channels_but (c ∷ []) (all_waits_in s names))) names

-- the cells of goroutines that are woken
abbrev pub woken_cells : List (List ℕ × Goroutine × List Wait) → List Cell
woken_cells ws = map (λ w. go_has w.0 (Some (record (w.1) { status = ready }))) ws

abbrev pub ClosingIsWritten : Type 0
ClosingIsWritten = (frame : CodeFrame → Frame) (s : Contents) (c : ChName) (x : Content) (names : List (List ℕ)) → s.channels c ≡ Some x
    → list_all (λ n. is_waiting (s.goroutines n)) names ≡ true
    → Writes frame s (closed_in s c (record x { closed = true; senders = []; receivers = [] }) names)
    (gate_has c (Some (record (gate_of x) { closed = true; senders = []; receivers = [] }))
    ∷ woken_cells (as_ruled frame (waiters_in s names)) ++ gate_cells (withdrawing names) s (channels_but (c ∷ []) (all_waits_in s names)))
