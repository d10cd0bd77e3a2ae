-- What Go's memory model orders ("The Go Memory Model", version of June 6, 2022), in runs: the operations are found by their number on
-- the channel, as Go counts them, and the later one goes back with the earlier.
use Rattle.std.specs.Prelude.{◌≡◌, ℕ, true, false, Bool, List, [], ◌∷◌, ◌++◌, Option, Some, option_map}
use Rattle.std.specs.List.{list_any}
use Rattle.gr_base.specs.declared.events.Event.{Event}
use Rattle.gr_base.specs.declared.kinds.Kind.TheVariants.{Pure, Go, Make, Hand, Buffer, Take, RecvWait}
use Rattle.gr_program.specs.Programs.{Program}
use Rattle.gr_rules.specs.History.{start_of, sent, received}
use Rattle.litmus.specs.Runs.{Name, main, child, channel, steps, times, name, same_name, log, kinds, dependents}
use Rattle.litmus.specs.HandOver as hand_over
use Rattle.litmus.specs.Buffers as buffers
use Rattle.litmus.specs.Closings as closings
use Rattle.litmus.specs.Neighbours.{with_main, gets, puts}

-- whether the step of a name goes back with the one at a place
abbrev pub goes_back_with : Program → List Event → ℕ → Name → Bool
goes_back_with p es i n = list_any (same_name n) (dependents p es i)

-- the start of a goroutine, and the sends and receives on the first channel of `main` by their number
abbrev pub start : Program → List Event → List ℕ → Option Name
start p es g = option_map (name p) (start_of p g (log p es))

abbrev pub send : Program → List Event → ℕ → Option Name
send p es k = option_map (name p) (sent p (channel 1) k (log p es))

abbrev pub receive : Program → List Event → ℕ → Option Name
receive p es k = option_map (name p) (received p (channel 1) k (log p es))

-- a `go` statement comes before the start of its goroutine
abbrev pub StartsFirst : Type 0
StartsFirst =
    (start hand_over.program hand_over.receiver_first (child 1) ≡ Some (main, 3))
    × (goes_back_with hand_over.program hand_over.receiver_first 2 (child 1, 1) ≡ true)

-- Without a buffer: the send comes before the receive is complete, and the receive before the send is. Where the receiver waits, its
-- receive is complete before its next step; where the sender waits, so is its send.
abbrev pub ReceiverWaits : Type 0
ReceiverWaits =
    (send hand_over.program hand_over.receiver_first 1 ≡ Some (child 1, 1))
    × (receive hand_over.program hand_over.receiver_first 1 ≡ Some (main, 4))
    × (goes_back_with hand_over.program hand_over.receiver_first 4 (main, 5) ≡ true)
    × (goes_back_with hand_over.program hand_over.receiver_first 3 (child 1, 1) ≡ true)

abbrev pub SenderWaits : Type 0
SenderWaits =
    (send hand_over.program hand_over.sender_first 1 ≡ Some (child 1, 1))
    × (receive hand_over.program hand_over.sender_first 1 ≡ Some (main, 4))
    × (goes_back_with hand_over.program hand_over.sender_first 3 (main, 4) ≡ true)
    × (goes_back_with hand_over.program hand_over.sender_first 4 (child 1, 2) ≡ true)

-- with two places: the first send before the first receive, and the first receive before the third send is complete, which did not
-- wait or did
abbrev pub refilled : List Event
refilled = buffers.taken_and_refilled

abbrev pub let_in : List Event
let_in = buffers.full_and_taken ++ steps (child 3) ∷ []

abbrev pub Buffered : Type 0
Buffered =
    (receive buffers.program refilled 1 ≡ Some (main, 6))
    × (send buffers.program refilled 3 ≡ Some (child 3, 1))
    × (goes_back_with buffers.program refilled 5 (main, 6) ≡ true)
    × (goes_back_with buffers.program refilled 6 (child 3, 1) ≡ true)
    × (goes_back_with buffers.program refilled 6 (child 2, 1) ≡ false)
    × (receive buffers.program let_in 1 ≡ Some (main, 6))
    × (send buffers.program let_in 3 ≡ Some (child 3, 1))
    × (goes_back_with buffers.program let_in 8 (child 3, 2) ≡ true)

-- c := make(chan int, 1); go put(c, 1); go get(c); go get(c); go put(c, 2); go put(c, 3)
abbrev pub handing : Program
handing = with_main 1 (puts 1 ∷ gets ∷ gets ∷ puts 2 ∷ puts 3 ∷ [])

-- the second value goes from hand to hand
abbrev pub handed : List Event
handed = times 7 main (steps (child 1) ∷ steps (child 2) ∷ steps (child 3) ∷ steps (child 4) ∷ steps (child 5) ∷ [])

-- With one place: the first receive before the second send, and the second receive before the third send. Also here, where values
-- enter the buffer and go from hand to hand.
abbrev pub HandedBetween : Type 0
HandedBetween =
    (kinds handing handed ≡ Make ∷ Pure ∷ Go ∷ Go ∷ Go ∷ Go ∷ Go ∷ Buffer ∷ Take ∷ RecvWait ∷ Hand ∷ Buffer ∷ [])
    × (receive handing handed 1 ≡ Some (child 2, 1))
    × (send handing handed 2 ≡ Some (child 4, 1))
    × (goes_back_with handing handed 8 (child 4, 1) ≡ true)
    × (receive handing handed 2 ≡ Some (child 3, 1))
    × (send handing handed 3 ≡ Some (child 5, 1))
    × (goes_back_with handing handed 9 (child 5, 1) ≡ true)

-- a close before the receive that returns because of it
abbrev pub ClosesFirst : Type 0
ClosesFirst = goes_back_with closings.ranging closings.in_turn 10 (main, 11) ≡ true

-- two sends into one buffer depend on each other, and Go leaves them concurrent
abbrev pub MoreThanGo : Type 0
MoreThanGo = goes_back_with buffers.program buffers.full 5 (child 2, 1) ≡ true
