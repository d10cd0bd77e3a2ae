-- Closing of channels, faults, and a range over a channel.
use Rattle.std.specs.Prelude.{◌≡◌, pos, negsuc, true, false, List, [], ◌∷◌, Some, None, codes}
use Rattle.gr_tree.specs.declared.expr.BinaryOp.TheVariants.{ShiftLeft}
use Rattle.gr_base.specs.declared.events.Event.{Event}
use Rattle.gr_base.specs.declared.values.Value.TheVariants.{Int}
use Rattle.gr_base.specs.declared.kinds.Fault.TheVariants.{SendOnClosed, CloseOfNil, NegativeShift}
use Rattle.gr_base.specs.declared.kinds.Kind.TheVariants.{Pure, Return, Go, Make, Meet, Closed, SendWait, RecvWait, SelectWait, Pick, Close, Exit, Fault}
use Rattle.gr_program.specs.Types.{IntType}
use Rattle.gr_program.specs.Programs.{Number, Nil, Literally, Select, no_case, send_case, receive_case, Range, Named, Program, ProgramIs}
use Rattle.gr_program.specs.Programs as term
use Rattle.gr_rules.specs.Attempts.{program_is_over}
use Rattle.litmus.specs.Words.{on, int_channel, local, number, received_from, block, set, start, run, send, close, print, function}
use Rattle.litmus.specs.Runs.{main, child, channel, steps, picks, parks, times, kinds, printed, dependents, gate_after, refusal_after}

-- func get(c chan int) { <-c }
-- func wide(a, b, c chan int) {
--     select {
--     case <-a:
--     case b <- 4:
--     case <-c:
--     }
-- }
-- func main() {
--     a := make(chan int)
--     b := make(chan int)
--     c := make(chan int)
--     go get(a)
--     go wide(a, b, c)
--     go get(a)
--     close(a)
-- }
abbrev pub waking : Program
waking = ProgramIs (
    function (codes "get") (Named (codes "c") int_channel ∷ []) None [] (run 2 (received_from (local 0)) ∷ []) 2
    ∷ function (codes "wide") (Named (codes "a") int_channel ∷ Named (codes "b") int_channel ∷ Named (codes "c") int_channel ∷ []) None [] (
    Select (on 4) (receive_case [] (local 0) (Number (pos 0)) (block []) (send_case (local 1) (number 4) (block [])
    (receive_case [] (local 2) (Number (pos 0)) (block []) no_case))) ∷ []) 9
    ∷ function (codes "main") [] None (Named (codes "a") int_channel ∷ Named (codes "b") int_channel ∷ Named (codes "c") int_channel ∷ []) (
    set 11 0 term.Make ∷ set 12 1 term.Make ∷ set 13 2 term.Make
    ∷ start 14 0 (local 0 ∷ []) ∷ start 15 1 (local 0 ∷ local 1 ∷ local 2 ∷ []) ∷ start 16 0 (local 0 ∷ [])
    ∷ close 17 (local 0) ∷ []) 18
    ∷ []) 2

abbrev pub all_wait : List Event
all_wait = times 9 main (steps (child 1) ∷ parks (child 2) ∷ steps (child 3) ∷ [])

abbrev pub all_woken : List Event
all_woken = times 9 main (steps (child 1) ∷ parks (child 2) ∷ steps (child 3) ∷ steps main ∷ picks (child 2) 1 ∷ [])

abbrev pub WakesAll : Type 0
WakesAll =
    (kinds waking all_woken ≡ Make ∷ Pure ∷ Make ∷ Pure ∷ Make ∷ Pure ∷ Go ∷ Go ∷ Go ∷ RecvWait ∷ SelectWait ∷ RecvWait ∷ Close ∷ Pick 1 ∷ [])
    × (gate_after waking all_wait (channel 1) ≡ Some (record {
      capacity = 0;
      closed = false;
      senders = [];
      receivers =
          record { go = child 1; case = None; value = tt } ∷ record { go = child 2; case = Some 1; value = tt } ∷ record { go = child 3; case = None; value = tt } ∷ [];
    }))
    × (gate_after waking all_wait (channel 2) ≡ Some (record { capacity = 0; closed = false; senders = record { go = child 2; case = Some 2; value = Int (pos 4) } ∷ []; receivers = [] }))
    × (gate_after waking all_wait (channel 3) ≡ Some (record { capacity = 0; closed = false; senders = []; receivers = record { go = child 2; case = Some 3; value = tt } ∷ [] }))
    × (gate_after waking all_woken (channel 1) ≡ Some (record { capacity = 0; closed = true; senders = []; receivers = [] }))
    × (gate_after waking all_woken (channel 2) ≡ Some (record { capacity = 0; closed = false; senders = []; receivers = [] }))
    × (gate_after waking all_woken (channel 3) ≡ Some (record { capacity = 0; closed = false; senders = []; receivers = [] }))

-- c := make(chan int); close(c); c <- 1
abbrev pub sends_on_closed : Program
sends_on_closed = ProgramIs (function (codes "main") [] None (Named (codes "c") int_channel ∷ [])
    (set 3 0 term.Make ∷ close 4 (local 0) ∷ send 5 (local 0) (number 1) ∷ []) 6 ∷ []) 0

-- var c chan int; close(c)
abbrev pub closes_nil : Program
closes_nil = ProgramIs (function (codes "main") [] None (Named (codes "c") int_channel ∷ [])
    (set 3 0 (Literally Nil) ∷ close 4 (local 0) ∷ []) 5 ∷ []) 0

-- s := -1; println(1 << s)
abbrev pub shifts : Program
shifts = ProgramIs (function (codes "main") [] None (Named (codes "s") IntType ∷ [])
    (set 3 0 (Literally (Number (negsuc 0))) ∷ print 4 (term.Binary ShiftLeft (number 1) (local 0) ∷ []) ∷ []) 5 ∷ []) 0

abbrev pub Faults : Type 0
Faults =
    (kinds sends_on_closed (times 4 main []) ≡ Make ∷ Pure ∷ Close ∷ Fault SendOnClosed ∷ [])
    × (refusal_after sends_on_closed (times 4 main []) (steps main) ≡ Some program_is_over)
    × (kinds closes_nil (times 2 main []) ≡ Pure ∷ Fault CloseOfNil ∷ [])
    × (kinds shifts (times 2 main []) ≡ Pure ∷ Fault NegativeShift ∷ [])

-- func fill(c chan<- int) {
--     c <- 1
--     c <- 2
--     close(c)
-- }
-- func main() {
--     c := make(chan int)
--     go fill(c)
--     for v := range c { println(v) }
-- }
abbrev pub ranging : Program
ranging = ProgramIs (
    function (codes "fill") (Named (codes "c") int_channel ∷ []) None [] (send 3 (local 0) (number 1) ∷ send 4 (local 0) (number 2) ∷ close 5 (local 0) ∷ []) 6
    ∷ function (codes "main") [] None (Named (codes "c") int_channel ∷ Named (codes "v") IntType ∷ []) (
    set 8 0 term.Make ∷ start 9 0 (local 0 ∷ []) ∷ Range (on 10) (Some 1) (local 0) (block (print 10 (local 1 ∷ []) ∷ [])) ∷ []) 11
    ∷ []) 1

abbrev pub in_turn : List Event
in_turn = times 3 main (steps (child 1) ∷ times 2 main (steps (child 1) ∷ times 3 main (steps (child 1) ∷ steps main ∷ steps (child 1) ∷ times 4 main [])))

abbrev pub Ranges : Type 0
Ranges =
    (kinds ranging in_turn ≡ Make ∷ Pure ∷ Go ∷ SendWait ∷ Pure ∷ Meet ∷ SendWait ∷ Pure ∷ Pure ∷ Meet ∷ Close ∷ Pure ∷ Return ∷ Pure ∷ Closed ∷ Pure ∷ Exit ∷ [])
    × (dependents ranging in_turn 10 ≡ (child 1, 3) ∷ (child 1, 4) ∷ (main, 11) ∷ (main, 12) ∷ (main, 13) ∷ [])

abbrev pub RangePrints : Type 0
RangePrints = printed ranging in_turn ≡ codes "1" ∷ codes "2" ∷ []
