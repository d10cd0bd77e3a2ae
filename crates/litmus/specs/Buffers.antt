-- Three goroutines send on a channel with two places; `main` receives.
use Rattle.std.specs.Prelude.{◌≡◌, pos, false, List, [], ◌∷◌, Some, None, codes}
use Rattle.gr_base.specs.declared.events.Event.{Event}
use Rattle.gr_base.specs.declared.values.Value.TheVariants.{Int}
use Rattle.gr_base.specs.declared.kinds.Kind.TheVariants.{Pure, Go, Make, Length, Buffer, Take, SendWait}
use Rattle.gr_causal.specs.OrderByNames.Ordered.{accepted}
use Rattle.gr_program.specs.Types.{IntType}
use Rattle.gr_program.specs.Programs.{Expr, Function, Named, Program, ProgramIs}
use Rattle.gr_program.specs.Programs as term
use Rattle.litmus.specs.Words.{int_channel, local, number, received_from, set, start, send, print, function}
use Rattle.litmus.specs.Runs.{main, child, channel, steps, times, kinds, dependents, log, ordered_by, gate_after, slot_after}

-- func put(c chan int, n int) { c <- n }
abbrev pub put : Function
put = function (codes "put") (Named (codes "c") int_channel ∷ Named (codes "n") IntType ∷ []) None [] (send 2 (local 0) (local 1) ∷ []) 2

-- func main() {
--     c := make(chan int, 2)
--     go put(c, 1)
--     go put(c, 2)
--     go put(c, 3)
--     println(<-c)
-- }
abbrev pub program : Program
program = ProgramIs (
    put
    ∷ function (codes "main") [] None (Named (codes "c") int_channel ∷ []) (
    set 4 0 (term.MakeSized (number 2))
    ∷ start 5 0 (local 0 ∷ number 1 ∷ [])
    ∷ start 6 0 (local 0 ∷ number 2 ∷ [])
    ∷ start 7 0 (local 0 ∷ number 3 ∷ [])
    ∷ print 8 (received_from (local 0) ∷ [])
    ∷ []) 9
    ∷ []) 1

-- Three sends, the last of which waits. The receive takes the front value, and the third value enters the buffer.
abbrev pub full : List Event
full = times 5 main (steps (child 1) ∷ steps (child 2) ∷ steps (child 3) ∷ [])

abbrev pub full_and_taken : List Event
full_and_taken = times 5 main (steps (child 1) ∷ steps (child 2) ∷ steps (child 3) ∷ steps main ∷ [])

abbrev pub TakesAndMoves : Type 0
TakesAndMoves =
    (kinds program full_and_taken ≡ Make ∷ Pure ∷ Go ∷ Go ∷ Go ∷ Buffer ∷ Buffer ∷ SendWait ∷ Take ∷ [])
    × (gate_after program full (channel 1) ≡ Some (record { capacity = 2; closed = false; senders = record { go = child 3; case = None; value = Int (pos 3) } ∷ []; receivers = [] }))
    × (slot_after program full (channel 1) 0 ≡ Some (0, Int (pos 1)))
    × (slot_after program full (channel 1) 1 ≡ Some (1, Int (pos 2)))
    × (gate_after program full_and_taken (channel 1) ≡ Some (record { capacity = 2; closed = false; senders = []; receivers = [] }))
    × (slot_after program full_and_taken (channel 1) 0 ≡ Some (2, Int (pos 3)))
    × (slot_after program full_and_taken (channel 1) 1 ≡ Some (1, Int (pos 2)))

-- a send and a receive of different slots do not conflict; a later send into the freed slot depends on the receive
abbrev pub taken_between : List Event
taken_between = times 5 main (steps (child 1) ∷ steps main ∷ steps (child 2) ∷ [])

abbrev pub taken_and_refilled : List Event
taken_and_refilled = times 5 main (steps (child 1) ∷ steps main ∷ steps (child 2) ∷ steps (child 3) ∷ [])

abbrev pub EndsAreApart : Type 0
EndsAreApart =
    (kinds program taken_and_refilled ≡ Make ∷ Pure ∷ Go ∷ Go ∷ Go ∷ Buffer ∷ Take ∷ Buffer ∷ Buffer ∷ [])
    × (dependents program taken_between 6 ≡ (main, 6) ∷ [])
    × (dependents program taken_and_refilled 6 ≡ (main, 6) ∷ (child 3, 1) ∷ [])

-- the second send may come before the receive
abbrev pub sent_before : List Event
sent_before = times 5 main (steps (child 1) ∷ steps (child 2) ∷ steps main ∷ [])

abbrev pub MayChangePlaces : Type 0
MayChangePlaces = ordered_by program taken_between
    ((main, 1) ∷ (main, 2) ∷ (main, 3) ∷ (main, 4) ∷ (main, 5) ∷ (child 1, 1) ∷ (child 2, 1) ∷ (main, 6) ∷ [])
    ≡ accepted (log program sent_before)

-- func main() {
--     c := make(chan int, 2)
--     go put(c, 1)
--     n := len(c)
-- }
abbrev pub measuring : (Expr → Expr) → Program
measuring measure = ProgramIs (
    put
    ∷ function (codes "main") [] None (Named (codes "c") int_channel ∷ Named (codes "n") IntType ∷ []) (
    set 4 0 (term.MakeSized (number 2)) ∷ start 5 0 (local 0 ∷ number 1 ∷ []) ∷ set 6 1 (measure (local 0)) ∷ []) 7
    ∷ []) 1

abbrev pub measured : List Event
measured = times 3 main (steps (child 1) ∷ steps main ∷ [])

-- `len` depends on what was sent, `cap` does not
abbrev pub LenAndCap : Type 0
LenAndCap =
    (kinds (measuring term.Len) measured ≡ Make ∷ Pure ∷ Go ∷ Buffer ∷ Length ∷ [])
    × (dependents (measuring term.Len) measured 3 ≡ (child 1, 1) ∷ (main, 4) ∷ [])
    × (dependents (measuring term.Cap) measured 3 ≡ (child 1, 1) ∷ [])
