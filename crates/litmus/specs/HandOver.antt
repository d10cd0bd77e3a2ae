-- A value is handed from a goroutine to `main`.
use Rattle.std.specs.Prelude.{◌≡◌, List, [], ◌∷◌, None, codes}
use Rattle.gr_base.specs.declared.events.Event.{Event}
use Rattle.gr_base.specs.declared.kinds.Kind.TheVariants.{Pure, Return, Go, Make, Hand, Meet, SendWait, RecvWait, Exit}
use Rattle.gr_program.specs.Programs.{Named, Program, ProgramIs}
use Rattle.gr_program.specs.Programs as term
use Rattle.litmus.specs.Words.{int_channel, local, number, received_from, set, start, send, print, function}
use Rattle.litmus.specs.Runs.{main, child, steps, times, kinds, printed, dependents, causes}

-- func send(c chan int) {
--     c <- 7
-- }
-- func main() {
--     c := make(chan int)
--     go send(c)
--     println(<-c)
-- }
abbrev pub program : Program
program = ProgramIs (
    function (codes "send") (Named (codes "c") int_channel ∷ []) None [] (send 3 (local 0) (number 7) ∷ []) 4
    ∷ function (codes "main") [] None (Named (codes "c") int_channel ∷ []) (
    set 6 0 term.Make
    ∷ start 7 0 (local 0 ∷ [])
    ∷ print 8 (received_from (local 0) ∷ [])
    ∷ []) 9
    ∷ []) 1

abbrev pub receiver_first : List Event
receiver_first = times 4 main (times 2 (child 1) (times 2 main []))

abbrev pub sender_first : List Event
sender_first = times 3 main (steps (child 1) ∷ steps main ∷ steps (child 1) ∷ times 2 main [])

abbrev pub ReceiverFirst : Type 0
ReceiverFirst = kinds program receiver_first ≡ Make ∷ Pure ∷ Go ∷ RecvWait ∷ Hand ∷ Return ∷ Pure ∷ Exit ∷ []

abbrev pub SenderFirst : Type 0
SenderFirst = kinds program sender_first ≡ Make ∷ Pure ∷ Go ∷ SendWait ∷ Meet ∷ Return ∷ Pure ∷ Exit ∷ []

-- what goes back with the hand-over, with the sender's return, and with its start
abbrev pub GoesBack : Type 0
GoesBack = (dependents program receiver_first 4 ≡ (child 1, 1) ∷ (child 1, 2) ∷ (main, 5) ∷ (main, 6) ∷ [])
    × (dependents program receiver_first 5 ≡ (child 1, 2) ∷ (main, 6) ∷ [])
    × (dependents program receiver_first 2 ≡ (main, 3) ∷ (main, 4) ∷ (child 1, 1) ∷ (child 1, 2) ∷ (main, 5) ∷ (main, 6) ∷ [])

abbrev pub Causes : Type 0
Causes = causes program receiver_first 3 ≡ (main, 1) ∷ (main, 2) ∷ (main, 3) ∷ (main, 4) ∷ []

abbrev pub Prints : Type 0
Prints = printed program receiver_first ≡ codes "7" ∷ []
