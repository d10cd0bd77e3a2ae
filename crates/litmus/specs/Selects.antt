-- Select statements: two that meet, a pick beside another ready clause, and a default.
use Rattle.std.specs.Prelude.{◌≡◌, pos, false, List, [], ◌∷◌, Some, None, codes}
use Rattle.gr_base.specs.declared.events.Event.{Event}
use Rattle.gr_base.specs.declared.values.Value.TheVariants.{Int}
use Rattle.gr_base.specs.declared.kinds.Kind.TheVariants.{Pure, Return, Go, Make, Buffer, Pick, Default, SelectWait}
use Rattle.gr_program.specs.Types.{IntType}
use Rattle.gr_program.specs.Programs.{Number, Select, no_case, default_case, send_case, receive_case, Function, Named, Program, ProgramIs}
use Rattle.gr_program.specs.Programs as term
use Rattle.gr_rules.specs.Attempts.{no_such_choice}
use Rattle.litmus.specs.Words.{on, int_channel, local, number, block, set, start, send, print, print_text, function}
use Rattle.litmus.specs.Runs.{main, child, channel, steps, picks, parks, takes_default, times, kinds, printed, dependents, gate_after, refusal_after}

-- func pair(c chan int) {
--     select {
--     case c <- 1:
--         println("sent")
--     case v := <-c:
--         println(v)
--     }
-- }
-- func main() {
--     c := make(chan int)
--     go pair(c)
--     go pair(c)
--     select {}
-- }
abbrev pub pairs : Program
pairs = ProgramIs (
    function (codes "pair") (Named (codes "c") int_channel ∷ []) None (Named (codes "v") IntType ∷ []) (
    Select (on 3) (send_case (local 0) (number 1) (block (print_text 5 (codes "sent") ∷ []))
    (receive_case (Some 1 ∷ []) (local 0) (Number (pos 0)) (block (print 7 (local 1 ∷ []) ∷ [])) no_case)) ∷ []) 9
    ∷ function (codes "main") [] None (Named (codes "c") int_channel ∷ []) (
    set 11 0 term.Make ∷ start 12 0 (local 0 ∷ []) ∷ start 13 0 (local 0 ∷ []) ∷ Select (on 14) no_case ∷ []) 15
    ∷ []) 1

abbrev pub one_waits : List Event
one_waits = times 4 main (parks main ∷ parks (child 1) ∷ [])

abbrev pub both_meet : List Event
both_meet = times 4 main (parks main ∷ parks (child 1) ∷ picks (child 2) 2 ∷ [])

abbrev pub both_end : List Event
both_end = times 4 main (parks main ∷ parks (child 1) ∷ picks (child 2) 2
    ∷ steps (child 1) ∷ steps (child 2) ∷ steps (child 1) ∷ steps (child 2) ∷ steps (child 2) ∷ [])

abbrev pub PairsMeet : Type 0
PairsMeet =
    (kinds pairs both_end ≡ Make ∷ Pure ∷ Go ∷ Go ∷ SelectWait ∷ SelectWait ∷ Pick 2 ∷ Pure ∷ Pure ∷ Return ∷ Pure ∷ Return ∷ [])
    × (gate_after pairs one_waits (channel 1) ≡ Some (record {
      capacity = 0;
      closed = false;
      senders = record { go = child 1; case = Some 1; value = Int (pos 1) } ∷ [];
      receivers = record { go = child 1; case = Some 2; value = tt } ∷ [];
    }))
    × (gate_after pairs both_meet (channel 1) ≡ Some (record { capacity = 0; closed = false; senders = []; receivers = [] }))
    × (dependents pairs both_end 5 ≡ (child 1, 1) ∷ (child 2, 1) ∷ (child 1, 2) ∷ (child 2, 2) ∷ (child 1, 3) ∷ (child 2, 3) ∷ (child 2, 4) ∷ [])

abbrev pub PairsPrint : Type 0
PairsPrint = printed pairs both_end ≡ codes "sent" ∷ codes "1" ∷ []

-- func put(c chan int) { c <- 5 }
abbrev pub put : Function
put = function (codes "put") (Named (codes "c") int_channel ∷ []) None [] (send 2 (local 0) (number 5) ∷ []) 2

-- func main() {
--     a := make(chan int, 1)
--     b := make(chan int, 1)
--     go put(a)
--     go put(b)
--     select {
--     case <-a:
--         println("a")
--     case <-b:
--         println("b")
--     }
-- }
abbrev pub either : Program
either = ProgramIs (
    put
    ∷ function (codes "main") [] None (Named (codes "a") int_channel ∷ Named (codes "b") int_channel ∷ []) (
    set 4 0 (term.MakeSized (number 1))
    ∷ set 5 1 (term.MakeSized (number 1))
    ∷ start 6 0 (local 0 ∷ [])
    ∷ start 7 0 (local 1 ∷ [])
    ∷ Select (on 8) (receive_case [] (local 0) (Number (pos 0)) (block (print_text 10 (codes "a") ∷ []))
    (receive_case [] (local 1) (Number (pos 0)) (block (print_text 12 (codes "b") ∷ [])) no_case))
    ∷ []) 14
    ∷ []) 1

abbrev pub second_picked : List Event
second_picked = times 6 main (steps (child 1) ∷ steps (child 2) ∷ picks main 2 ∷ steps main ∷ [])

-- a pick depends on its own clause alone
abbrev pub PicksOne : Type 0
PicksOne =
    (kinds either second_picked ≡ Make ∷ Pure ∷ Make ∷ Pure ∷ Go ∷ Go ∷ Buffer ∷ Buffer ∷ Pick 2 ∷ Pure ∷ [])
    × (dependents either second_picked 6 ≡ (child 1, 1) ∷ [])
    × (printed either second_picked ≡ codes "b" ∷ [])

-- func main() {
--     c := make(chan int, 1)
--     go put(c)
--     select {
--     case <-c:
--     default:
--         println("none")
--     }
-- }
abbrev pub defaults : Program
defaults = ProgramIs (
    put
    ∷ function (codes "main") [] None (Named (codes "c") int_channel ∷ []) (
    set 4 0 (term.MakeSized (number 1))
    ∷ start 5 0 (local 0 ∷ [])
    ∷ Select (on 6) (receive_case [] (local 0) (Number (pos 0)) (block []) (default_case (block (print_text 9 (codes "none") ∷ [])) no_case))
    ∷ []) 11
    ∷ []) 1

abbrev pub none_ready : List Event
none_ready = times 3 main (takes_default main ∷ steps (child 1) ∷ [])

-- the default looked at the channel; no clause can be picked that is not ready, and the default is not taken where one is
abbrev pub TakesDefault : Type 0
TakesDefault =
    (kinds defaults none_ready ≡ Make ∷ Pure ∷ Go ∷ Default ∷ Buffer ∷ [])
    × (dependents defaults none_ready 3 ≡ (main, 4) ∷ (child 1, 1) ∷ [])
    × (refusal_after defaults (times 3 main []) (picks main 1) ≡ Some no_such_choice)
    × (refusal_after defaults (times 3 main []) (parks main) ≡ Some no_such_choice)
    × (refusal_after defaults (times 3 main (steps (child 1) ∷ [])) (takes_default main) ≡ Some no_such_choice)
