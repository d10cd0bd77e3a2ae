-- Worked examples: single steps from given states, in which `main` is at the operation.
use Rattle.std.specs.Prelude.{fold, ◌≡◌, ℕ, pos, Bool, true, false, List, [], ◌∷◌, Option, Some, None, option_map, option_and_then, codes}
use Rattle.gr_tree.specs.declared.expr.Direction.TheVariants.{Both}
use Rattle.gr_base.specs.declared.names.ChName.{ChName}
use Rattle.gr_base.specs.declared.values.Value.{Value}
use Rattle.gr_base.specs.declared.values.Value.TheVariants.{Int, Bool as Truth, Chan}
use Rattle.gr_base.specs.declared.events.Choice.{Choice}
use Rattle.gr_base.specs.declared.events.Choice.TheVariants as choices
use Rattle.gr_base.specs.declared.events.Event.{Event}
use Rattle.gr_base.specs.declared.kinds.Fault.TheVariants.{SendOnClosed}
use Rattle.gr_base.specs.declared.objects.Object.{Object}
use Rattle.gr_base.specs.declared.objects.Object.TheVariants.{Go, Gate, Tail, Head, Slot}
use Rattle.gr_channels.specs.declared.waiter.Waiter.{Waiter}
use Rattle.gr_channels.specs.Objects.{GateContent}
use Rattle.gr_program.specs.Types.{Ty, IntType, ChanType}
use Rattle.gr_program.specs.Programs as program
use Rattle.gr_program.specs.Programs.{Number, Nil, Literally, Variable, Expr, Exprs, Act, Stmt, Does, Stmts, Function, FunctionIs, Named, Takes, Program, ProgramIs}
use Rattle.gr_rules.specs.Operands as operand
use Rattle.gr_rules.specs.Operands.{Done, Operands, one, two}
use Rattle.gr_rules.specs.Frames.{Frame}
use Rattle.gr_rules.specs.Goroutines.{ToSend, ToReceive, Status, ready, waiting, Goroutine}
use Rattle.gr_rules.specs.States.{faulted, Cell, go_has, gate_has, tail_has, slot_has, State, put, call_of, started_in, start}
use Rattle.gr_rules.specs.Attempts.{Refusal, program_is_over, no_such_choice}
use Rattle.gr_rules.specs.Steps.{machine, refusal}
use Rattle.gr_rules.specs.Touches.{table}
use Rattle.gr_rules.specs.Assigned.{assigned}
use Rattle.gr_rules.specs.ExamplePoints.{line}

abbrev int_channel : Ty
int_channel = ChanType Both IntType

-- a function of two channels and an `int`, its variables 0, 1 and 2, with this statement
abbrev stating : List ℕ → Stmt → Function
stating name s = FunctionIs name (Takes (Some 0) int_channel ∷ Takes (Some 1) int_channel ∷ Takes (Some 2) IntType ∷ []) None
    (Named (codes "c") int_channel ∷ Named (codes "d") int_channel ∷ Named (codes "n") IntType ∷ []) (program.then s program.stop) (line 9)

abbrev receive_c : Expr
receive_c = program.Receive (Variable 0) (Number (pos 0))

abbrev three_values : Exprs
three_values = program.more (Variable 0) (program.more (Variable 1) (program.more (Literally (Number (pos 1))) program.none))

-- func put(c, d chan int, n int) { c <- n }
-- func get(c, d chan int, n int) { n = <-c }
-- func shut(c, d chan int, n int) { close(c) }
-- func either(c, d chan int, n int) {
--     select {
--     case n = <-c:
--     case d <- 4:
--     }
-- }
-- func look(c, d chan int, n int) {
--     select {
--     case <-c:
--     default:
--     }
-- }
-- func begin(c, d chan int, n int) { go put(c, d, 1) }
-- func again(c, d chan int, n int) { put(c, d, 1) }
abbrev pub text : Program
text = ProgramIs (
    stating (codes "put") (Does (line 3) (program.Send (Variable 0) (Variable 2)))
    ∷ stating (codes "get") (Does (line 3) (program.Assign (Some 2 ∷ []) (program.more receive_c program.none)))
    ∷ stating (codes "shut") (Does (line 3) (program.Close (Variable 0)))
    ∷ stating (codes "either") (program.Select (line 3) (program.receive_case (Some 2 ∷ []) (Variable 0) (Number (pos 0)) program.stop
    (program.send_case (Variable 1) (Literally (Number (pos 4))) program.stop program.no_case)))
    ∷ stating (codes "look") (program.Select (line 3) (program.receive_case [] (Variable 0) (Number (pos 0)) program.stop (program.default_case program.stop program.no_case)))
    ∷ stating (codes "begin") (Does (line 3) (program.Go 0 three_values))
    ∷ stating (codes "again") (Does (line 3) (program.Eval (program.Call 0 three_values)))
    ∷ []) 0

abbrev main : List ℕ
main = []

abbrev child : ℕ → List ℕ
child n = n ∷ []

abbrev c : ChName
c = record { go = []; n = 1 }

abbrev d : ChName
d = record { go = []; n = 2 }

abbrev with_status : Status → Goroutine → Goroutine
with_status status g = record g { status = status }

-- a goroutine at the statement of a function, with this `n`
abbrev stands : List ℕ → ℕ → ℕ → Status → Cell
stands name function n status =
    go_has name (option_map (with_status status) (started_in (call_of text function (Chan (Some c) ∷ Chan (Some d) ∷ Int (pos n) ∷ []))))

abbrev open_gate : ChName → ℕ → List (Waiter Value) → List (Waiter (Unit {0})) → Cell
open_gate c capacity senders receivers = gate_has c (Some (record { capacity = capacity; closed = false; senders = senders; receivers = receivers }))

abbrev sender : List ℕ → Option ℕ → ℕ → Waiter Value
sender g clause n = record { go = g; case = clause; value = Int (pos n) }

abbrev receiver : List ℕ → Option ℕ → Waiter (Unit {0})
receiver g clause = record { go = g; case = clause; value = tt }

abbrev state : List Cell → State
state cells = fold put (start text) cells

abbrev event : Choice → Event
event choice = record { go = main; choice = choice }

-- the state after the step, if it is one
abbrev after : List Cell → Choice → Option State
after cells choice = option_map (λ r. r.0) ((machine text).step (state cells) (event choice))

abbrev refused : List Cell → Choice → Option Refusal
refused cells choice = refusal text (state cells) (event choice)

abbrev goroutine_after : List Cell → Choice → List ℕ → Option Goroutine
goroutine_after cells choice name = option_and_then (λ s. s.goroutines name) (after cells choice)

abbrev status_after : List Cell → Choice → List ℕ → Option Status
status_after cells choice name = option_map (λ g. g.status) (goroutine_after cells choice name)

-- the operands of the statement at which a goroutine stands
abbrev operands_in : List Frame → Option Operands
operands_in [] = None
operands_in (f ∷ fs) = Some f.point.operands

abbrev operands_after : List Cell → Choice → List ℕ → Option Operands
operands_after cells choice name = option_and_then (λ g. operands_in g.frames) (goroutine_after cells choice name)

abbrev gate_after : List Cell → Choice → ChName → Option GateContent
gate_after cells choice c = option_and_then (λ s. s.gates c) (after cells choice)

abbrev no_one_waits : ℕ → Bool → Option GateContent
no_one_waits capacity closed = Some (record { capacity = capacity; closed = closed; senders = []; receivers = [] })

-- `main` receives from a full buffer of one place on which a goroutine waits to send 8. It gets the item, and 8 moves up.
abbrev full : List Cell
full =
    stands main 1 0 ready ∷ stands (child 1) 0 8 (waiting (ToSend c None ∷ []))
    ∷ open_gate c 1 (sender (child 1) None 8 ∷ []) [] ∷ tail_has c 1 ∷ slot_has c 0 (Some (0, Int (pos 7))) ∷ []

abbrev pub ItemsBeforeSenders : Type 0
ItemsBeforeSenders =
    (operands_after full choices.Plain main ≡ Some (one (Done (Int (pos 7)))))
    × (option_map (λ s. s.slots c 0) (after full choices.Plain) ≡ Some (Some (1, Int (pos 8))))
    × (option_map (λ s. s.heads c) (after full choices.Plain) ≡ Some 1)
    × (option_map (λ s. s.tails c) (after full choices.Plain) ≡ Some 2)
    × (gate_after full choices.Plain c ≡ no_one_waits 1 false)
    × (status_after full choices.Plain (child 1) ≡ Some ready)

-- `main` sends 5 to a goroutine that waits: it has the value, without a step of its own
abbrev receiver_waits : List Cell
receiver_waits =
    stands main 0 5 ready ∷ stands (child 1) 1 0 (waiting (ToReceive c None ∷ []))
    ∷ open_gate c 0 [] (receiver (child 1) None ∷ []) ∷ []

abbrev pub PartnersMove : Type 0
PartnersMove =
    (status_after receiver_waits choices.Plain (child 1) ≡ Some ready)
    × (operands_after receiver_waits choices.Plain (child 1) ≡ Some (one (Done (Int (pos 5)))))
    × (option_map (λ g. g.steps) (goroutine_after receiver_waits choices.Plain (child 1)) ≡ Some 0)
    × (option_map (λ g. g.steps) (goroutine_after receiver_waits choices.Plain main) ≡ Some 1)
    × (gate_after receiver_waits choices.Plain c ≡ no_one_waits 0 false)

-- `main` sends 5 to a goroutine that waits in a select: its other clause does not wait any longer
abbrev select_waits : List Cell
select_waits =
    stands main 0 5 ready ∷ stands (child 1) 3 0 (waiting (ToReceive c (Some 1) ∷ ToSend d (Some 2) ∷ []))
    ∷ open_gate c 0 [] (receiver (child 1) (Some 1) ∷ []) ∷ open_gate d 0 (sender (child 1) (Some 2) 4 ∷ []) [] ∷ []

abbrev pub OneClauseIsMet : Type 0
OneClauseIsMet =
    (status_after select_waits choices.Plain (child 1) ≡ Some ready)
    × (operands_after select_waits choices.Plain (child 1) ≡ Some (two (Done (Int (pos 5))) (Done (Truth true))))
    × (gate_after select_waits choices.Plain c ≡ no_one_waits 0 false)
    × (gate_after select_waits choices.Plain d ≡ no_one_waits 0 false)

-- a clause is picked where it is ready, and default is taken where none is
abbrev looking : Option (ℕ × Value) → List Cell
looking item = stands main 4 0 ready ∷ open_gate c 1 [] [] ∷ slot_has c 0 item ∷ []

abbrev pub ReadyOrDefault : Type 0
ReadyOrDefault =
    (refused (looking (Some (0, Int (pos 7)))) choices.Default ≡ Some no_such_choice)
    × (refused (looking (Some (0, Int (pos 7)))) (choices.Pick 1) ≡ None)
    × (refused (looking None) choices.Default ≡ None)
    × (refused (looking None) (choices.Pick 1) ≡ Some no_such_choice)
    × (refused (looking None) choices.Park ≡ Some no_such_choice)

-- `main` receives from a full buffer of one place on which a goroutine waits to send 4 in a select, which waits on `d` too
abbrev sender_in_a_select : Cell
sender_in_a_select =
    go_has (child 1) (option_map (with_status (waiting (ToReceive d (Some 1) ∷ ToSend c (Some 2) ∷ [])))
    (started_in (call_of text 3 (Chan (Some d) ∷ Chan (Some c) ∷ Int (pos 0) ∷ []))))

abbrev selects : List Cell
selects =
    stands main 1 0 ready ∷ sender_in_a_select ∷ open_gate c 1 (sender (child 1) (Some 2) 4 ∷ []) []
    ∷ open_gate d 0 [] (receiver (child 1) (Some 1) ∷ []) ∷ tail_has c 1 ∷ slot_has c 0 (Some (0, Int (pos 7))) ∷ []

abbrev written_by : List Cell → Option (List Object)
written_by cells = option_map (λ r. r.1.writes) ((machine text).step (state cells) (event choices.Plain))

abbrev written_in_the_table : List Cell → Option (List Object)
written_in_the_table cells = option_map (λ r. (table (state cells) (event choices.Plain) r.1.kind).writes) ((machine text).step (state cells) (event choices.Plain))

abbrev pub AllThatIsWritten : Type 0
AllThatIsWritten =
    (written_by selects ≡ Some (Go main ∷ Gate c ∷ Head c ∷ Tail c ∷ Slot c 0 ∷ Go (child 1) ∷ Gate d ∷ []))
    × (written_in_the_table selects ≡ Some (Go main ∷ Gate c ∷ Head c ∷ Tail c ∷ Slot c 0 ∷ Go (child 1) ∷ Gate d ∷ []))

-- a step of a child is counted by its own goroutine
abbrev pub StepsAreTheirGoroutines : Type 0
StepsAreTheirGoroutines =
    option_map (λ r. option_map (λ g. g.steps) (r.0.goroutines (child 1)))
    ((machine text).step (state (stands main 0 5 ready ∷ stands (child 1) 5 0 ready ∷ [])) (record { go = child 1; choice = choices.Plain }))
    ≡ Some (Some 1)

-- `main` closes a channel on which two wait
abbrev two_wait : List Cell
two_wait =
    stands main 2 0 ready ∷ stands (child 1) 1 0 (waiting (ToReceive c None ∷ [])) ∷ stands (child 2) 1 0 (waiting (ToReceive c None ∷ []))
    ∷ open_gate c 0 [] (receiver (child 1) None ∷ receiver (child 2) None ∷ []) ∷ []

abbrev pub AllAreWoken : Type 0
AllAreWoken =
    (status_after two_wait choices.Plain (child 1) ≡ Some ready)
    × (status_after two_wait choices.Plain (child 2) ≡ Some ready)
    × (gate_after two_wait choices.Plain c ≡ no_one_waits 0 true)

-- `main` sends on a closed channel. The fault is a step, after which none is possible, and `main` stands where it stood.
abbrev closed : List Cell
closed = stands main 0 5 ready ∷ gate_has c (no_one_waits 0 true) ∷ []

abbrev pub FaultsStop : Type 0
FaultsStop =
    (option_map (λ s. s.run) (after closed choices.Plain) ≡ Some (faulted SendOnClosed))
    × (option_and_then (λ s. refusal text s (event choices.Plain)) (after closed choices.Plain) ≡ Some program_is_over)
    × (operands_after closed choices.Plain main ≡ Some (two (operand.Variable 0) (operand.Variable 2)))
    × (option_map (λ g. g.steps) (goroutine_after closed choices.Plain main) ≡ Some 1)

-- `main` starts a goroutine, which is named by how many it has started
abbrev pub ChildrenAreCounted : Type 0
ChildrenAreCounted =
    (option_map (λ g. g.children) (goroutine_after (stands main 5 0 ready ∷ []) choices.Plain main) ≡ Some 1)
    × (status_after (stands main 5 0 ready ∷ []) choices.Plain (child 1) ≡ Some ready)

-- a receive gives `n` no value, and the assignment after it does; a call gives the parameters values, and `go` none
abbrev names_from : State → List (List ℕ)
names_from s = assigned text s (event choices.Plain)

abbrev pub NamesOfValues : Type 0
NamesOfValues =
    (names_from (state full) ≡ [])
    × (option_map names_from (after full choices.Plain) ≡ Some (codes "n" ∷ []))
    × (names_from (state (stands main 6 0 ready ∷ [])) ≡ codes "c" ∷ codes "d" ∷ codes "n" ∷ [])
    × (names_from (state (stands main 5 0 ready ∷ [])) ≡ [])
