-- Neighbours that depend on each other though their order does not matter: they share an object that one of them writes, and
-- still lead to one state in both orders. Dependence is by objects (Bernstein 1966), and so not the least that the rules allow.
use Rattle.std.specs.Prelude.{◌≡◌, ℕ, List, [], ◌∷◌, ◌++◌, drop, length, Option, None, option_map, codes, pos}
use Rattle.gr_base.specs.declared.events.Event.{Event}
use Rattle.gr_base.specs.declared.kinds.Kind.{Kind}
use Rattle.gr_base.specs.declared.kinds.Kind.TheVariants.{Length, Hand, Meet, Take, SendWait, RecvWait, Default, Close}
use Rattle.gr_program.specs.Types.{IntType}
use Rattle.gr_program.specs.Programs.{Expr, Number, Stmt, Select, no_case, default_case, send_case, receive_case, Function, Named, Program, ProgramIs}
use Rattle.gr_program.specs.Programs as term
use Rattle.gr_rules.specs.States.{State}
use Rattle.litmus.specs.Words.{on, int_channel, local, number, received_from, block, set, start, run, send, close, function}
use Rattle.litmus.specs.Buffers.{put}
use Rattle.litmus.specs.Runs.{Name, main, child, steps, takes_default, times, run_of, kinds, dependents}

-- the state after the events
abbrev pub state_after : Program → List Event → Option State
state_after p es = option_map (λ r. r.0) (run_of p es)

-- the kinds of the steps that come after the first events
abbrev pub kinds_behind : Program → List Event → List Event → List Kind
kinds_behind p es fs = drop (length es) (kinds p (es ++ fs))

-- what goes back with the first step behind the events
abbrev pub goes_back : Program → List Event → List Event → List Name
goes_back p es fs = dependents p (es ++ fs) (length es)

-- Behind the events, two more are possible in both orders. Each is a step of the same kind in both, and the state in the end is
-- one. Still the later step of the two goes back with the first.
pub record Commute (p : Program) (es : List Event) (a b : Event) (m n : Name) (j k : Kind) : Type 0 where
  pub first : kinds_behind p es (a ∷ b ∷ []) ≡ j ∷ k ∷ []
  pub second : kinds_behind p es (b ∷ a ∷ []) ≡ k ∷ j ∷ []
  pub one_end : state_after p (es ++ a ∷ b ∷ []) ≡ state_after p (es ++ b ∷ a ∷ [])
  pub depend : goes_back p es (a ∷ b ∷ []) ≡ m ∷ n ∷ []
  pub depend_too : goes_back p es (b ∷ a ∷ []) ≡ n ∷ m ∷ []

-- func get(c chan int) { <-c }
abbrev pub get : Function
get = function (codes "get") (Named (codes "c") int_channel ∷ []) None [] (run 1 (received_from (local 0)) ∷ []) 1

-- func end(c chan int) { close(c) }
abbrev pub end : Function
end = function (codes "end") (Named (codes "c") int_channel ∷ []) None [] (close 3 (local 0) ∷ []) 3

-- `main` with a channel c of so many places and a number n
abbrev pub with_main : ℕ → List Stmt → Program
with_main places body = ProgramIs (get ∷ put ∷ end ∷ function (codes "main") [] None (Named (codes "c") int_channel ∷ Named (codes "n") IntType ∷ [])
    (set 5 0 (term.MakeSized (number places)) ∷ body) 9 ∷ []) 3

abbrev pub gets : Stmt
gets = start 6 0 (local 0 ∷ [])

abbrev pub puts : ℕ → Stmt
puts n = start 6 1 (local 0 ∷ number n ∷ [])

abbrev pub ends : Stmt
ends = start 6 2 (local 0 ∷ [])

-- c := make(chan int, 0); go get(c); n := cap(c)
-- c := make(chan int, 0); go end(c); n := cap(c)
abbrev pub measuring : (Expr → Expr) → Stmt → Program
measuring measure other = with_main 0 (other ∷ set 7 1 (measure (local 0)) ∷ [])

-- `cap` reads the gate for the capacity alone, which no step writes after `make`; a wait and a close write the queues and the mark
abbrev pub CapAndWait : Type 0
CapAndWait = Commute (measuring term.Cap gets) (times 3 main []) (steps main) (steps (child 1)) (main, 4) (child 1, 1) Length RecvWait

abbrev pub CapAndClose : Type 0
CapAndClose = Commute (measuring term.Cap ends) (times 3 main []) (steps main) (steps (child 1)) (main, 4) (child 1, 1) Length Close

-- `len` reads the two ends, which a wait and a close leave
abbrev pub LenAndWait : Type 0
LenAndWait = Commute (measuring term.Len gets) (times 3 main []) (steps main) (steps (child 1)) (main, 4) (child 1, 1) Length RecvWait

abbrev pub LenAndClose : Type 0
LenAndClose = Commute (measuring term.Len ends) (times 3 main []) (steps main) (steps (child 1)) (main, 4) (child 1, 1) Length Close

-- c := make(chan int, 0); go get(c); go put(c, 1); n := len(c)
abbrev pub measuring_late : Program
measuring_late = with_main 0 (gets ∷ puts 1 ∷ set 8 1 (term.Len (local 0)) ∷ [])

-- .. and so does a value that goes from hand to hand
abbrev pub LenAndHand : Type 0
LenAndHand = Commute measuring_late (times 4 main (steps (child 1) ∷ [])) (steps main) (steps (child 2)) (main, 5) (child 2, 1) Length Hand

-- c := make(chan int, 2); c <- 1; go get(c); close(c)
abbrev pub closing : Program
closing = with_main 2 (send 6 (local 0) (number 1) ∷ gets ∷ close 8 (local 0) ∷ [])

-- a receive takes a buffered value before and after the close; it reads the gate for senders that wait
abbrev pub CloseAndTake : Type 0
CloseAndTake = Commute closing (times 4 main []) (steps main) (steps (child 1)) (main, 5) (child 1, 1) Close Take

-- c := make(chan int, 0); go get(c); go get(c); c <- 1
abbrev pub handing : Program
handing = with_main 0 (gets ∷ gets ∷ send 8 (local 0) (number 1) ∷ [])

-- a value goes to the first of the queue, and another receiver comes to its end
abbrev pub HandAndWait : Type 0
HandAndWait = Commute handing (times 4 main (steps (child 1) ∷ [])) (steps main) (steps (child 2)) (main, 5) (child 2, 1) Hand RecvWait

-- c := make(chan int, 0); go put(c, 1); go put(c, 2); <-c
abbrev pub meeting : Program
meeting = with_main 0 (puts 1 ∷ puts 2 ∷ run 8 (received_from (local 0)) ∷ [])

-- the first of the queue is met, and another sender comes to its end
abbrev pub MeetAndWait : Type 0
MeetAndWait = Commute meeting (times 4 main (steps (child 1) ∷ [])) (steps main) (steps (child 2)) (main, 5) (child 2, 1) Meet SendWait

-- c := make(chan int, 1); c <- 0; go put(c, 1); go put(c, 2); <-c
abbrev pub moving : Program
moving = with_main 1 (send 6 (local 0) (number 0) ∷ puts 1 ∷ puts 2 ∷ run 8 (received_from (local 0)) ∷ [])

-- the first of the queue moves up into the buffer, and another sender comes to its end
abbrev pub TakeAndWait : Type 0
TakeAndWait = Commute moving (times 5 main (steps (child 1) ∷ [])) (steps main) (steps (child 2)) (main, 6) (child 2, 1) Take SendWait

-- c := make(chan int, 0); go get(c); select { case <-c: default: }
abbrev pub looking : Program
looking = with_main 0 (gets ∷ Select (on 7) (receive_case [] (local 0) (Number (pos 0)) (block []) (default_case (block []) no_case)) ∷ [])

-- c := make(chan int, 0); go put(c, 1); select { case c <- 2: default: }
abbrev pub offering : Program
offering = with_main 0 (puts 1 ∷ Select (on 7) (send_case (local 0) (number 2) (block []) (default_case (block []) no_case)) ∷ [])

-- a select that would receive looks for senders, and another receiver comes to wait; and so for sends
abbrev pub DefaultAndWait : Type 0
DefaultAndWait = Commute looking (times 3 main []) (takes_default main) (steps (child 1)) (main, 4) (child 1, 1) Default RecvWait

abbrev pub DefaultAndSendWait : Type 0
DefaultAndSendWait = Commute offering (times 3 main []) (takes_default main) (steps (child 1)) (main, 4) (child 1, 1) Default SendWait
