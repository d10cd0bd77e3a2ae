-- A state of a running program: what each of its objects contains.
use Rattle.std.specs.Prelude.{ℕ, nat_eq, ◌==◌, ◌&&◌, Bool, true, false, List, [], slice_get, Option, Some, None, if◌then◌else◌}
use Rattle.std.specs.Cmp.Lexicographic.{pointwise}
use Rattle.gr_base.specs.declared.names.ChName.{ChName}
use Rattle.gr_base.specs.declared.values.Value.{Value}
use Rattle.gr_base.specs.declared.kinds.Fault.{Fault}
use Rattle.gr_base.specs.declared.objects.Object.{Object}
use Rattle.gr_base.specs.declared.objects.Object.TheVariants as objects
use Rattle.gr_base.specs.declared.objects.Object.TheVariants.{Go, Gate, Tail, Head, Slot}
use Rattle.gr_channels.specs.Objects.{GateContent}
use Rattle.gr_program.specs.Programs.{Program, ProgramIs}
use Rattle.gr_rules.specs.Operators.{same_channel}
use Rattle.gr_rules.specs.Outcomes.{Outcome, gives, wrong}
use Rattle.gr_rules.specs.Frames.{Frame, called}
use Rattle.gr_rules.specs.Goroutines.{Goroutine, started}

-- whether the program runs (Go: Program execution)
pub data Run : Type 0 where
  live : Run
  ended : Run
  faulted : Fault → Run

-- An object with its content. A goroutine and a gate may be absent. The tail and the head of a channel are how many values
-- entered and left its buffer. A slot is empty or holds an item with its number; number k stands in slot k mod capacity.
pub data Cell : Type 0 where
  run_has : (run : Run) → Cell
  go_has : (name : List ℕ) (goroutine : Option Goroutine) → Cell
  gate_has : (channel : ChName) (gate : Option GateContent) → Cell
  tail_has : (channel : ChName) (entered : ℕ) → Cell
  head_has : (channel : ChName) (left : ℕ) → Cell
  slot_has : (channel : ChName) (place : ℕ) (item : Option (ℕ × Value)) → Cell

pub record State : Type 0 where
  pub run : Run
  pub goroutines : List ℕ → Option Goroutine
  pub gates : ChName → Option GateContent
  pub tails : ChName → ℕ
  pub heads : ChName → ℕ
  pub slots : ChName → ℕ → Option (ℕ × Value)

-- whether two names are one
abbrev pub same_go : List ℕ → List ℕ → Bool
same_go = pointwise nat_eq

-- whether two objects are one
abbrev pub same : Object → Object → Bool
same objects.Run objects.Run = true
same (Go g) (Go h) = same_go g h
same (Gate c) (Gate d) = same_channel c d
same (Tail c) (Tail d) = same_channel c d
same (Head c) (Head d) = same_channel c d
same (Slot c i) (Slot d j) = same_channel c d && (i == j)
same _ _ = false

abbrev pub object_of : Cell → Object
object_of (run_has r) = objects.Run
object_of (go_has g x) = Go g
object_of (gate_has c x) = Gate c
object_of (tail_has c x) = Tail c
object_of (head_has c x) = Head c
object_of (slot_has c i x) = Slot c i

-- an object with its content in the state
abbrev pub look : State → Object → Cell
look s objects.Run = run_has s.run
look s (Go g) = go_has g (s.goroutines g)
look s (Gate c) = gate_has c (s.gates c)
look s (Tail c) = tail_has c (s.tails c)
look s (Head c) = head_has c (s.heads c)
look s (Slot c i) = slot_has c i (s.slots c i)

-- the function with this value at one name
abbrev pub updated : {K X : Type 0} → (K → K → Bool) → (K → X) → K → X → K → X
updated equal f k x n = if equal n k then x else f n

-- the state with this content at its object
abbrev pub put : State → Cell → State
put s (run_has r) = record s { run = r }
put s (go_has g x) = record s { goroutines = updated same_go s.goroutines g x }
put s (gate_has c x) = record s { gates = updated same_channel s.gates c x }
put s (tail_has c x) = record s { tails = updated same_channel s.tails c x }
put s (head_has c x) = record s { heads = updated same_channel s.heads c x }
put s (slot_has c i x) = record s { slots = updated same_channel s.slots c (updated nat_eq (s.slots c) i x) }

-- the function with this number, before its first statement
abbrev pub call_of : Program → ℕ → List Value → Outcome Frame
call_of (ProgramIs functions main) number vs = elim (slice_get functions number) [ Some function ↦ called number vs function | None ↦ wrong ]

abbrev pub main_of : Program → ℕ
main_of (ProgramIs functions main) = main

-- a goroutine in this frame, before its first step
abbrev pub started_in : Outcome Frame → Option Goroutine
started_in frame = elim frame [ gives f ↦ Some (started f) | _ ↦ None ]

-- The state in which a program starts: one goroutine, named by the empty list, is in `main` (Go: Program execution). A checked
-- program has one.
abbrev pub start : Program → State
start p = record {
  run = live;
  goroutines = λ g. if same_go g [] then started_in (call_of p (main_of p) []) else None;
  gates = λ c. None;
  tails = λ c. 0;
  heads = λ c. 0;
  slots = λ c i. None;
}
