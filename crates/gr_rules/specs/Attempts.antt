-- Attempts at a step: rules that ask for objects, and end in a step or in a refusal.
use Rattle.std.specs.Prelude.{ℕ, ◌%◌, ◌==◌, List, Option, Some, None, option_map, if◌then◌else◌}
use Rattle.std.specs.Option.{option_map_or}
use Rattle.gr_base.specs.declared.names.ChName.{ChName}
use Rattle.gr_base.specs.declared.values.Value.{Value}
use Rattle.gr_base.specs.declared.kinds.Kind.{Kind}
use Rattle.gr_base.specs.declared.kinds.Kind.TheVariants.{Pick}
use Rattle.gr_base.specs.declared.objects.Object.{Object}
use Rattle.gr_base.specs.declared.objects.Object.TheVariants as objects
use Rattle.gr_causal.specs.Rules.{Rule}
use Rattle.gr_causal.specs.Rules as rules
use Rattle.gr_channels.specs.Objects.{GateContent}
use Rattle.gr_rules.specs.Goroutines.{Goroutine}
use Rattle.gr_rules.specs.States.{Run, Cell, run_has, go_has, gate_has, tail_has, head_has, slot_has, State, look}

-- why a step is not possible; the first that holds, in this order
pub data Refusal : Type 0 where
  program_is_over : Refusal
  no_such_goroutine : Refusal
  goroutine_is_done : Refusal
  goroutine_waits : Refusal
  no_such_choice : Refusal
  -- in no state that a checked program reaches
  unsound : Refusal

-- what a step does with a channel
pub data Operation : Type 0 where
  sends_on : ChName → Operation
  receives_from : ChName → Operation
  takes_len_of : ChName → Operation
  takes_cap_of : ChName → Operation
  closes : ChName → Operation

-- What is noted of a step: what it did, the clause of a select that it picked, and its ordinal among the steps of its
-- goroutine. Beside that, the line that it printed, and what it did with a channel.
pub record Report : Type 0 where
  pub deed : Kind
  pub clause : Option ℕ
  pub ordinal : ℕ
  pub printed : Option (List ℕ)
  pub operation : Option Operation

-- the kind of a step
abbrev pub kind_of : Report → Kind
kind_of r = option_map_or Pick r.clause r.deed

pub data Attempt : Type 0 where
  refuse : Refusal → Attempt
  perform : Report → List Cell → Attempt
  ask : Object → (Cell → Attempt) → Attempt

-- the attempt as a rule of a machine
abbrev pub rule_of : Attempt → Rule Object Cell Report
rule_of (refuse r) = rules.stuck
rule_of (perform report cells) = rules.does report cells
rule_of (ask o f) = rules.ask o (λ x. rule_of (f x))

-- why it is refused in a state, if it is
abbrev pub refusal_in : State → Attempt → Option Refusal
refusal_in s (refuse r) = Some r
refusal_in s (perform report cells) = None
refusal_in s (ask o f) = refusal_in s (f (look s o))

abbrev pub ask_run : (Run → Attempt) → Attempt
ask_run k = ask objects.Run (elim [ run_has r ↦ k r | _ ↦ refuse unsound ])

abbrev pub ask_go : List ℕ → (Option Goroutine → Attempt) → Attempt
ask_go name k = ask (objects.Go name) (elim [ go_has g x ↦ k x | _ ↦ refuse unsound ])

abbrev pub ask_tail : ChName → (ℕ → Attempt) → Attempt
ask_tail c k = ask (objects.Tail c) (elim [ tail_has d n ↦ k n | _ ↦ refuse unsound ])

abbrev pub ask_head : ChName → (ℕ → Attempt) → Attempt
ask_head c k = ask (objects.Head c) (elim [ head_has d n ↦ k n | _ ↦ refuse unsound ])

abbrev pub ask_slot : ChName → ℕ → (Option (ℕ × Value) → Attempt) → Attempt
ask_slot c i k = ask (objects.Slot c i) (elim [ slot_has d j x ↦ k x | _ ↦ refuse unsound ])

-- what is there
abbrev pub if_there : {A : Type 0} → (A → Attempt) → Option A → Attempt
if_there k (Some a) = k a
if_there k None = refuse unsound

abbrev pub ask_gate : ChName → (GateContent → Attempt) → Attempt
ask_gate c k = ask (objects.Gate c) (elim [ gate_has d x ↦ if_there k x | _ ↦ refuse unsound ])

abbrev pub room_for : ℕ → Option (ℕ × Value) → Option ℕ
room_for n item = elim item [ None ↦ Some n | Some x ↦ None ]

-- the number of the next value that enters the buffer, if there is room: the slot of the tail is empty
abbrev pub ask_room : ChName → GateContent → (Option ℕ → Attempt) → Attempt
ask_room c gate k = ask_tail c (λ n. if gate.capacity == 0 then k None else ask_slot c (n % gate.capacity) (λ item. k (room_for n item)))

-- the front item of the buffer with its number, if there is one: it stands in the slot of the head
abbrev pub ask_item : ChName → GateContent → (Option (ℕ × Value) → Attempt) → Attempt
ask_item c gate k = ask_head c (λ n. if gate.capacity == 0 then k None else ask_slot c (n % gate.capacity) (λ item. k (option_map (λ x. (n, x.1)) item)))
