-- What a state and a log tell: which clauses may be picked, what was printed, and what is shown of goroutines and channels.
use Rattle.std.specs.Prelude.{ℕ, zero, suc, ◌-◌, ◌%◌, Bool, List, [], ◌∷◌, ◌++◌, map, filter, is_none, length, get_or, slice_get, Option, Some, None, option_map}
use Rattle.std.specs.List.{filter_map, range_with_len}
use Rattle.std.specs.Option.{option_map_or}
use Rattle.gr_base.specs.declared.names.ChName.{ChName}
use Rattle.gr_base.specs.declared.values.Value.{Value}
use Rattle.gr_base.specs.declared.events.Choice.{Choice}
use Rattle.gr_base.specs.declared.events.Choice.TheVariants.{Plain, Pick, Default, Park}
use Rattle.gr_causal.specs.Machine.{StepOf}
use Rattle.gr_channels.specs.declared.waiter.Waiter.{Waiter}
use Rattle.gr_channels.specs.Objects.{GateContent}
use Rattle.gr_program.specs.Programs.{Declared, Named, Function, FunctionIs, Program, ProgramIs}
use Rattle.gr_rules.specs.Evaluation.{Variables}
use Rattle.gr_rules.specs.Frames.{Frame}
use Rattle.gr_rules.specs.Goroutines.{Status, Goroutine}
use Rattle.gr_rules.specs.States.{State}
use Rattle.gr_rules.specs.Steps.{machine, refusal}
use Rattle.gr_rules.specs.Touches.{clauses_in}

-- how many clauses the select has at which a goroutine stands
abbrev pub how_many_clauses : Option Goroutine → ℕ
how_many_clauses g = option_map_or (λ g. length (clauses_in g.frames)) g 0

-- whether the choice is a step of the goroutine
abbrev pub may : Program → State → List ℕ → Choice → Bool
may p s g choice = is_none (refusal p s (record { go = g; choice = choice }))

-- the clauses that may be picked, by their numbers
abbrev pub ready_clauses : Program → State → List ℕ → List ℕ
ready_clauses p s g = filter (λ i. may p s g (Pick i)) (range_with_len 1 (how_many_clauses (s.goroutines g)))

-- the choice that is taken where none is asked for: the lowest ready clause, else default, else to wait
abbrev pub usual_choice : Program → State → List ℕ → Choice
usual_choice p s g = get_or (map Pick (ready_clauses p s g) ++ filter (may p s g) (Default ∷ Park ∷ [])) 0 Plain

-- the console: the lines that the steps of a log printed, in its order
abbrev pub console : (p : Program) → List (StepOf (machine p)) → List (List ℕ)
console p rs = filter_map (λ r. r.note.kind.printed) rs

-- what is shown of a frame: its function's name, and its variables that hold values, in the order of their declarations
pub record FrameShown : Type 0 where
  pub function : List ℕ
  pub variables : List (List ℕ × Value)

-- what is shown of a goroutine: its status, how many steps it took, the line on which the statement of its next step begins,
-- and its frames, the innermost first
pub record GoroutineShown : Type 0 where
  pub status : Status
  pub steps : ℕ
  pub line : Option ℕ
  pub frames : List FrameShown

-- what is shown of a channel: its capacity, whether it is closed, its items from the first on, and who waits
pub record ChannelShown : Type 0 where
  pub capacity : ℕ
  pub closed : Bool
  pub items : List Value
  pub senders : List (Waiter Value)
  pub receivers : List (Waiter (Unit {0}))

abbrev pub function_of : Program → ℕ → Option Function
function_of (ProgramIs functions main) n = slice_get functions n

abbrev pub holding : List Declared → Variables → List (List ℕ × Value)
holding (d ∷ ds) (None ∷ vs) = holding ds vs
holding (Named x t ∷ ds) (Some v ∷ vs) = (x, v) ∷ holding ds vs
holding _ _ = []

abbrev pub frame_shown : Option Function → Frame → FrameShown
frame_shown None f = record { function = []; variables = [] }
frame_shown (Some (FunctionIs name parameters result variables body last)) f = record { function = name; variables = holding variables f.variables }

abbrev pub next_line : List Frame → Option ℕ
next_line fs = elim fs [ [] ↦ None | f ∷ below ↦ Some f.point.place.line ]

abbrev pub shown : Program → Goroutine → GoroutineShown
shown p g = record {
  status = g.status;
  steps = g.steps;
  line = next_line g.frames;
  frames = map (λ f. frame_shown (function_of p f.function) f) g.frames;
}

-- the items of a channel: those numbered from its head to before its tail
abbrev pub items_from : State → ChName → ℕ → ℕ → ℕ → List (Option (ℕ × Value))
items_from s c capacity number zero = []
items_from s c capacity number (suc n) = s.slots c (number % capacity) ∷ items_from s c capacity (suc number) n

abbrev pub channel_shown : State → ChName → GateContent → ChannelShown
channel_shown s c gate = record {
  capacity = gate.capacity;
  closed = gate.closed;
  items = filter_map (option_map (λ item. item.1)) (items_from s c gate.capacity (s.heads c) (s.tails c - s.heads c));
  senders = gate.senders;
  receivers = gate.receivers;
}
