-- Frames of code: the variables and the temporaries stand in one vector, by their numbers. What each instruction makes of them.
use Rattle.std.specs.Prelude.{ℕ, ◌-◌, Bool, true, false, List, [], ◌∷◌, replicate, slice_get, slice_set, Option, Some, None, option_and_then, if◌then◌else◌}
use Rattle.gr_tree.specs.declared.expr.BinaryOp.{BinaryOp}
use Rattle.gr_base.specs.declared.values.Value.{Value}
use Rattle.gr_base.specs.declared.values.Value.TheVariants.{Bool as Truth, Unit as Empty}
use Rattle.gr_rules.specs.Outcomes.{Outcome, gives, wrong, ◌>>=◌}
use Rattle.gr_rules.specs.Operators.{operate, settles}
use Rattle.gr_rules.specs.Operands.{Variable}
use Rattle.gr_rules.specs.Evaluation.{Variables, evaluate, evaluate_all}
use Rattle.gr_rules.specs.Parts.{Ask, Calls, Receives, CountsItems, CountsPlaces, Decides}
use Rattle.gr_rules.specs.Parts as parts
use Rattle.gr_rules.specs.Frames.{assigned}
use Rattle.gr_rules.specs.Deeds.{Sending, Receiving, Deed, Prints, Enters, Leaves, Starts, Makes, TakesLen, TakesCap, Closes, Communicates, Chooses, as_channel, as_int, as_truth, only, texts, spaced}
use Rattle.gr_code.specs.Instructions.{Arm, DefaultArm, SendArm, ReceiveArm, Action, Assigns, AssignsReceived, Updates, ClosesChannel, PrintsLine, Sends, StartsFunction, Returns, GoesOn, Fails, Tests, Ranges, Turns, Instruction, Part, Decide, Perform, Choose, clauses_of}

-- The code of a function: the variables of its parameters, how many variables it has, and how many cells its frames have. A
-- call begins with the first of its instructions. Beside each instruction stands the line on which its statement begins.
pub record FunctionCode : Type 0 where
  pub parameters : List (Option ℕ)
  pub variables : ℕ
  pub cells : ℕ
  pub instructions : List Instruction
  pub lines : List ℕ

-- the code of a program: its functions by number, and the number of `main`
pub record ProgramCode : Type 0 where
  pub functions : List FunctionCode
  pub main : ℕ

-- a function that was called and has not returned: its number, that of its next instruction, and its cells
pub record CodeFrame : Type 0 where
  pub function : ℕ
  pub number : ℕ
  pub cells : Variables

-- what a frame of code comes to: another, or a deed that asks for something beyond the frame
pub data Task : Type 0 where
  Steps : (on : CodeFrame) → Task
  Wants : (deed : Deed) → Task

abbrev pub instruction_at : ProgramCode → CodeFrame → Option Instruction
instruction_at code f = option_and_then (λ c. slice_get c.instructions f.number) (slice_get code.functions f.function)

-- the function before its first instruction, its parameters having these values
abbrev pub entered : ProgramCode → ℕ → List Value → Outcome CodeFrame
entered code number vs = elim (slice_get code.functions number) [
  | Some c ↦ assigned c.parameters vs (replicate c.cells None) >>= λ held. gives (record { function = number; number = 0; cells = held })
  | None ↦ wrong
]

-- what a part asks for
abbrev pub asked_in : Variables → Ask → Outcome Task
asked_in all (Calls f arguments) = evaluate_all all arguments >>= λ vs. gives (Wants (Enters f vs))
asked_in all (Receives channel initial) = (evaluate all channel >>= as_channel) >>= λ c. gives (Wants (Communicates (Receiving c initial)))
asked_in all (parts.Makes size) = (evaluate all size >>= as_int) >>= λ n. gives (Wants (Makes n))
asked_in all (CountsItems channel) = (evaluate all channel >>= as_channel) >>= λ c. gives (Wants (TakesLen c))
asked_in all (CountsPlaces channel) = (evaluate all channel >>= as_channel) >>= λ c. gives (Wants (TakesCap c))
asked_in all (Decides op left) = wrong

-- from a frame
module _ (f : CodeFrame) where
  -- the frame at another instruction
  abbrev pub at_number : ℕ → CodeFrame
  at_number on = record f { number = on }

  -- the frame at another instruction, with a value in a temporary
  abbrev pub with_cell : ℕ → Value → ℕ → CodeFrame
  with_cell slot v on = record f { cells = slice_set f.cells slot (Some v); number = on }

  -- the frame at another instruction, with the value of a part; the value is dropped where the part is the whole statement
  abbrev pub with_part : Option ℕ → Value → ℕ → CodeFrame
  with_part slot v on = elim slot [ Some d ↦ with_cell d v on | None ↦ at_number on ]

  -- the frame at another instruction, with a value that was received, and whether it was sent
  abbrev pub with_received : Option (ℕ × ℕ) → Value × Bool → ℕ → CodeFrame
  with_received into got on = elim into [
    | Some slots ↦ record f { cells = slice_set (slice_set f.cells slots.0 (Some got.0)) slots.1 (Some (Truth got.1)); number = on }
    | None ↦ at_number on
  ]

  -- past a decision
  abbrev pub past_decision : BinaryOp → ℕ → ℕ → ℕ → Value → CodeFrame
  past_decision op slot settled right v = with_cell slot v (if settles op v then settled else right)

  abbrev pub acted : Action → List Value → Outcome Task
  acted (Assigns targets on) vs = assigned targets vs f.cells >>= λ held. gives (Steps (record f { cells = held; number = on }))
  acted (AssignsReceived initial value ok on) vs = (only vs >>= as_channel) >>= λ c. gives (Wants (Communicates (Receiving c initial)))
  acted (Updates x op on) vs = (evaluate f.cells (Variable x) >>= λ u. only vs >>= operate op u)
      >>= λ w. assigned (Some x ∷ []) (w ∷ []) f.cells >>= λ held. gives (Steps (record f { cells = held; number = on }))
  acted (ClosesChannel on) vs = (only vs >>= as_channel) >>= λ c. gives (Wants (Closes c))
  acted (PrintsLine pieces on) vs = texts pieces vs >>= λ ts. gives (Wants (Prints (spaced ts)))
  acted (Sends on) (c ∷ v ∷ []) = as_channel c >>= λ c. gives (Wants (Communicates (Sending c (gives v))))
  acted (Sends on) _ = wrong
  acted (StartsFunction function on) vs = gives (Wants (Starts function vs))
  acted Returns [] = gives (Wants (Leaves Empty))
  acted Returns (v ∷ []) = gives (Wants (Leaves v))
  acted Returns _ = wrong
  acted (GoesOn on) vs = gives (Steps (at_number on))
  acted Fails vs = wrong
  acted (Tests holds fails) vs = (only vs >>= as_truth) >>= λ b. gives (Steps (at_number (if b then holds else fails)))
  acted (Ranges slot on) vs = only vs >>= λ c. gives (Steps (with_cell slot c on))
  acted (Turns slot body after) vs = (only vs >>= as_channel) >>= λ c. gives (Wants (Communicates (Receiving c Empty)))

  -- what its instruction comes to
  abbrev pub task : Instruction → Outcome Task
  task (Part ask slot on) = asked_in f.cells ask
  task (Decide op left slot settled right) = evaluate f.cells left >>= λ v. gives (Steps (past_decision op slot settled right v))
  task (Perform action operands) = evaluate_all f.cells operands >>= acted action
  task (Choose arms) = clauses_of f.cells arms >>= λ cs. gives (Wants (Chooses cs))

  -- where it goes on: after it printed, closed or started something
  abbrev pub after_in : Instruction → Outcome CodeFrame
  after_in (Perform (PrintsLine pieces on) operands) = gives (at_number on)
  after_in (Perform (ClosesChannel on) operands) = gives (at_number on)
  after_in (Perform (StartsFunction function on) operands) = gives (at_number on)
  after_in _ = wrong

  -- with the value of its part
  abbrev pub resumed_in : Instruction → Value → Outcome CodeFrame
  resumed_in (Part ask slot on) v = gives (with_part slot v on)
  resumed_in (Decide op left slot settled right) v = gives (past_decision op slot settled right v)
  resumed_in _ v = wrong

  -- past its communication, with what it got where that is a receive
  abbrev pub past_part_in : Ask → Option ℕ → ℕ → Option (Value × Bool) → Outcome CodeFrame
  past_part_in (Receives channel initial) slot on (Some got) = gives (with_part slot got.0 on)
  past_part_in ask slot on got = wrong

  abbrev pub past_action_in : Action → Option (Value × Bool) → Outcome CodeFrame
  past_action_in (Sends on) None = gives (at_number on)
  past_action_in (AssignsReceived initial value ok on) (Some got) = gives (with_received (Some (value, ok)) got on)
  past_action_in (Turns slot body after) (Some (v, true)) = gives (with_cell slot v body)
  past_action_in (Turns slot body after) (Some (v, false)) = gives (at_number after)
  past_action_in action got = wrong

  abbrev pub past_arm_in : Option Arm → Option (Value × Bool) → Outcome CodeFrame
  past_arm_in (Some (DefaultArm on)) None = gives (at_number on)
  past_arm_in (Some (SendArm channel value on)) None = gives (at_number on)
  past_arm_in (Some (ReceiveArm channel initial into on)) (Some got) = gives (with_received into got on)
  past_arm_in arm got = wrong

  -- past the communication of a clause of a select, by its number from 1, or of any other instruction
  abbrev pub past_in : Instruction → Option ℕ → Option (Value × Bool) → Outcome CodeFrame
  past_in (Part ask slot on) None got = past_part_in ask slot on got
  past_in (Perform action operands) None got = past_action_in action got
  past_in (Choose arms) (Some number) got = past_arm_in (slice_get arms (number - 1)) got
  past_in i clause got = wrong
