-- Instructions: one for each step, with operands that have no parts, and with the numbers of the instructions that may follow.
use Rattle.std.specs.Prelude.{ℕ, ◌-◌, Bool, true, false, List, [], ◌∷◌, slice_get, Option, Some, None, if◌then◌else◌}
use Rattle.gr_tree.specs.declared.expr.BinaryOp.{BinaryOp}
use Rattle.gr_base.specs.declared.values.Value.{Value}
use Rattle.gr_base.specs.declared.values.Value.TheVariants.{Bool as Truth, Unit as Empty}
use Rattle.gr_rules.specs.Outcomes.{Outcome, gives, wrong, ◌>>=◌}
use Rattle.gr_rules.specs.Operators.{operate, settles}
use Rattle.gr_rules.specs.Operands.{Operand, Variable, Operands}
use Rattle.gr_rules.specs.Evaluation.{Variables, evaluate, evaluate_all}
use Rattle.gr_rules.specs.Parts.{Ask, Calls, Receives, CountsItems, CountsPlaces, Decides}
use Rattle.gr_rules.specs.Parts as parts
use Rattle.gr_rules.specs.Points.{Piece}
use Rattle.gr_rules.specs.Frames.{assigned}
use Rattle.gr_rules.specs.Deeds.{Communication, Sending, Receiving, Otherwise, Deed, Prints, Enters, Leaves, Starts, Makes, TakesLen, TakesCap, Closes, Communicates, Chooses, as_channel, as_int, as_truth, only, texts, spaced}
use Rattle.gr_code.specs.Filling.{Temporaries, with_value, keeping}

-- a clause of a select; where a receive assigns, the temporaries for the value and for whether it was sent
pub data Arm : Type 0 where
  DefaultArm : (on : ℕ) → Arm
  SendArm : (channel value : Operand) (on : ℕ) → Arm
  ReceiveArm : (channel : Operand) (zero : Value) (into : Option (ℕ × ℕ)) (on : ℕ) → Arm

-- what a statement does, all its parts being done
pub data Action : Type 0 where
  Assigns : (targets : List (Option ℕ)) (on : ℕ) → Action
  -- to the temporaries for the value and for whether it was sent
  AssignsReceived : (zero : Value) (value ok on : ℕ) → Action
  Updates : (variable : ℕ) (op : BinaryOp) (on : ℕ) → Action
  ClosesChannel : (on : ℕ) → Action
  PrintsLine : (pieces : List Piece) (on : ℕ) → Action
  Sends : (on : ℕ) → Action
  StartsFunction : (function on : ℕ) → Action
  Returns : Action
  GoesOn : (on : ℕ) → Action
  -- as no checked program does
  Fails : Action
  Tests : (holds fails : ℕ) → Action
  -- a range keeps its channel
  Ranges : (slot on : ℕ) → Action
  Turns : (slot body after : ℕ) → Action

pub data Instruction : Type 0 where
  -- a part; its value goes to a temporary, unless the part is the whole statement
  Part : (ask : Ask) (slot : Option ℕ) (on : ℕ) → Instruction
  -- the left operand of `&&` or `||` goes to a temporary; where it settles, the right one is skipped
  Decide : (op : BinaryOp) (left : Operand) (slot settled right : ℕ) → Instruction
  Perform : (action : Action) (operands : Operands) → Instruction
  Choose : (arms : List Arm) → Instruction

-- where a frame of code stands: its variables, its temporaries, and the number of its next instruction
pub record Spot : Type 0 where
  pub variables : Variables
  pub temporaries : Temporaries
  pub number : ℕ

abbrev pub spot : Variables → Temporaries → ℕ → Spot
spot vs ts on = record { variables = vs; temporaries = ts; number = on }

-- what an instruction comes to: another spot, or a deed that asks for something beyond the frame
pub data Doing : Type 0 where
  Goes : (on : Spot) → Doing
  Does : (deed : Deed) → Doing

-- the values of parts whose operands stand in one vector with the variables and temporaries
abbrev pub asked : Variables → Ask → Outcome Doing
asked all (Calls f arguments) = evaluate_all all arguments >>= λ vs. gives (Does (Enters f vs))
asked all (Receives channel zero) = (evaluate all channel >>= as_channel) >>= λ c. gives (Does (Communicates (Receiving c zero)))
asked all (parts.Makes size) = (evaluate all size >>= as_int) >>= λ n. gives (Does (Makes n))
asked all (CountsItems channel) = (evaluate all channel >>= as_channel) >>= λ c. gives (Does (TakesLen c))
asked all (CountsPlaces channel) = (evaluate all channel >>= as_channel) >>= λ c. gives (Does (TakesCap c))
asked all (Decides op left) = wrong

abbrev pub clauses_of : Variables → List Arm → Outcome (List Communication)
clauses_of all [] = gives []
clauses_of all (DefaultArm on ∷ arms) = clauses_of all arms >>= λ cs. gives (Otherwise ∷ cs)
clauses_of all (SendArm channel value on ∷ arms) =
    (evaluate all channel >>= as_channel) >>= λ c. clauses_of all arms >>= λ cs. gives (Sending c (evaluate all value) ∷ cs)
clauses_of all (ReceiveArm channel zero into on ∷ arms) =
    (evaluate all channel >>= as_channel) >>= λ c. clauses_of all arms >>= λ cs. gives (Receiving c zero ∷ cs)

-- a value that was received, and whether it was sent, in their temporaries
abbrev pub receiving : Temporaries → Option (ℕ × ℕ) → Value × Bool → Temporaries
receiving ts into got = elim into [ Some slots ↦ with_value (with_value ts slots.0 got.0) slots.1 (Truth got.1) | None ↦ ts ]

-- from a spot
module _ (s : Spot) where
  -- at another instruction, with these temporaries or with the same
  abbrev pub on_with : Temporaries → ℕ → Spot
  on_with ts on = spot s.variables ts on

  abbrev pub on_to : ℕ → Spot
  on_to on = on_with s.temporaries on

  -- past a decision
  abbrev pub decided_to : BinaryOp → ℕ → ℕ → ℕ → Value → Spot
  decided_to op slot settled right v = on_with (with_value s.temporaries slot v) (if settles op v then settled else right)

  abbrev pub perform : Action → List Value → Outcome Doing
  perform (Assigns targets on) xs = assigned targets xs s.variables >>= λ held. gives (Goes (spot held s.temporaries on))
  perform (AssignsReceived zero value ok on) xs = (only xs >>= as_channel) >>= λ c. gives (Does (Communicates (Receiving c zero)))
  perform (Updates x op on) xs = (evaluate s.variables (Variable x) >>= λ u. only xs >>= operate op u)
      >>= λ w. assigned (Some x ∷ []) (w ∷ []) s.variables >>= λ held. gives (Goes (spot held s.temporaries on))
  perform (ClosesChannel on) xs = (only xs >>= as_channel) >>= λ c. gives (Does (Closes c))
  perform (PrintsLine pieces on) xs = texts pieces xs >>= λ ts. gives (Does (Prints (spaced ts)))
  perform (Sends on) (c ∷ v ∷ []) = as_channel c >>= λ c. gives (Does (Communicates (Sending c (gives v))))
  perform (Sends on) _ = wrong
  perform (StartsFunction f on) xs = gives (Does (Starts f xs))
  perform Returns [] = gives (Does (Leaves Empty))
  perform Returns (v ∷ []) = gives (Does (Leaves v))
  perform Returns _ = wrong
  perform (GoesOn on) xs = gives (Goes (on_to on))
  perform Fails xs = wrong
  perform (Tests holds fails) xs = (only xs >>= as_truth) >>= λ b. gives (Goes (on_to (if b then holds else fails)))
  perform (Ranges slot on) xs = only xs >>= λ c. gives (Goes (on_with (with_value s.temporaries slot c) on))
  perform (Turns slot body after) xs = (only xs >>= as_channel) >>= λ c. gives (Does (Communicates (Receiving c Empty)))

  -- what an instruction comes to, where one vector holds the variables and the temporaries
  abbrev pub run : Variables → Instruction → Outcome Doing
  run all (Part ask slot on) = asked all ask
  run all (Decide op left slot settled right) = evaluate all left >>= λ v. gives (Goes (decided_to op slot settled right v))
  run all (Perform action operands) = evaluate_all all operands >>= perform action
  run all (Choose arms) = clauses_of all arms >>= λ cs. gives (Does (Chooses cs))

  -- where it goes on: after it printed, closed or started something
  abbrev pub on_after : Instruction → Outcome Spot
  on_after (Perform (PrintsLine pieces on) operands) = gives (on_to on)
  on_after (Perform (ClosesChannel on) operands) = gives (on_to on)
  on_after (Perform (StartsFunction f on) operands) = gives (on_to on)
  on_after _ = wrong

  -- with the value of its part
  abbrev pub on_resumed : Instruction → Value → Outcome Spot
  on_resumed (Part ask slot on) v = gives (on_with (keeping s.temporaries slot v) on)
  on_resumed (Decide op left slot settled right) v = gives (decided_to op slot settled right v)
  on_resumed _ v = wrong

  -- past its communication, with what it got where that is a receive
  abbrev pub on_past_part : Ask → Option ℕ → ℕ → Option (Value × Bool) → Outcome Spot
  on_past_part (Receives channel zero) slot on (Some got) = gives (on_with (keeping s.temporaries slot got.0) on)
  on_past_part ask slot on got = wrong

  abbrev pub on_past_action : Action → Option (Value × Bool) → Outcome Spot
  on_past_action (Sends on) None = gives (on_to on)
  on_past_action (AssignsReceived zero value ok on) (Some got) = gives (on_with (receiving s.temporaries (Some (value, ok)) got) on)
  on_past_action (Turns slot body after) (Some (v, true)) = gives (on_with (with_value s.temporaries slot v) body)
  on_past_action (Turns slot body after) (Some (v, false)) = gives (on_to after)
  on_past_action action got = wrong

  abbrev pub on_past_arm : Option Arm → Option (Value × Bool) → Outcome Spot
  on_past_arm (Some (DefaultArm on)) None = gives (on_to on)
  on_past_arm (Some (SendArm channel value on)) None = gives (on_to on)
  on_past_arm (Some (ReceiveArm channel zero into on)) (Some got) = gives (on_with (receiving s.temporaries into got) on)
  on_past_arm arm got = wrong

  -- past the communication of a clause of a select, by its number from 1, or of any other instruction
  abbrev pub on_past : Instruction → Option ℕ → Option (Value × Bool) → Outcome Spot
  on_past (Part ask slot on) None got = on_past_part ask slot on got
  on_past (Perform action operands) None got = on_past_action action got
  on_past (Choose arms) (Some number) got = on_past_arm (slice_get arms (number - 1)) got
  on_past i clause got = wrong
