-- What it is to be the code of the rules: each instruction means a point, and does what the rules do there.
use Rattle.std.specs.Prelude.{◌≡◌, ◌<◌, ℕ, ◌+◌, Bool, true, false, List, [], ◌∷◌, slice_get, Option, Some, None, if◌then◌else◌}
use Rattle.gr_scan.specs.declared.token.Place.{Place}
use Rattle.gr_tree.specs.declared.expr.BinaryOp.{BinaryOp}
use Rattle.gr_base.specs.declared.values.Value.{Value}
use Rattle.gr_program.specs.Programs.{Expr, Literal, Stmts, Cases, no_case, default_case, send_case, receive_case}
use Rattle.gr_rules.specs.Outcomes.{Outcome, gives, ◌>>=◌}
use Rattle.gr_rules.specs.Operators.{settles}
use Rattle.gr_rules.specs.Operands.{Operand, Done, Operands, nothing, also, one, value_of}
use Rattle.gr_rules.specs.Evaluation.{Variables, held}
use Rattle.gr_rules.specs.Parts.{Ask, Decides, Plain, Asks, next_of}
use Rattle.gr_rules.specs.Points.{Rest, ranging, chosen, Piece, Work, Assign, AssignReceive, Update, Eval, Close, Print, Send, Go, Return, GoOn, Astray, Test, Range, Turn, Select, Point, at, onto, point_after}
use Rattle.gr_rules.specs.Frames.{Frame, goes_on, is_over}
use Rattle.gr_rules.specs.Deeds.{Deed, Moves, deed, resumed, assigning, clause_point, past}
use Rattle.gr_code.specs.Filling.{Temporaries, with_value, keeping, fill, fill_all, fill_rest, fill_point, ClearAll}
use Rattle.gr_code.specs.Bounds.{NoneBelow}
use Rattle.gr_code.specs.Instructions.{Arm, DefaultArm, SendArm, ReceiveArm, Assigns, AssignsReceived, Updates, ClosesChannel, PrintsLine, Sends, StartsFunction, Returns, GoesOn, Fails, Tests, Ranges, Turns, Instruction, Part, Decide, Perform, Choose, Spot, Doing, Goes, Does, receiving, run, on_after, on_resumed, on_past}

-- the points that instructions mean, by their numbers
abbrev pub Meanings : Type 0
Meanings = ℕ → Point

-- the instruction with this number means this point, its temporaries being filled in
abbrev pub Means : Meanings → Temporaries → ℕ → Point → Type 0
Means means ts on p = (fill_point ts (means on) ≡ p) × ClearAll ts (means on).operands

-- what remains comes next, whatever the temporaries are, which have the numbers from n on
abbrev pub Continues : ℕ → Meanings → Operands → Rest → ℕ → Type 0
Continues n means es rest on = (ts : Temporaries) → NoneBelow n ts → ClearAll ts es → Means means ts on (point_after (fill_rest ts rest))

-- the point with these operands, one part more being done
abbrev pub point_filled : Point → Operands → Point
point_filled p operands = if is_over p.work operands then point_after p.rest else at p.place p.work operands p.rest

abbrev pub is_decision : Ask → Bool
is_decision ask = elim ask [ Decides op left ↦ true | _ ↦ false ]

-- the arms of a select with these operands in all are those of its clauses from a number on
pub data FitArms (n : ℕ) (means : Meanings) (place : Place) (all : Operands) (rest : Rest) : ℕ → Cases → Operands → List Arm → Type 0 where
  no_arm : (number : ℕ) → FitArms n means place all rest number no_case nothing []
  default_arm : (number : ℕ) (body : Stmts) (others : Cases) (es : Operands) (arms : List Arm) (on : ℕ)
      → Continues n means all (onto body (chosen number rest)) on
      → FitArms n means place all rest (number + 1) others es arms
      → FitArms n means place all rest number (default_case body others) es (DefaultArm on ∷ arms)
  send_arm : (number : ℕ) (channel value : Expr) (body : Stmts) (others : Cases)
      → (c e : Operand) (es : Operands) (arms : List Arm) (on : ℕ)
      → Continues n means all (onto body (chosen number rest)) on
      → FitArms n means place all rest (number + 1) others es arms
      → FitArms n means place all rest number (send_case channel value body others) (also c (also e es)) (SendArm c e on ∷ arms)
  receive_arm : (number : ℕ) (targets : List (Option ℕ)) (channel : Expr) (zero : Literal) (body : Stmts) (others : Cases)
      → (c : Operand) (es : Operands) (arms : List Arm) (into : Option (ℕ × ℕ)) (on : ℕ)
      → ((ts : Temporaries) (got : Value × Bool) → NoneBelow n ts → ClearAll ts all
      → Means means (receiving ts into got) on (clause_point place targets (onto body (chosen number (fill_rest ts rest))) got))
      → FitArms n means place all rest (number + 1) others es arms
      → FitArms n means place all rest number (receive_case targets channel zero body others) (also c es)
      (ReceiveArm c (value_of zero) into on ∷ arms)

-- the instruction does what the rules do at the point
pub data Fits (n : ℕ) (means : Meanings) : Point → Instruction → Type 0 where
  part : (place : Place) (work : Work) (es : Operands) (rest : Rest) (ask : Ask) (k : Value → Operands) (slot : Option ℕ) (on : ℕ)
      → next_of es ≡ Asks ask k → is_decision ask ≡ false
      → ((ts : Temporaries) (v : Value) → NoneBelow n ts → ClearAll ts es
      → Means means (keeping ts slot v) on (point_filled (fill_point ts (at place work es rest)) (fill_all ts (k v))))
      → Fits n means (at place work es rest) (Part ask slot on)
  decision : (place : Place) (work : Work) (es : Operands) (rest : Rest)
      → (op : BinaryOp) (left : Operand) (k : Value → Operands) (slot settled right : ℕ)
      → next_of es ≡ Asks (Decides op left) k
      → ((ts : Temporaries) (v : Value) → NoneBelow n ts → ClearAll ts es
      → Means means (with_value ts slot v) (if settles op v then settled else right) (point_filled (fill_point ts (at place work es rest)) (fill_all ts (k v))))
      → Fits n means (at place work es rest) (Decide op left slot settled right)
  assignment : (place : Place) (targets : List (Option ℕ)) (es : Operands) (rest : Rest) (on : ℕ)
      → next_of es ≡ Plain → Continues n means es rest on → Fits n means (at place (Assign targets) es rest) (Perform (Assigns targets on) es)
  assignment_received : (place : Place) (x y : Option ℕ) (zero : Value) (es : Operands) (rest : Rest) (value ok on : ℕ) → next_of es ≡ Plain
      → ((ts : Temporaries) (got : Value × Bool) → NoneBelow n ts → ClearAll ts es
      → Means means (receiving ts (Some (value, ok)) got) on (assigning place (x ∷ y ∷ []) (fill_rest ts rest) got))
      → Fits n means (at place (AssignReceive x y zero) es rest) (Perform (AssignsReceived zero value ok on) es)
  update : (place : Place) (x : ℕ) (op : BinaryOp) (es : Operands) (rest : Rest) (on : ℕ)
      → next_of es ≡ Plain → Continues n means es rest on → Fits n means (at place (Update x op) es rest) (Perform (Updates x op on) es)
  expression : (place : Place) (es : Operands) (rest : Rest) → next_of es ≡ Plain → Fits n means (at place Eval es rest) (Perform Fails es)
  closing_channel : (place : Place) (es : Operands) (rest : Rest) (on : ℕ)
      → next_of es ≡ Plain → Continues n means es rest on → Fits n means (at place Close es rest) (Perform (ClosesChannel on) es)
  printing : (place : Place) (pieces : List Piece) (es : Operands) (rest : Rest) (on : ℕ)
      → next_of es ≡ Plain → Continues n means es rest on → Fits n means (at place (Print pieces) es rest) (Perform (PrintsLine pieces on) es)
  sending : (place : Place) (es : Operands) (rest : Rest) (on : ℕ)
      → next_of es ≡ Plain → Continues n means es rest on → Fits n means (at place Send es rest) (Perform (Sends on) es)
  starting : (place : Place) (f : ℕ) (es : Operands) (rest : Rest) (on : ℕ)
      → next_of es ≡ Plain → Continues n means es rest on → Fits n means (at place (Go f) es rest) (Perform (StartsFunction f on) es)
  returning : (place : Place) (es : Operands) (rest : Rest) → next_of es ≡ Plain → Fits n means (at place Return es rest) (Perform Returns es)
  going_on : (place : Place) (es : Operands) (rest : Rest) (on : ℕ)
      → next_of es ≡ Plain → Continues n means es rest on → Fits n means (at place GoOn es rest) (Perform (GoesOn on) es)
  astray : (place : Place) (es : Operands) (rest : Rest) → next_of es ≡ Plain → Fits n means (at place Astray es rest) (Perform Fails es)
  test : (place : Place) (holds : Rest) (es : Operands) (rest : Rest) (holds_on fails_on : ℕ) → next_of es ≡ Plain
      → Continues n means es holds holds_on → Continues n means es rest fails_on
      → Fits n means (at place (Test holds) es rest) (Perform (Tests holds_on fails_on) es)
  range : (place : Place) (target : Option ℕ) (body : Stmts) (es : Operands) (rest : Rest) (slot on : ℕ) → next_of es ≡ Plain
      → ((ts : Temporaries) (c : Value) → NoneBelow n ts → ClearAll ts es
      → Means means (with_value ts slot c) on (at place (Turn target body) (one (Done c)) (fill_rest ts rest)))
      → Fits n means (at place (Range target body) es rest) (Perform (Ranges slot on) es)
  range_turn : (place : Place) (target : Option ℕ) (body : Stmts) (channel : Operand) (rest : Rest) (slot into after : ℕ)
      → next_of (one channel) ≡ Plain
      → ((ts : Temporaries) (v : Value) → NoneBelow n ts → ClearAll ts (one channel)
      → Means means (with_value ts slot v) into
      (at place (Assign (target ∷ [])) (one (Done v)) (onto body (ranging place target (fill ts channel) body (fill_rest ts rest)))))
      → ((ts : Temporaries) → NoneBelow n ts → ClearAll ts (one channel) → Means means ts after (at place GoOn nothing (fill_rest ts rest)))
      → Fits n means (at place (Turn target body) (one channel) rest) (Perform (Turns slot into after) (one channel))
  select : (place : Place) (cases : Cases) (es : Operands) (rest : Rest) (arms : List Arm)
      → next_of es ≡ Plain → FitArms n means place es rest 1 cases es arms → Fits n means (at place (Select cases) es rest) (Choose arms)

-- each instruction fits the point that it means, the temporaries having the numbers from n on
abbrev pub IsCode : ℕ → Meanings → (ℕ → Option Instruction) → Type 0
IsCode n means code = (on : ℕ) (i : Instruction) → code on ≡ Some i → Fits n means (means on) i

-- the frame of a function at a spot of its code
abbrev pub frame_at : Meanings → ℕ → Spot → Frame
frame_at means function s = record { function = function; variables = s.variables; point = fill_point s.temporaries (means s.number) }

abbrev pub IsClear : Meanings → Spot → Type 0
IsClear means s = ClearAll s.temporaries (means s.number).operands

-- the value of a temporary that has one, and else this
abbrev pub value_or : Option Value → Outcome Value → Outcome Value
value_or o other = elim o [ Some v ↦ gives v | None ↦ other ]

-- one vector holds the variables and the temporaries of a spot
abbrev pub Holds : Spot → Variables → Type 0
Holds s all = (x : ℕ) → held (slice_get all x) ≡ value_or (s.temporaries x) (held (slice_get s.variables x))

-- what a frame at a spot comes to by the rules
abbrev pub deed_of : Meanings → ℕ → Doing → Deed
deed_of means function (Goes on) = Moves (frame_at means function on)
deed_of means function (Does d) = d

-- only a select has clauses, with numbers from 1 on
abbrev pub HasClause : Instruction → Option ℕ → Type 0
HasClause i None = Unit {0}
HasClause (Choose arms) (Some number) = 0 < number
HasClause _ (Some number) = ⊥

-- what is given, if something is, has the property
abbrev pub IfGiven : {A : Type 0} → (A → Type 0) → Outcome A → Type 0
IfGiven P o = elim o [ gives x ↦ P x | _ ↦ Unit {0} ]

-- the instruction does at the spot what the rules do in the frame, and goes on as that goes on
pub record Simulates (means : Meanings) (function : ℕ) (s : Spot) (all : Variables) (i : Instruction) (f : Frame) : Type 0 where
  pub does : deed f ≡ (run s all i >>= λ d. gives (deed_of means function d))
  pub after : IfGiven (λ t. goes_on f ≡ frame_at means function t) (on_after s i)
  pub resumes : (v : Value) → resumed f v ≡ (on_resumed s i v >>= λ t. gives (frame_at means function t))
  pub passes : (clause : Option ℕ) (got : Option (Value × Bool)) → HasClause i clause
      → past f clause got ≡ (on_past s i clause got >>= λ t. gives (frame_at means function t))

abbrev pub ClearDoing : Meanings → Doing → Type 0
ClearDoing means (Goes on) = IsClear means on
ClearDoing means (Does d) = Unit {0}

-- wherever it goes on, the temporaries are as the point there wants them
pub record StaysClear (means : Meanings) (s : Spot) (all : Variables) (i : Instruction) : Type 0 where
  pub does : IfGiven (ClearDoing means) (run s all i)
  pub after : IfGiven (IsClear means) (on_after s i)
  pub resumes : (v : Value) → IfGiven (IsClear means) (on_resumed s i v)
  pub passes : (clause : Option ℕ) (got : Option (Value × Bool)) → IfGiven (IsClear means) (on_past s i clause got)
