-- What the next step of a frame is, once its operands are evaluated, and where the frame stands after it.
use Rattle.std.specs.Prelude.{ℕ, zero, suc, ℤ, ◌-◌, Bool, true, false, List, [], ◌∷◌, Option, Some, None, if◌then◌else◌}
use Rattle.std.specs.List.{join_with_byte}
use Rattle.gr_scan.specs.declared.token.Place.{Place}
use Rattle.gr_base.specs.Values.{value_text}
use Rattle.gr_base.specs.declared.names.ChName.{ChName}
use Rattle.gr_base.specs.declared.values.Value.{Value}
use Rattle.gr_base.specs.declared.values.Value.TheVariants.{Int, Bool as Truth, Unit as Empty, Chan}
use Rattle.gr_program.specs.Programs.{Stmts, Cases, no_case, default_case, send_case, receive_case}
use Rattle.gr_rules.specs.Outcomes.{Outcome, gives, wrong, ◌>>=◌}
use Rattle.gr_rules.specs.Operators.{operate}
use Rattle.gr_rules.specs.Operands.{Operand, Done, Variable, Operands, nothing, also, one, two, value_of}
use Rattle.gr_rules.specs.Evaluation.{evaluate, evaluate_all}
use Rattle.gr_rules.specs.Parts.{Ask, Calls, CountsItems, CountsPlaces, Decides, Next, Plain, Asks, next_of}
use Rattle.gr_rules.specs.Parts as parts
use Rattle.gr_rules.specs.Points.{Rest, ranging, chosen, Piece, OfText, OfValue, Work, Assign, AssignReceive, Update, Eval, Close, Print, Send, Go, Return, GoOn, Astray, Test, Range, Turn, Select, Point, at, onto, point_after}
use Rattle.gr_rules.specs.Frames.{Frame, assigned, moved, goes_on, filled}

-- a send or a receive, or the default clause of a select. A channel may be nil; in a select the values to send are evaluated
-- after the choice.
pub data Communication : Type 0 where
  Sending : (channel : Option ChName) (value : Outcome Value) → Communication
  Receiving : (channel : Option ChName) (zero : Value) → Communication
  Otherwise : Communication

-- what a step asks for beyond its frame; one that asks for nothing goes on as this frame
pub data Deed : Type 0 where
  Moves : (on : Frame) → Deed
  Prints : (line : List ℕ) → Deed
  Enters : (function : ℕ) (arguments : List Value) → Deed
  Leaves : (result : Value) → Deed
  Starts : (function : ℕ) (arguments : List Value) → Deed
  Makes : (size : ℤ) → Deed
  TakesLen : (channel : Option ChName) → Deed
  TakesCap : (channel : Option ChName) → Deed
  Closes : (channel : Option ChName) → Deed
  Communicates : (communication : Communication) → Deed
  Chooses : (clauses : List Communication) → Deed

abbrev pub as_channel : Value → Outcome (Option ChName)
as_channel v = elim v [ Chan c ↦ gives c | _ ↦ wrong ]

abbrev pub as_int : Value → Outcome ℤ
as_int v = elim v [ Int n ↦ gives n | _ ↦ wrong ]

abbrev pub as_truth : Value → Outcome Bool
as_truth v = elim v [ Truth b ↦ gives b | _ ↦ wrong ]

-- the value of the one operand
abbrev pub only : List Value → Outcome Value
only vs = elim vs [ v ∷ [] ↦ gives v | _ ↦ wrong ]

-- the texts of what is printed, with one space between them
abbrev pub texts : List Piece → List Value → Outcome (List (List ℕ))
texts [] [] = gives []
texts (OfText bytes ∷ ps) vs = texts ps vs >>= λ ts. gives (bytes ∷ ts)
texts (OfValue ∷ ps) (v ∷ vs) = texts ps vs >>= λ ts. gives (value_text v ∷ ts)
texts _ _ = wrong

abbrev pub spaced : List (List ℕ) → List ℕ
spaced = join_with_byte 32

-- the clauses of a select with the operands of its cases
abbrev pub clauses_of : Frame → Cases → Operands → Outcome (List Communication)
clauses_of f no_case operands = gives []
clauses_of f (default_case body others) operands = clauses_of f others operands >>= λ cs. gives (Otherwise ∷ cs)
clauses_of f (send_case channel value body others) (also c (also e operands)) =
    (evaluate f.variables c >>= as_channel) >>= λ c. clauses_of f others operands >>= λ cs. gives (Sending c (evaluate f.variables e) ∷ cs)
clauses_of f (receive_case targets channel initial body others) (also c operands) =
    (evaluate f.variables c >>= as_channel) >>= λ c. clauses_of f others operands >>= λ cs. gives (Receiving c (value_of initial) ∷ cs)
clauses_of f _ _ = wrong

-- the next part of the statement; deciding `&&` or `||` asks for nothing
abbrev pub part_of : Frame → Ask → (Value → Operands) → Outcome Deed
part_of f (Calls function arguments) k = evaluate_all f.variables arguments >>= λ vs. gives (Enters function vs)
part_of f (parts.Receives channel initial) k = (evaluate f.variables channel >>= as_channel) >>= λ c. gives (Communicates (Receiving c initial))
part_of f (parts.Makes size) k = (evaluate f.variables size >>= as_int) >>= λ n. gives (Makes n)
part_of f (CountsItems channel) k = (evaluate f.variables channel >>= as_channel) >>= λ c. gives (TakesLen c)
part_of f (CountsPlaces channel) k = (evaluate f.variables channel >>= as_channel) >>= λ c. gives (TakesCap c)
part_of f (Decides op left) k = evaluate f.variables left >>= λ v. gives (Moves (filled f (k v)))

-- the statement itself, with the values of its operands; no part is left
abbrev pub work_of : Frame → Work → List Value → Outcome Deed
work_of f (Assign targets) vs = assigned targets vs f.variables >>= λ held. gives (Moves (goes_on (record f { variables = held })))
work_of f (AssignReceive value ok initial) vs = (only vs >>= as_channel) >>= λ c. gives (Communicates (Receiving c initial))
work_of f (Update x op) vs = (evaluate f.variables (Variable x) >>= λ u. only vs >>= operate op u)
    >>= λ w. assigned (Some x ∷ []) (w ∷ []) f.variables >>= λ held. gives (Moves (goes_on (record f { variables = held })))
work_of f Eval vs = wrong
work_of f Close vs = (only vs >>= as_channel) >>= λ c. gives (Closes c)
work_of f (Print pieces) vs = texts pieces vs >>= λ ts. gives (Prints (spaced ts))
work_of f Send (c ∷ v ∷ []) = as_channel c >>= λ c. gives (Communicates (Sending c (gives v)))
work_of f Send _ = wrong
work_of f (Go function) vs = gives (Starts function vs)
work_of f Return [] = gives (Leaves Empty)
work_of f Return (v ∷ []) = gives (Leaves v)
work_of f Return _ = wrong
work_of f GoOn vs = gives (Moves (goes_on f))
work_of f Astray vs = wrong
work_of f (Test holds) vs = (only vs >>= as_truth) >>= λ b. gives (Moves (moved f (point_after (if b then holds else f.point.rest))))
work_of f (Range target body) vs = only vs >>= λ c. gives (Moves (moved f (at f.point.place (Turn target body) (one (Done c)) f.point.rest)))
work_of f (Turn target body) vs = (only vs >>= as_channel) >>= λ c. gives (Communicates (Receiving c Empty))
work_of f (Select cases) vs = wrong

-- a select has its clauses; any other statement has all its operands evaluated
abbrev pub statement_of : Frame → Work → Operands → Outcome Deed
statement_of f (Select cases) operands = clauses_of f cases operands >>= λ cs. gives (Chooses cs)
statement_of f work operands = evaluate_all f.variables operands >>= work_of f work

abbrev pub deed_by : Frame → Next Operands → Outcome Deed
deed_by f (Asks ask k) = part_of f ask k
deed_by f Plain = statement_of f f.point.work f.point.operands

abbrev pub deed : Frame → Outcome Deed
deed f = deed_by f (next_of f.point.operands)

-- the frame with the value of its next part in place of the part
abbrev pub resumed_by : Frame → Next Operands → Value → Outcome Frame
resumed_by f (Asks ask k) v = gives (filled f (k v))
resumed_by f Plain v = wrong

abbrev pub resumed : Frame → Value → Outcome Frame
resumed f v = resumed_by f (next_of f.point.operands) v

-- a value that was received, and whether it was sent, for a statement that assigns them (Go: Receive operator)
abbrev pub assigning : Place → List (Option ℕ) → Rest → Value × Bool → Point
assigning place targets rest got = at place (Assign targets) (two (Done got.0) (Done (Truth got.1))) rest

-- a turn of a range: the body, or past the loop where the channel is closed and empty (Go: For statements with range clause)
abbrev pub turned : Point → Option ℕ → Operand → Stmts → Value → Bool → Point
turned p target c body v true = at p.place (Assign (target ∷ [])) (one (Done v)) (onto body (ranging p.place target c body p.rest))
turned p target c body v false = at p.place GoOn nothing p.rest

-- the frame past its send, or past its receive with what it got: a value, and whether it was sent
abbrev pub past_statement : Frame → Work → Operands → Option (Value × Bool) → Outcome Frame
past_statement f Send operands None = gives (goes_on f)
past_statement f (AssignReceive value ok initial) operands (Some got) = gives (moved f (assigning f.point.place (value ∷ ok ∷ []) f.point.rest got))
past_statement f (Turn target body) (also c nothing) (Some got) = gives (moved f (turned f.point target c body got.0 got.1))
past_statement f _ operands got = wrong

abbrev pub past_next : Frame → Next Operands → Option (Value × Bool) → Outcome Frame
past_next f (Asks (parts.Receives channel initial) k) (Some got) = gives (filled f (k got.0))
past_next f (Asks ask k) got = wrong
past_next f Plain got = past_statement f f.point.work f.point.operands got

-- at the body of the clause with a number; a receive that assigns has a step for that first
abbrev pub body_after : Frame → ℕ → Stmts → Rest
body_after f number body = onto body (chosen number f.point.rest)

abbrev pub clause_point : Place → List (Option ℕ) → Rest → Value × Bool → Point
clause_point place [] rest got = point_after rest
clause_point place (k ∷ ks) rest got = assigning place (k ∷ ks) rest got

-- the first of these clauses, which has the number, with what it got
abbrev pub past_case : Frame → ℕ → Cases → Option (Value × Bool) → Outcome Frame
past_case f number (default_case body others) None = gives (moved f (point_after (body_after f number body)))
past_case f number (send_case channel value body others) None = gives (moved f (point_after (body_after f number body)))
past_case f number (receive_case targets channel initial body others) (Some got) =
    gives (moved f (clause_point f.point.place targets (body_after f number body) got))
past_case f number _ got = wrong

-- the clauses from a place among them on, counted from 0
abbrev pub cases_from : ℕ → Cases → Cases
cases_from zero cases = cases
cases_from (suc i) no_case = no_case
cases_from (suc i) (default_case body others) = cases_from i others
cases_from (suc i) (send_case channel value body others) = cases_from i others
cases_from (suc i) (receive_case targets channel initial body others) = cases_from i others

-- the clauses of the select at which a frame stands
abbrev pub cases_at : Work → Cases
cases_at work = elim work [ Select cases ↦ cases | _ ↦ no_case ]

-- The frame past the communication at which it stands. That is one of its statement or its next part, or of the clause of
-- its select with a number, counted from 1. The goroutine that communicates and the one that it meets go on alike.
abbrev pub past : Frame → Option ℕ → Option (Value × Bool) → Outcome Frame
past f None got = past_next f (next_of f.point.operands) got
past f (Some number) got = past_case f number (cases_from (number - 1) (cases_at f.point.work)) got
