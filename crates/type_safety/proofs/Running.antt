-- The preserved invariant: running programs whose values have sorts, in what remains of a body, in points, frames,
-- goroutines and states.
use Rattle.std.proofs.Common.{◌≡◌, ℕ, ℤ, pos, Bool, true, false, List, [], ◌∷◌, ◌++◌, map, Option, Some, None}
use Rattle.std.specs.List.{AllByRecursion}
use Rattle.gr_scan.specs.declared.token.Place.{Place}
use Rattle.gr_tree.specs.declared.expr.BinaryOp.{BinaryOp}
use Rattle.gr_base.specs.declared.names.ChName.{ChName}
use Rattle.gr_base.specs.declared.values.Value.{Value}
use Rattle.gr_base.specs.declared.values.Value.TheVariants as values
use Rattle.gr_base.specs.declared.kinds.Fault.{Fault}
use Rattle.gr_causal.specs.Sequences.{In}
use Rattle.gr_channels.specs.declared.waiter.Waiter.{Waiter}
use Rattle.gr_channels.specs.Objects.{GateContent}
use Rattle.gr_program.specs.Types.{Ty}
use Rattle.gr_program.specs.Programs.{Stmts, Cases, Declared}
use Rattle.gr_typing.specs.Scopes.{Signature, Sign, signature}
use Rattle.gr_rules.specs.Outcomes.{Outcome, gives, faults}
use Rattle.gr_rules.specs.Operands.{Operand, Done, Receive, Call, Operands, nothing, one, two}
use Rattle.gr_rules.specs.Parts.{Calls, Asks, next_of}
use Rattle.gr_rules.specs.Points.{Rest, closing, following, looping, ranging, chosen, Piece, Work, Assign, AssignReceive, Update, Eval, Close, Print, Send, Go, Return, GoOn, Test, Range, Turn, Select}
use Rattle.gr_rules.specs.Frames.{Frame, goes_on}
use Rattle.gr_rules.specs.Goroutines.{Wait, Status, ready, waiting, finished, Goroutine}
use Rattle.gr_rules.specs.Deeds.{Communication, Sending, Receiving, Otherwise, Deed, Moves, Prints, Enters, Leaves, Starts, Makes, TakesLen, TakesCap, Closes, Communicates, Chooses, deed, resumed, past}
use Rattle.gr_rules.specs.States.{State}
use Rattle.gr_rules.specs.Selects.{numbered}
use Rattle.type_safety.proofs.Sorts.{Sort, IntSort, BoolSort, ChanSort, sort_of, result_sort, sort_at, Made, More, HasSort, HaveSorts, Yields, is_arithmetic, Setting, SortedOperand, SortedOperands, Holding, AreTargets, numbers_of, Sub}
use Rattle.type_safety.proofs.Bodies.{Nest, Loops, Chooses, ArePieces, SortedStmts, SortedClauses}
use Rattle.type_safety.specs.Standing.{StandsAt, AreFresh}

-- What remains of a body, from inside these nests on, where the variables with these numbers hold values. The truth value
-- says whether control may come to it.
pub data SortedRest (d : Setting) (made : Made) : List Nest → List ℕ → Bool → Rest → Type 0 where
  closes : {live : List ℕ} {z : Bool} {place : Place} → (z ≡ true → d.result ≡ None)
      → SortedRest d made [] live z (closing place)
  follows : {nests : List Nest} {live after : List ℕ} {z y : Bool} {ss : Stmts} {rest : Rest} (first : List ℕ)
      → Sub first live
      → (z ≡ true → SortedStmts d nests first ss y)
      → Sub after first
      → SortedRest d made nests after y rest
      → SortedRest d made nests live z (following ss rest)
  loops : {nests : List Nest} {live after : List ℕ} {z y : Bool} {again : Stmts} {rest : Rest} (first : List ℕ)
      → Sub first live
      → SortedStmts d nests first again y
      → Sub after first
      → SortedRest d made nests after y rest
      → SortedRest d made (Loops y ∷ nests) live z (looping again rest)
  ranges : {nests : List Nest} {live after : List ℕ} {z : Bool} {place : Place} {target : Option ℕ} {channel : Value}
      {body : Stmts} {rest : Rest} {k : Sort} (first : List ℕ)
      → Sub first live
      → HasSort made channel (ChanSort k)
      → AreTargets d.variables (target ∷ []) (k ∷ [])
      → SortedStmts d (Loops true ∷ nests) (numbers_of (target ∷ []) ++ first) body true
      → Sub after first
      → SortedRest d made nests after true rest
      → SortedRest d made (Loops true ∷ nests) live z (ranging place target (Done channel) body rest)
  chooses : {nests : List Nest} {live after : List ℕ} {z y : Bool} {clause : ℕ} {rest : Rest}
      → (z ≡ true → y ≡ true)
      → Sub after live
      → SortedRest d made nests after y rest
      → SortedRest d made (Chooses y ∷ nests) live z (chosen clause rest)

-- a call or a receive
abbrev pub stands_alone : Operand → Bool
stands_alone (Receive c zero) = true
stands_alone (Call n arguments) = true
stands_alone _ = false

-- a statement with its operands, and what remains after it
pub data SortedWork (d : Setting) (made : Made) (live : List ℕ) : Work → Operands → Rest → Type 0 where
  assigns : {nests : List Nest} {xs : List (Option ℕ)} {operands : Operands} {rest : Rest} {ks : List Sort}
      → AreTargets d.variables xs ks
      → SortedOperands d made live operands ks
      → SortedRest d made nests (numbers_of xs ++ live) true rest
      → SortedWork d made live (Assign xs) operands rest
  assigns_receive : {nests : List Nest} {x y : Option ℕ} {zero : Value} {c : Operand} {rest : Rest} {k : Sort}
      → SortedOperand d made live c (ChanSort k)
      → HasSort made zero k
      → AreTargets d.variables (x ∷ y ∷ []) (k ∷ BoolSort ∷ [])
      → SortedRest d made nests (numbers_of (x ∷ y ∷ []) ++ live) true rest
      → SortedWork d made live (AssignReceive x y zero) (one c) rest
  updates : {nests : List Nest} {x : ℕ} {op : BinaryOp} {e : Operand} {rest : Rest}
      → sort_at d.variables x ≡ Some IntSort → In x live → is_arithmetic op ≡ true
      → SortedOperand d made live e IntSort
      → SortedRest d made nests live true rest
      → SortedWork d made live (Update x op) (one e) rest
  evaluates : {nests : List Nest} {e : Operand} {rest : Rest} {k : Sort}
      → stands_alone e ≡ true
      → SortedOperand d made live e k
      → SortedRest d made nests live true rest
      → SortedWork d made live Eval (one e) rest
  closes : {nests : List Nest} {c : Operand} {rest : Rest} {k : Sort}
      → SortedOperand d made live c (ChanSort k)
      → SortedRest d made nests live true rest
      → SortedWork d made live Close (one c) rest
  prints : {nests : List Nest} {pieces : List Piece} {operands : Operands} {rest : Rest} {ks : List Sort}
      → ArePieces pieces ks
      → SortedOperands d made live operands ks
      → SortedRest d made nests live true rest
      → SortedWork d made live (Print pieces) operands rest
  sends : {nests : List Nest} {c e : Operand} {rest : Rest} {k : Sort}
      → SortedOperand d made live c (ChanSort k)
      → SortedOperand d made live e k
      → SortedRest d made nests live true rest
      → SortedWork d made live Send (two c e) rest
  goes : {nests : List Nest} {n : ℕ} {operands : Operands} {rest : Rest} {name : List ℕ} {ts : List Ty}
      {r : Option Ty}
      → signature d.functions n ≡ Some (Sign name ts r)
      → SortedOperands d made live operands (map sort_of ts)
      → SortedRest d made nests live true rest
      → SortedWork d made live (Go n) operands rest
  returns : {rest : Rest} → d.result ≡ None → SortedWork d made live Return nothing rest
  returns_value : {e : Operand} {rest : Rest} {t : Ty}
      → d.result ≡ Some t → SortedOperand d made live e (sort_of t) → SortedWork d made live Return (one e) rest
  continues : {nests : List Nest} {rest : Rest} → SortedRest d made nests live true rest
      → SortedWork d made live GoOn nothing rest
  -- the condition of a for that has none
  holds : {nests : List Nest} {on rest : Rest}
      → SortedRest d made nests live true on → SortedWork d made live (Test on) (one (Done (values.Bool true))) rest
  tests : {nests others : List Nest} {e : Operand} {on rest : Rest}
      → SortedOperand d made live e BoolSort
      → SortedRest d made nests live true on
      → SortedRest d made others live true rest
      → SortedWork d made live (Test on) (one e) rest
  ranges : {nests : List Nest} {target : Option ℕ} {body : Stmts} {e : Operand} {rest : Rest} {k : Sort}
      → SortedOperand d made live e (ChanSort k)
      → AreTargets d.variables (target ∷ []) (k ∷ [])
      → SortedStmts d (Loops true ∷ nests) (numbers_of (target ∷ []) ++ live) body true
      → SortedRest d made nests live true rest
      → SortedWork d made live (Range target body) (one e) rest
  turns : {nests : List Nest} {target : Option ℕ} {body : Stmts} {channel : Value} {rest : Rest} {k : Sort}
      → HasSort made channel (ChanSort k)
      → AreTargets d.variables (target ∷ []) (k ∷ [])
      → SortedStmts d (Loops true ∷ nests) (numbers_of (target ∷ []) ++ live) body true
      → SortedRest d made nests live true rest
      → SortedWork d made live (Turn target body) (one (Done channel)) rest
  selects : {nests : List Nest} {cases : Cases} {operands : Operands} {rest : Rest} {z : Bool}
      → SortedClauses d made (Chooses z ∷ nests) live z cases operands
      → SortedRest d made nests live z rest
      → SortedWork d made live (Select cases) operands rest

-- a frame that returns a value of the sort
pub record SortedFrame (fs : List Signature) (made : Made) (result : Sort) (f : Frame) : Type 0 where
  pub variables : List Declared
  pub type : Option Ty
  pub live : List ℕ
  pub returns : result_sort type ≡ result
  pub holding : Holding variables made live f.variables
  pub work : SortedWork (record { functions = fs; variables = variables; result = type }) made live f.point.work f.point.operands f.point.rest

-- what something comes to is a frame of the function with this number that returns a value of the sort
pub data GoesOn (fs : List Signature) (made : Made) (result : Sort) (function : ℕ) : Outcome Frame → Type 0 where
  on_as : {on : Frame} → on.function ≡ function → SortedFrame fs made result on
      → GoesOn fs made result function (gives on)

-- the frame stands at a call, which leaves a value of the sort
pub record Asking (fs : List Signature) (result : Sort) (f : Frame) : Type 0 where
  pub number : ℕ
  pub arguments : Operands
  pub with : Value → Operands
  pub name : List ℕ
  pub parameters : List Ty
  pub type : Option Ty
  pub asks : next_of f.point.operands ≡ Asks (Calls number arguments) with
  pub signed : signature fs number ≡ Some (Sign name parameters type)
  pub leaves : result_sort type ≡ result

-- the frames below one of the function with this number that returns a value of the sort
pub data SortedBelow (fs : List Signature) (made : Made) : ℕ → Sort → List Frame → Type 0 where
  outermost : {n : ℕ} {k : Sort} → SortedBelow fs made n k []
  caller : {n : ℕ} {k l : Sort} {g : Frame} {gs : List Frame} {vs : List Value}
      → deed g ≡ gives (Enters n vs) → Asking fs k g → SortedFrame fs made l g → SortedBelow fs made g.function l gs
      → SortedBelow fs made n k (g ∷ gs)

pub data SortedFrames (fs : List Signature) (made : Made) : Status → List Frame → Type 0 where
  is_ready : {k : Sort} {f : Frame} {gs : List Frame}
      → SortedFrame fs made k f → SortedBelow fs made f.function k gs → SortedFrames fs made ready (f ∷ gs)
  waits : {k : Sort} {f : Frame} {gs : List Frame} {ws : List Wait}
      → SortedFrame fs made k f → SortedBelow fs made f.function k gs → StandsAt f ws
      → SortedFrames fs made (waiting ws) (f ∷ gs)
  is_finished : SortedFrames fs made finished []

abbrev pub SortedGoroutine : List Signature → Made → Goroutine → Type 0
SortedGoroutine fs made g = SortedFrames fs made g.status g.frames

pub record SortedState (fs : List Signature) (made : Made) (s : State) : Type 0 where
  pub goroutines : (n : List ℕ) (g : Goroutine) → s.goroutines n ≡ Some g → SortedGoroutine fs made g
  -- just the channels that were made have gates
  pub gates : (c : ChName) (k : Sort) → made c ≡ Some k → (gate : GateContent) × (s.gates c ≡ Some gate)
  pub channels : (c : ChName) (gate : GateContent) → s.gates c ≡ Some gate → (k : Sort) × (made c ≡ Some k)
  pub senders : (c : ChName) (gate : GateContent) (k : Sort) (w : Waiter Value)
      → s.gates c ≡ Some gate → made c ≡ Some k → In w gate.senders → HasSort made w.value k
  pub items : (c : ChName) (i n : ℕ) (v : Value) (k : Sort) → s.slots c i ≡ Some (n, v) → made c ≡ Some k
      → HasSort made v k
  pub fresh : AreFresh s

-- a send or a receive of a frame, or of the clause of its select with this number; past it the frame keeps its sorts
pub data SortedTransfer (fs : List Signature) (made : Made) (k : Sort) (f : Frame)
    (clause : Option ℕ) : Communication → Type 0 where
  sends_nil : {v : Outcome Value} {e : Sort} → Yields made v e → SortedTransfer fs made k f clause (Sending None v)
  sends : {c : ChName} {v : Outcome Value} {e : Sort}
      → made c ≡ Some e → Yields made v e → GoesOn fs made k f.function (past f clause None)
      → SortedTransfer fs made k f clause (Sending (Some c) v)
  receives_nil : {zero : Value} → SortedTransfer fs made k f clause (Receiving None zero)
  receives : {c : ChName} {zero : Value} {e : Sort}
      → made c ≡ Some e
      → GoesOn fs made k f.function (past f clause (Some (zero, false)))
      → ((v : Value) → HasSort made v e → GoesOn fs made k f.function (past f clause (Some (v, true))))
      → SortedTransfer fs made k f clause (Receiving (Some c) zero)

pub data SortedClause (fs : List Signature) (made : Made) (k : Sort) (f : Frame) (clause : Option ℕ) : Communication
    → Type 0 where
  transfers : {c : Communication} → SortedTransfer fs made k f clause c → SortedClause fs made k f clause c
  otherwise : GoesOn fs made k f.function (past f clause None) → SortedClause fs made k f clause Otherwise

-- clauses with their numbers
abbrev pub SortedNumbered : List Signature → Made → Sort → Frame → List (Option ℕ × Communication) → Type 0
SortedNumbered fs made k f ws = AllByRecursion (λ (w : Option ℕ × Communication). SortedClause fs made k f w.0 w.1) ws

-- a channel that was made, or nil
abbrev pub IsMade : Made → Option ChName → Type 0
IsMade made None = Unit {0}
IsMade made (Some c) = (e : Sort) × (made c ≡ Some e)

-- what a frame that returns a value of the sort k comes to
pub data SortedDeed (fs : List Signature) (made : Made) (k : Sort) (f : Frame) : Deed → Type 0 where
  moves : {on : Frame} → on.function ≡ f.function → SortedFrame fs made k on → SortedDeed fs made k f (Moves on)
  prints : {line : List ℕ} → SortedFrame fs made k (goes_on f) → SortedDeed fs made k f (Prints line)
  enters : {n : ℕ} {vs : List Value} {name : List ℕ} {ts : List Ty} {r : Option Ty}
      → signature fs n ≡ Some (Sign name ts r)
      → HaveSorts made vs (map sort_of ts)
      → Asking fs (result_sort r) f
      → SortedDeed fs made k f (Enters n vs)
  leaves : {v : Value} → HasSort made v k → SortedDeed fs made k f (Leaves v)
  starts : {n : ℕ} {vs : List Value} {name : List ℕ} {ts : List Ty} {r : Option Ty}
      → signature fs n ≡ Some (Sign name ts r)
      → HaveSorts made vs (map sort_of ts)
      → SortedFrame fs made k (goes_on f)
      → SortedDeed fs made k f (Starts n vs)
  makes : {n : ℤ} {e : Sort}
      → ((after : Made) (c : ChName) → More made after → after c ≡ Some e
      → GoesOn fs after k f.function (resumed f (values.Chan (Some c))))
      → SortedDeed fs made k f (Makes n)
  takes_len : {c : Option ChName}
      → IsMade made c → ((n : ℕ) → GoesOn fs made k f.function (resumed f (values.Int (pos n))))
      → SortedDeed fs made k f (TakesLen c)
  takes_cap : {c : Option ChName}
      → IsMade made c → ((n : ℕ) → GoesOn fs made k f.function (resumed f (values.Int (pos n))))
      → SortedDeed fs made k f (TakesCap c)
  closes : {c : Option ChName} → IsMade made c → SortedFrame fs made k (goes_on f) → SortedDeed fs made k f (Closes c)
  communicates : {c : Communication} → SortedTransfer fs made k f None c → SortedDeed fs made k f (Communicates c)
  chooses : {cs : List Communication} → SortedNumbered fs made k f (numbered 1 cs)
      → SortedDeed fs made k f (Chooses cs)

-- a deed of such a frame, or a fault
pub data Comes (fs : List Signature) (made : Made) (k : Sort) (f : Frame) : Outcome Deed → Type 0 where
  to : {d : Deed} → SortedDeed fs made k f d → Comes fs made k f (gives d)
  to_fault : {e : Fault} → Comes fs made k f (faults e)
