-- Type safety: what the parts of the proof promise each other.
use Rattle.std.proofs.Common.{◌≡◌, ℕ, Bool, true, false, List, ◌∷◌, ◌++◌, map, Option, Some, None}
use Rattle.gr_tree.specs.declared.expr.BinaryOp.{BinaryOp}
use Rattle.gr_tree.specs.Exprs.{Tree as Written}
use Rattle.gr_tree.specs.Statements as statements
use Rattle.gr_tree.specs.Files.{FileTree}
use Rattle.gr_base.specs.declared.values.Value.{Value}
use Rattle.gr_base.specs.declared.kinds.Fault.{Fault}
use Rattle.gr_base.specs.declared.names.ChName.{ChName}
use Rattle.gr_base.specs.declared.kinds.Kind.{Kind}
use Rattle.gr_base.specs.declared.events.Event.{Event}
use Rattle.gr_program.specs.Types.{Ty}
use Rattle.gr_program.specs.Programs.{Expr, Act, Declared, Program}
use Rattle.gr_typing.specs.Scopes.{Block, Scope, In, variable_named, type_of_variable, Signature, Sign, signature, numbered, type_of}
use Rattle.gr_typing.specs.Values as checked
use Rattle.gr_typing.specs.Values.{HasType, Fits, IsValue}
use Rattle.gr_typing.specs.Contexts.{Around}
use Rattle.gr_typing.specs.Contexts.{Within}
use Rattle.gr_typing.specs.Acts.{DoesAct}
use Rattle.gr_typing.specs.Endings.{returns}
use Rattle.gr_typing.specs.FileChecks.{ProgramOf}
use Rattle.gr_causal.specs.Sequences as sequences
use Rattle.gr_rules.specs.Outcomes.{Outcome, gives, faults}
use Rattle.gr_rules.specs.Operands.{Operand, Operands, operand_of}
use Rattle.gr_rules.specs.Evaluation.{Variables, evaluate, evaluate_all}
use Rattle.gr_rules.specs.Parts.{Ask, Calls, Receives, Makes, CountsItems, CountsPlaces, Decides, Plain, Asks, next, next_of}
use Rattle.gr_rules.specs.Frames.{Frame, assigned, goes_on}
use Rattle.gr_rules.specs.Goroutines.{Goroutine, ready}
use Rattle.gr_rules.specs.Deeds.{Communication, Communicates, deed, resumed}
use Rattle.gr_rules.specs.States.{State, call_of}
use Rattle.gr_rules.specs.Attempts.{Refusal, unsound, Operation, Attempt}
use Rattle.gr_rules.specs.Actors.{Actor}
use Rattle.gr_rules.specs.Communications.{communicate, all_waits, proceed_or_wait, close, wait}
use Rattle.gr_rules.specs.Selects.{ask_ready}
use Rattle.gr_rules.specs.Steps.{attempt}
use Rattle.gr_laws.specs.Soundness.{Sound, SoundWaits}
use Rattle.gr_laws.proofs.WaitLemmas.{Known}
use Rattle.type_safety.proofs.Sorts.{Sort, IntSort, BoolSort, ChanSort, sort_of, result_sort, Made, nothing_made, More, HasSort, HaveSorts, Yields, Setting, SortedOperand, SortedOperands, Holding, AreTargets, numbers_of}
use Rattle.type_safety.proofs.Bodies.{Nest, SortedAct, after_act, SortedProgram}
use Rattle.type_safety.specs.Standing.{StandsAt}
use Rattle.type_safety.proofs.Running.{SortedFrame, GoesOn, SortedBelow, Asking, SortedGoroutine, SortedState, SortedTransfer, SortedNumbered, IsMade, Comes}
use Rattle.type_safety.proofs.Attempting.{Fine}

-- 1. Evaluation.
pub data YieldAll (made : Made) : Outcome (List Value) → List Sort → Type 0 where
  yield_all : {vs : List Value} {ks : List Sort} → HaveSorts made vs ks → YieldAll made (gives vs) ks
  one_faulty : {e : Fault} {ks : List Sort} → YieldAll made (faults e) ks

-- the next part, and the sort of its value
pub data SortedAsk (d : Setting) (made : Made) (live : List ℕ) : Ask → Sort → Type 0 where
  calls : {n : ℕ} {arguments : Operands} {name : List ℕ} {ts : List Ty} {r : Option Ty}
      → signature d.functions n ≡ Some (Sign name ts r)
      → SortedOperands d made live arguments (map sort_of ts)
      → next_of arguments ≡ Plain
      → SortedAsk d made live (Calls n arguments) (result_sort r)
  receives : {c : Operand} {zero : Value} {k : Sort}
      → SortedOperand d made live c (ChanSort k) → HasSort made zero k → next c ≡ Plain
      → SortedAsk d made live (Receives c zero) k
  makes : {n : Operand} {k : Sort} → SortedOperand d made live n IntSort → next n ≡ Plain
      → SortedAsk d made live (Makes n) (ChanSort k)
  counts_items : {c : Operand} {k : Sort} → SortedOperand d made live c (ChanSort k) → next c ≡ Plain
      → SortedAsk d made live (CountsItems c) IntSort
  counts_places : {c : Operand} {k : Sort} → SortedOperand d made live c (ChanSort k) → next c ≡ Plain
      → SortedAsk d made live (CountsPlaces c) IntSort
  decides : {op : BinaryOp} {left : Operand} → SortedOperand d made live left BoolSort → next left ≡ Plain
      → SortedAsk d made live (Decides op left) BoolSort

-- with its value in its place the operands have their sorts, among more channels too
pub record SortedHole (d : Setting) (made : Made) (live : List ℕ) (ask : Ask) (with : Value → Operands)
    (ks : List Sort) : Type 0 where
  pub sort : Sort
  pub asks : SortedAsk d made live ask sort
  pub fills : (after : Made) (v : Value) → More made after → HasSort after v sort
      → SortedOperands d after live (with v) ks

abbrev pub OperandsMore : Type 0
OperandsMore =
    (d : Setting) (made after : Made) (live : List ℕ) (ts : Operands) (ks : List Sort) → More made after
    → SortedOperands d made live ts ks → SortedOperands d after live ts ks

abbrev pub Evaluates : Type 0
Evaluates = (d : Setting) (made : Made) (live : List ℕ) (held : Variables) (t : Operand) (k : Sort)
    → Holding d.variables made live held → SortedOperand d made live t k → next t ≡ Plain
    → Yields made (evaluate held t) k

abbrev pub EvaluatesAll : Type 0
EvaluatesAll = (d : Setting) (made : Made) (live : List ℕ) (held : Variables) (ts : Operands) (ks : List Sort)
    → Holding d.variables made live held → SortedOperands d made live ts ks → next_of ts ≡ Plain
    → YieldAll made (evaluate_all held ts) ks

abbrev pub AsksSorted : Type 0
AsksSorted =
    (d : Setting) (made : Made) (live : List ℕ) (ts : Operands) (ks : List Sort) (ask : Ask) (with : Value → Operands)
    → SortedOperands d made live ts ks → next_of ts ≡ Asks ask with → SortedHole d made live ask with ks

-- variables that values were given to, those with these numbers holding values
pub data Assigns (ds : List Declared) (made : Made) (live : List ℕ) : Outcome Variables → Type 0 where
  assigns : {held : Variables} → Holding ds made live held → Assigns ds made live (gives held)

abbrev pub AssignedHolding : Type 0
AssignedHolding =
    (ds : List Declared) (made : Made) (live : List ℕ) (held : Variables) (xs : List (Option ℕ)) (vs : List Value)
    (ks : List Sort)
    → AreTargets ds xs ks → HaveSorts made vs ks → Holding ds made live held
    → Assigns ds made (numbers_of xs ++ live) (assigned xs vs held)

-- 2. Frames.
abbrev pub GoroutineMore : Type 0
GoroutineMore =
    (fs : List Signature) (made after : Made) (g : Goroutine) → More made after → SortedGoroutine fs made g
    → SortedGoroutine fs after g

abbrev pub FrameMore : Type 0
FrameMore =
    (fs : List Signature) (made after : Made) (k : Sort) (f : Frame) → More made after → SortedFrame fs made k f
    → SortedFrame fs after k f

abbrev pub BelowMore : Type 0
BelowMore =
    (fs : List Signature) (made after : Made) (n : ℕ) (k : Sort) (gs : List Frame) → More made after
    → SortedBelow fs made n k gs → SortedBelow fs after n k gs

abbrev pub DeedSorted : Type 0
DeedSorted =
    (fs : List Signature) (made : Made) (k : Sort) (f : Frame) → SortedFrame fs made k f → Comes fs made k f (deed f)

abbrev pub ResumedSorted : Type 0
ResumedSorted = (fs : List Signature) (made : Made) (k l : Sort) (g : Frame) (v : Value)
    → Asking fs k g → SortedFrame fs made l g → HasSort made v k → GoesOn fs made l g.function (resumed g v)

abbrev pub CalledSorted : Type 0
CalledSorted =
    (fs : List Signature) (p : Program) (made : Made) (n : ℕ) (name : List ℕ) (ts : List Ty) (r : Option Ty)
    (vs : List Value)
    → SortedProgram fs p → signature fs n ≡ Some (Sign name ts r) → HaveSorts made vs (map sort_of ts)
    → GoesOn fs made (result_sort r) n (call_of p n vs)

-- 3. Rules. A state in which a goroutine that is ready takes a step, at a frame that returns a value of the sort.
pub record Acting (fs : List Signature) (made : Made) (s : State) (a : Actor) (k : Sort) : Type 0 where
  pub sound : Sound s
  pub waits : SoundWaits s
  pub sorted : SortedState fs made s
  pub program : SortedProgram fs a.program
  pub here : s.goroutines a.name ≡ Some a.before
  pub calm : a.before.status ≡ ready
  pub frames : a.before.frames ≡ a.frame ∷ a.below
  pub sorted_frame : SortedFrame fs made k a.frame
  pub below : SortedBelow fs made a.frame.function k a.below

-- whether a communication can proceed, and that it then does
pub record Readiness (P : Refusal → Type 0) (fs : List Signature) (made : Made) (s : State) (a : Actor)
    (clause : Option ℕ) (c : Communication) : Type 0 where
  pub can : Bool
  pub asks : (k : Bool → Attempt) → Fine P fs made s (k can) → Fine P fs made s (ask_ready c k)
  pub proceeds : (other : Attempt) → Known c → can ≡ true → Fine P fs made s (communicate a clause c other)
  pub or_else : (other : Attempt) → Known c → Fine P fs made s other → Fine P fs made s (communicate a clause c other)

abbrev pub ReadinessOf : Type 1
ReadinessOf =
    (P : Refusal → Type 0) (fs : List Signature) (made : Made) (s : State) (a : Actor) (k : Sort) (clause : Option ℕ)
    (c : Communication)
    → Acting fs made s a k → SortedTransfer fs made k a.frame clause c → Readiness P fs made s a clause c

abbrev pub ProceedFine : Type 1
ProceedFine =
    (P : Refusal → Type 0) (fs : List Signature) (made : Made) (s : State) (a : Actor) (k : Sort) (c : Communication)
    → Acting fs made s a k → deed a.frame ≡ gives (Communicates c) → SortedTransfer fs made k a.frame None c
    → Fine P fs made s (proceed_or_wait a c)

abbrev pub WaitFine : Type 1
WaitFine =
    (P : Refusal → Type 0) (fs : List Signature) (made : Made) (s : State) (a : Actor) (k : Sort)
    (operation : Option Operation) (kind : Kind) (ws : List (Option ℕ × Communication))
    → Acting fs made s a k → StandsAt a.frame (all_waits ws)
    → SortedNumbered fs made k a.frame ws
    → Fine P fs made s (wait a operation kind ws)

abbrev pub CloseFine : Type 1
CloseFine =
    (P : Refusal → Type 0) (fs : List Signature) (made : Made) (s : State) (a : Actor) (k : Sort) (c : Option ChName)
    → Acting fs made s a k → IsMade made c → SortedFrame fs made k (goes_on a.frame) → Fine P fs made s (close a c)

-- 4. Steps of a state that a run reaches.
pub record Going (fs : List Signature) (p : Program) (made : Made) (s : State) : Type 0 where
  pub sound : Sound s
  pub waits : SoundWaits s
  pub sorted : SortedState fs made s
  pub program : SortedProgram fs p

abbrev pub AttemptFine : Type 0
AttemptFine = (fs : List Signature) (p : Program) (made : Made) (s : State) (e : Event)
    → Going fs p made s → Fine (λ r. r ≡ unsound → ⊥) fs made s (attempt p e)

-- 5. Checked programs. `Live`: what names stand for holds a value. `Begins`: the variables so far are the first of the
-- function's. `Grows`: a scope, and one with more names in its block and more variables.
abbrev pub Live : Scope → List ℕ → Type 0
Live s live = (x : List ℕ) (k : ℕ) → variable_named s x ≡ Some k → sequences.In k live

abbrev pub Begins : Scope → List Declared → Type 0
Begins s ds = (k : ℕ) (t : Ty) → type_of_variable s k ≡ Some t → type_of (numbered ds k) ≡ Some t

pub data Grows : Scope → Scope → Type 0 where
  grows : {here : Block} {around : List Block} {variables : List Declared} (names : Block) (more : List Declared)
      → Grows (In here around variables) (In (here ++ names) around (variables ++ more))

-- an expression that has a type, that may be given to a place of a type
abbrev pub TypedSorted : Type 0
TypedSorted = (d : Setting) (live : List ℕ) (s : Scope) (e : Written) (v : checked.Value) (t : Ty) (p : Expr)
    → Live s live → Begins s d.variables → IsValue d.functions s e v → HasType v t p
    → SortedOperand d nothing_made live (operand_of p) (sort_of t)

abbrev pub FittingSorted : Type 0
FittingSorted = (d : Setting) (live : List ℕ) (s : Scope) (e : Written) (v : checked.Value) (t : Ty) (p : Expr)
    → Live s live → Begins s d.variables → IsValue d.functions s e v → Fits v t p
    → SortedOperand d nothing_made live (operand_of p) (sort_of t)

-- neither `break` nor `continue`
abbrev pub goes_straight : statements.Act → Bool
goes_straight (statements.Break label) = false
goes_straight (statements.Continue label) = false
goes_straight _ = true

-- an act of a statement that is no `break` and no `continue`, whatever is around it
abbrev pub ActSorted : Type 0
ActSorted =
    (d : Setting) (nests : List Nest) (live : List ℕ) (around : List Around) (s n : Scope) (a : statements.Act)
    (b : Act) (z : Bool)
    → DoesAct (Within d.functions d.result around) s a b n → goes_straight a ≡ true → (z ≡ false → returns a ≡ true)
    → Live s live → Begins n d.variables
    → SortedAct d nests live b z × Grows s n × Live n (after_act b live)

abbrev pub ProgramIsSorted : Type 0
ProgramIsSorted = (file : FileTree) (p : Program) → ProgramOf file p → (fs : List Signature) × SortedProgram fs p
