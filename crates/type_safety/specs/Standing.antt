-- How goroutines stand in a state: at which statements and calls, and under which names.
use Rattle.std.specs.Prelude.{◌≡◌, ◌<◌, ℕ, List, [], ◌∷◌, ◌++◌, Option, Some, None}
use Rattle.gr_base.specs.declared.values.Value.{Value}
use Rattle.gr_program.specs.Programs.{Cases, default_case, send_case, receive_case}
use Rattle.gr_rules.specs.Outcomes.{gives, wrong}
use Rattle.gr_rules.specs.Operands.{Operands, also}
use Rattle.gr_rules.specs.Evaluation.{Variables, evaluate}
use Rattle.gr_rules.specs.Parts.{Plain, next_of}
use Rattle.gr_rules.specs.Points.{Work, Select}
use Rattle.gr_rules.specs.Frames.{Frame}
use Rattle.gr_rules.specs.Deeds.{Communication, Enters, Communicates, Chooses, deed, resumed}
use Rattle.gr_rules.specs.Goroutines.{Wait, Status, ready, waiting, finished, Goroutine}
use Rattle.gr_rules.specs.States.{State}
use Rattle.gr_rules.specs.Communications.{waits_for, all_waits}
use Rattle.gr_rules.specs.Selects.{numbered}

-- A frame stands at the operations for which it waits: at a send or a receive, or at a select with all its clauses (Go: Send
-- statements, Receive operator, Select statements).
pub data StandsAt (f : Frame) : List Wait → Type 0 where
  at_operation : {c : Communication} → deed f ≡ gives (Communicates c) → StandsAt f (waits_for None c)
  at_select : {cs : List Communication} → deed f ≡ gives (Chooses cs) → StandsAt f (all_waits (numbered 1 cs))

-- a frame stands at a call of the function with a number, and goes on with whatever its result is (Go: Calls)
pub record Awaits (function : ℕ) (f : Frame) : Type 0 where
  pub arguments : List Value
  pub calls : deed f ≡ gives (Enters function arguments)
  pub goes_on : (result : Value) → (on : Frame) × (resumed f result ≡ gives on)

-- the frames below one of this function: each awaits the result of the one above it
pub data AllAwait : (function : ℕ) → List Frame → Type 0 where
  outermost : {function : ℕ} → AllAwait function []
  caller : {function : ℕ} {f : Frame} {below : List Frame}
      → Awaits function f → AllAwait f.function below → AllAwait function (f ∷ below)

-- the frames of a goroutine by its status; the innermost meets no value of a wrong kind
pub data StandsAs : Status → List Frame → Type 0 where
  is_ready : {f : Frame} {below : List Frame} → ¬ (deed f ≡ wrong) → AllAwait f.function below → StandsAs ready (f ∷ below)
  waits : {f : Frame} {below : List Frame} {ws : List Wait}
      → ¬ (deed f ≡ wrong) → StandsAt f ws → AllAwait f.function below → StandsAs (waiting ws) (f ∷ below)
  is_finished : StandsAs finished []

-- The values that the clauses of a select send, with the operands of its cases. Each comes to a value, or to a fault (Go:
-- Select statements).
abbrev pub ClausesSend : Variables → Cases → Operands → Type 0
ClausesSend held (default_case body others) operands = ClausesSend held others operands
ClausesSend held (send_case channel value body others) (also c (also e operands)) = (¬ (evaluate held e ≡ wrong)) × ClausesSend held others operands
ClausesSend held (receive_case targets channel initial body others) (also c operands) = ClausesSend held others operands
ClausesSend held _ _ = Unit {0}

-- the values that a statement sends, where it is a select: each comes to a value, or to a fault
abbrev pub WorkSends : Variables → Work → Operands → Type 0
WorkSends held work operands = elim work [ Select cases ↦ ClausesSend held cases operands | _ ↦ Unit {0} ]

-- the values that the select at which a frame stands sends, once no part of it is left
abbrev pub FrameSends : Frame → Type 0
FrameSends f = next_of f.point.operands ≡ Plain → WorkSends f.variables f.point.work f.point.operands

-- how many goroutines it started
abbrev pub children_of : Option Goroutine → ℕ
children_of None = 0
children_of (Some g) = g.children

-- no goroutine has a name that extends another's name by a count beyond how many that one started (Go: Go statements)
abbrev pub AreFresh : State → Type 0
AreFresh s = (name : List ℕ) (count : ℕ) (rest : List ℕ)
    → children_of (s.goroutines name) < count → s.goroutines (name ++ count ∷ rest) ≡ None
