-- Calls, whose arguments come to stand in the cells of the new frame one by one.
use Rattle.std.specs.Prelude.{◌≡◌, ℕ, Bool, false, List, [], ◌∷◌, slice_set, Option, Some, None}
use Rattle.gr_base.specs.declared.values.Value.{Value}
use Rattle.gr_base.specs.declared.kinds.Kind.{Kind}
use Rattle.gr_base.specs.declared.kinds.Kind.TheVariants.{Call, Fault}
use Rattle.gr_rules.specs.Outcomes.{Outcome, gives, faults, wrong, ◌>>=◌}
use Rattle.gr_rules.specs.Operands.{Operands}
use Rattle.gr_rules.specs.Evaluation.{Variables, evaluate_all}
use Rattle.gr_rules.specs.Frames.{assigned}
use Rattle.gr_rules.specs.Parts.{Calls}
use Rattle.gr_code.specs.Instructions.{Instruction, Part}
use Rattle.gr_code.specs.CodeFrames.{ProgramCode, CodeFrame, entered}
use Rattle.gr_code.specs.Goroutines.{CodeGoroutine, enters, faulted, is_call, with_frames}

-- whether an instruction is a call
abbrev pub is_calling : Instruction → Bool
is_calling (Part ask slot on) = is_call ask
is_calling _ = false

-- it is a call of this function with these operands
abbrev pub CallsWith : Instruction → ℕ → Operands → Type 0
CallsWith i function es = (slot : Option ℕ) × (on : ℕ) × (i ≡ Part (Calls function es) slot on)

-- the cells with a value in the one that a parameter names, if it names one
abbrev pub given : Option (Option ℕ) → Value → Variables → Variables
given (Some (Some k)) v cells = slice_set cells k (Some v)
given (Some None) v cells = cells
given None v cells = cells

-- the cells after parameters have the values of operands in a frame with its own cells
abbrev pub passed : Variables → Operands → List (Option ℕ) → Variables → Outcome Variables
passed own es ts cells = evaluate_all own es >>= λ vs. assigned ts vs cells

-- the frame that a call with these operands makes
abbrev pub called : ProgramCode → ℕ → Variables → Operands → Outcome CodeFrame
called code function own es = evaluate_all own es >>= entered code function

-- a goroutine after a call
abbrev pub with_call : CodeGoroutine → CodeFrame → Outcome (Kind × CodeGoroutine)
with_call g f = gives (Call, with_frames g (f ∷ g.frames))

-- the step that a call is, whose arguments may be a fault
abbrev pub calls_with : ProgramCode → CodeGoroutine → ℕ → List CodeFrame → Outcome (List Value) → Outcome (Kind × CodeGoroutine)
calls_with code g function fs (gives vs) = enters code g function vs fs
calls_with code g function fs (faults e) = gives (Fault e, faulted g)
calls_with code g function fs wrong = wrong

abbrev pub calls : ProgramCode → CodeGoroutine → ℕ → Operands → List CodeFrame → Outcome (Kind × CodeGoroutine)
calls code g function es [] = wrong
calls code g function es (f ∷ below) = calls_with code g function (f ∷ below) (evaluate_all f.cells es)
