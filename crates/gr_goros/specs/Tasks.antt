-- What the code finds of a step, in its own order of look-ups.
use Rattle.std.specs.Prelude.{◌≡◌, ℕ, List, slice_get, Option, Some, None, Result, Ok, Err, if◌then◌else◌}
use Rattle.gr_tree.specs.declared.expr.BinaryOp.{BinaryOp}
use Rattle.gr_base.specs.declared.values.Value.{Value}
use Rattle.gr_base.specs.declared.kinds.Kind.{Kind}
use Rattle.gr_rules.specs.Outcomes.{Outcome, gives, ◌>>=◌}
use Rattle.gr_rules.specs.Operators.{operate}
use Rattle.gr_rules.specs.Operands.{Operands}
use Rattle.gr_rules.specs.Evaluation.{Variables, held, evaluate_all}
use Rattle.gr_rules.specs.Frames.{written}
use Rattle.gr_rules.specs.Deeds.{Prints, Leaves, as_truth, as_channel, only, texts, spaced}
use Rattle.gr_rules.specs.Points.{Piece}
use Rattle.gr_base.specs.declared.names.ChName.{ChName}
use Rattle.gr_code.specs.Instructions.{Action}
use Rattle.gr_code.specs.CodeFrames.{CodeFrame, Steps, Wants, at_number, with_cell, acted}
use Rattle.gr_code.specs.CodeFrames as frames
use Rattle.gr_eval.specs.declared.stop.Stop.{Stop}
use Rattle.gr_eval.specs.Stops.{Stops}
use Rattle.gr_code.specs.Goroutines.{CodeGoroutine}
use Rattle.gr_goros.specs.Undoing.{Undoes, frame_before}
use Rattle.gr_goros.specs.Kinds.{kind_of}
use Rattle.gr_goros.specs.Views.{Seen}
use Rattle.gr_goros.specs.declared.undo.FrameUndo.{FrameUndo}
use Rattle.gr_goros.specs.declared.undo.Former.TheVariants as former
use Rattle.gr_goros.specs.declared.fast.IntChange.{IntChange}
use Rattle.gr_goros.specs.declared.kinds.LocalKind.{LocalKind}
use Rattle.gr_goros.specs.declared.undo.GoUndo.{GoUndo}
use Rattle.gr_goros.specs.declared.tasks.Task.{Task}
use Rattle.gr_goros.specs.declared.tasks.Task.TheVariants as tasks

-- the value of the one operand, and a channel that it is
abbrev pub only_of : Variables → Operands → Outcome Value
only_of cells es = evaluate_all cells es >>= only

abbrev pub channel_of : Variables → Operands → Outcome (Option ChName)
channel_of cells es = only_of cells es >>= as_channel

-- a test
abbrev pub tested : CodeFrame → ℕ → ℕ → Operands → Outcome frames.Task
tested f holds fails es = only_of f.cells es >>= λ v. as_truth v >>= λ b. gives (Steps (at_number f (if b then holds else fails)))

-- the start of a loop over a channel
abbrev pub ranged : CodeFrame → ℕ → ℕ → Operands → Outcome frames.Task
ranged f slot on es = only_of f.cells es >>= λ v. gives (Steps (with_cell f slot v on))

-- an assignment with an operator, and one of a value to a variable
abbrev pub stored : CodeFrame → ℕ → ℕ → Value → Outcome frames.Task
stored f x on v = written (slice_get f.cells x) x v f.cells >>= λ cells. gives (Steps (record f { cells = cells; number = on }))

abbrev pub updated : CodeFrame → ℕ → BinaryOp → ℕ → Operands → Outcome frames.Task
updated f x op on es = only_of f.cells es >>= λ v. held (slice_get f.cells x) >>= λ u. operate op u v >>= stored f x on

-- a line that is printed
abbrev pub printed : CodeFrame → List Piece → Operands → Outcome frames.Task
printed f pieces es = evaluate_all f.cells es >>= λ vs. texts pieces vs >>= λ ts. gives (Wants (Prints (spaced ts)))

-- all other actions
abbrev pub performed : CodeFrame → Action → Operands → Outcome frames.Task
performed f action es = evaluate_all f.cells es >>= acted f action

-- the task is what the frame comes to, and where the frame went on it can go back
abbrev pub TaskIs : Task → Outcome frames.Task → CodeFrame → CodeFrame → Type 0
TaskIs (tasks.Steps u) o old new = (o ≡ gives (Steps new)) × (frame_before u new ≡ old)
TaskIs (tasks.Prints line) o old new = (o ≡ gives (Wants (Prints line.items))) × (new ≡ old)
TaskIs (tasks.Leaves v) o old new = (o ≡ gives (Wants (Leaves v))) × (new ≡ old)

-- the task is what the frame comes to; or there was a fault, or no memory, and the frame is as it was
abbrev pub Does : Result Task Stop → Outcome frames.Task → CodeFrame → CodeFrame → Type 0
Does (Ok t) o old new = TaskIs t o old new
Does (Err s) o old new = Stops s o × (new ≡ old)

-- what a step over whole numbers replaced, as it is kept
abbrev pub kept_of : IntChange → FrameUndo
kept_of c = record { number = c.pc; cells = if c.writes then former.Int c.slot c.former else former.Same }

-- the frame went on and can go back, or it is as it was
abbrev pub ChangesInts : Option IntChange → Outcome frames.Task → CodeFrame → CodeFrame → Type 0
ChangesInts (Some c) o old new = (o ≡ gives (Steps new)) × (frame_before (kept_of c) new ≡ old)
ChangesInts None o old new = new ≡ old

-- the step of a goroutine is of this kind, and its change is undone
pub record IsStep (r : LocalKind × GoUndo) (o : Outcome (Kind × CodeGoroutine)) (old new : Seen) : Type 0 where
  pub is : o ≡ gives (kind_of r.0, new.content)
  pub undone : Undoes r.1 old new
