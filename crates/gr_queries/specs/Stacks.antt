-- A goroutine with its frames, each with the line at which it stands.
use Rattle.std.specs.Prelude.{ℕ, List, map, Option, option_map}
use Rattle.gr_code.specs.CodeFrames.{CodeFrame}
use Rattle.gr_command.specs.Replies.{frame_in, status_in, without_waits}
use Rattle.gr_program.specs.Programs.{Program}
use Rattle.gr_queries.specs.Frames.{code_frame_shown}
use Rattle.gr_queries.specs.declared.stacking.StackShown as answers
use Rattle.gr_queries.specs.declared.stacking.StackFrame as answered
use Rattle.gr_rules.specs.Frames.{Frame}
use Rattle.gr_rules.specs.Goroutines.{Status, Goroutine}
use Rattle.gr_rules.specs.Tells.{FrameShown, frame_shown, function_of}
use Rattle.gr_step.specs.Listings.{frame_in as frame_meant}

-- its name, its status without what it waits for, how many steps it took, and its frames, the innermost first
pub record Stack : Type 0 where
  pub go : List ℕ
  pub status : Status
  pub steps : ℕ
  pub frames : List (FrameShown × ℕ)

-- what is shown of a frame, and the line of the statement at which it stands: of its next step where it is the innermost, and
-- else of its call
abbrev pub stack_frame : Program → Frame → FrameShown × ℕ
stack_frame p f = (frame_shown (function_of p f.function) f, f.point.place.line)

abbrev pub stack_of : Program → List ℕ → Goroutine → Stack
stack_of p go g = record { go = go; status = without_waits g.status; steps = g.steps; frames = map (stack_frame p) g.frames }

-- of the goroutine of a name, if there is one
abbrev pub stack_at : Program → List ℕ → Option Goroutine → Option Stack
stack_at p go g = option_map (stack_of p go) g

-- what the code tells, as the rules tell it
abbrev pub stack_frame_in : answered.StackFrame → FrameShown × ℕ
stack_frame_in f = (frame_in f.shown, f.line)

abbrev pub stack_in : answers.StackShown → Stack
stack_in a = record { go = a.go; status = status_in a.status; steps = a.steps; frames = map stack_frame_in a.frames.items }

-- of a frame of code
abbrev pub code_stack_frame : Program → CodeFrame → FrameShown × ℕ
code_stack_frame p f = (code_frame_shown p f, (frame_meant p f).point.place.line)
