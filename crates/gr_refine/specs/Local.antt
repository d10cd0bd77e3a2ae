-- The local steps of goroutines of code are steps of the rules.
use Rattle.std.specs.Prelude.{◌≡◌, ℕ, ◌+◌, List, Option, Some, None}
use Rattle.gr_base.specs.declared.kinds.Kind.{Kind}
use Rattle.gr_base.specs.declared.kinds.Kind.TheVariants as kinds
use Rattle.gr_base.specs.declared.events.Choice.TheVariants.{Plain}
use Rattle.gr_base.specs.declared.events.Event.{Event}
use Rattle.gr_program.specs.Programs.{Program}
use Rattle.gr_rules.specs.Outcomes.{Outcome, gives}
use Rattle.gr_rules.specs.Deeds.{Prints}
use Rattle.gr_rules.specs.States.{faulted}
use Rattle.gr_rules.specs.Attempts.{Report}
use Rattle.gr_rules.specs.Steps.{attempt}
use Rattle.gr_code.specs.Code.{Meanings}
use Rattle.gr_code.specs.CodeFrames.{ProgramCode, CodeFrame, Task, Wants}
use Rattle.gr_code.specs.Goroutines.{CodeGoroutine, task_of, local}
use Rattle.gr_code.specs.Programs.{frame_of}
use Rattle.gr_refine.specs.Contents.{Contents, with_goroutine}
use Rattle.gr_refine.specs.Performing.{StepsTo}
use Rattle.gr_refine.specs.Tasks.{Acts}

-- the line that a task prints
abbrev pub printed_by : Outcome Task → Option (List ℕ)
printed_by o = elim o [ gives (Wants (Prints line)) ↦ Some line | _ ↦ None ]

-- what the store contains after a step of this kind that left the goroutine with this content; a fault stops the program
abbrev pub after_local : Contents → List ℕ → Kind → CodeGoroutine → Contents
after_local s n kind g = elim kind [ kinds.Fault e ↦ record (with_goroutine s n (Some g)) { run = faulted e } | _ ↦ with_goroutine s n (Some g) ]

abbrev pub local_report : Kind → CodeGoroutine → Option (List ℕ) → Report
local_report kind g line = record { deed = kind; clause = None; ordinal = g.steps + 1; printed = line; operation = None }

-- a local step of a goroutine that is up
abbrev pub LocalStepIsAStep : (ℕ → Meanings) → Program → ProgramCode → Contents → Event → CodeGoroutine → CodeFrame → List CodeFrame → Type 0
LocalStepIsAStep means p code s e g f below = (after : CodeGoroutine) (kind : Kind)
    → Acts means p code s e g f below → e.choice ≡ Plain → local code g ≡ gives (kind, after)
    → StepsTo (frame_of means code) (attempt p e) s (after_local s e.go kind after) (local_report kind g (printed_by (task_of code g)))
