-- The next step of a goroutine of a store, where it is one over whole numbers alone.
use Rattle.std.specs.Prelude.{◌≡◌, ◌+◌, ℕ, true}
use Rattle.gr_rules.specs.Goroutines.{ready}
use Rattle.gr_rules.specs.Outcomes.{wrong}
use Rattle.gr_code.specs.CodeFrames.{ProgramCode}
use Rattle.gr_code.specs.Goroutines.{CodeGoroutine, is_local, local, task_of}
use Rattle.gr_goros.specs.Tasks.{IsStep}
use Rattle.gr_goros.specs.Undoing.{undone}
use Rattle.gr_goros.specs.Views.{Seen}
use Rattle.gr_goros.specs.declared.kinds.LocalKind.TheVariants.{Pure}
use Rattle.gr_goros.specs.declared.undo.GoUndo.{GoUndo}
use Rattle.gr_tables.specs.NamedGoroutines.{IsCounted}

-- it can be tried: where the goroutine is ready, there is a next step
abbrev pub CanTry : ProgramCode → Seen → Type 0
CanTry code g = (g.content.status ≡ ready → ¬ (task_of code g.content ≡ wrong)) × IsCounted g

-- The goroutine was ready, and its step is local and no fault. It has the step's ordinal, and what undoes it.
pub record StepsOn (code : ProgramCode) (r : ℕ × GoUndo) (a b : Seen) : Type 0 where
  pub is : IsStep (Pure, r.1) (local code a.content) a b
  pub ordinal : r.0 ≡ a.content.steps + 1
  pub is_ready : a.content.status ≡ ready
  pub alone : is_local code a.content ≡ true
  pub stays : (g : CodeGoroutine) → (undone r.1 g).status ≡ g.status
