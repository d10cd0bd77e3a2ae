-- Faults of goroutines of code that the rules find beyond the goroutine, and counts of nil. Each leads from the task to the
-- step.
use Rattle.std.specs.Prelude.{◌≡◌, ℕ, pos, negsuc, ◌+◌, ◌<◌, ◌≤◌, true, List, length, Option, Some, None}
use Rattle.gr_base.specs.declared.names.ChName.{ChName}
use Rattle.gr_base.specs.declared.values.Value as values
use Rattle.gr_base.specs.declared.values.Value.TheVariants.{Int}
use Rattle.gr_base.specs.declared.kinds.Fault.{Fault}
use Rattle.gr_base.specs.declared.kinds.Fault.TheVariants.{BadSize, NameDepth, NameCount, CloseOfNil, CloseOfClosed}
use Rattle.gr_base.specs.declared.kinds.Kind.TheVariants as kinds
use Rattle.gr_base.specs.declared.events.Choice.TheVariants.{Plain}
use Rattle.gr_base.specs.declared.events.Event.{Event}
use Rattle.gr_channels.specs.Channels.{Content}
use Rattle.gr_program.specs.Programs.{Program}
use Rattle.gr_rules.specs.Outcomes.{gives, wrong}
use Rattle.gr_rules.specs.Limits.{most_places, most_counts, greatest_count}
use Rattle.gr_rules.specs.Deeds.{Starts, Makes, TakesLen, TakesCap, Closes}
use Rattle.gr_rules.specs.States.{faulted as run_faulted}
use Rattle.gr_rules.specs.Attempts.{Operation, closes}
use Rattle.gr_rules.specs.Steps.{attempt}
use Rattle.gr_code.specs.Code.{Meanings}
use Rattle.gr_code.specs.CodeFrames.{ProgramCode, CodeFrame, Wants}
use Rattle.gr_code.specs.Goroutines.{CodeGoroutine, task_of, faulted, Value, arrived}
use Rattle.gr_code.specs.Programs.{frame_of}
use Rattle.gr_refine.specs.Contents.{Contents, with_goroutine}
use Rattle.gr_refine.specs.Presence.{Sound}
use Rattle.gr_refine.specs.Performing.{StepsTo}
use Rattle.gr_refine.specs.Tasks.{Acts}
use Rattle.gr_refine.specs.CodeSteps.{code_report}

module _ (means : ℕ → Meanings) (p : Program) (code : ProgramCode) (s : Contents) (e : Event) (g : CodeGoroutine) (f : CodeFrame)
    (below : List CodeFrame) where
  -- its next step is this fault, which stops the program (Go: Run-time panics)
  abbrev pub FaultsAt : Option Operation → Fault → Type 0
  FaultsAt operation fault = StepsTo (frame_of means code) (attempt p e) s
      (record (with_goroutine s e.go (Some (faulted g))) { run = run_faulted fault }) (code_report g operation (kinds.Fault fault))

  -- a size that is negative or too great, and one channel too many (Go: Making slices, maps and channels)
  abbrev pub MakeOfNegative : Type 0
  MakeOfNegative = (n : ℕ) → Acts means p code s e g f below → task_of code g ≡ gives (Wants (Makes (negsuc n))) → e.choice ≡ Plain
      → FaultsAt None BadSize

  abbrev pub MakeOfGreat : Type 0
  MakeOfGreat = (n : ℕ) → Acts means p code s e g f below → task_of code g ≡ gives (Wants (Makes (pos n))) → e.choice ≡ Plain
      → most_places + 1 ≤ n → FaultsAt None BadSize

  abbrev pub MakeOfTooMany : Type 0
  MakeOfTooMany = (n : ℕ) → Acts means p code s e g f below → task_of code g ≡ gives (Wants (Makes (pos n))) → e.choice ≡ Plain
      → n < most_places + 1 → greatest_count ≤ g.channels → FaultsAt None NameCount

  -- a name that is too long, and one goroutine too many (Go: Go statements)
  abbrev pub GoTooDeep : Type 0
  GoTooDeep = (function : ℕ) (vs : List values.Value) → Acts means p code s e g f below → task_of code g ≡ gives (Wants (Starts function vs))
      → e.choice ≡ Plain → most_counts ≤ length e.go → FaultsAt None NameDepth

  abbrev pub GoTooMany : Type 0
  GoTooMany = (function : ℕ) (vs : List values.Value) → Acts means p code s e g f below → task_of code g ≡ gives (Wants (Starts function vs))
      → e.choice ≡ Plain → length e.go < most_counts → greatest_count ≤ g.children → FaultsAt None NameCount

  -- a channel that is nil or closed may not be closed (Go: Close)
  abbrev pub CloseNil : Type 0
  CloseNil = Acts means p code s e g f below → task_of code g ≡ gives (Wants (Closes None)) → e.choice ≡ Plain → FaultsAt None CloseOfNil

  abbrev pub CloseTwice : Type 0
  CloseTwice = (c : ChName) (x : Content) → Acts means p code s e g f below → task_of code g ≡ gives (Wants (Closes (Some c))) → e.choice ≡ Plain
      → s.channels c ≡ Some x → x.closed ≡ true → FaultsAt (Some (closes c)) CloseOfClosed

  -- nil has no item and no place (Go: Length and capacity)
  abbrev pub LenOfNil : Type 0
  LenOfNil = (after : CodeGoroutine) → Acts means p code s e g f below → task_of code g ≡ gives (Wants (TakesLen None)) → e.choice ≡ Plain
      → arrived code (Value (Int (pos 0))) g ≡ gives after
      → StepsTo (frame_of means code) (attempt p e) s (with_goroutine s e.go (Some after)) (code_report g None kinds.Length)

  abbrev pub CapOfNil : Type 0
  CapOfNil = (after : CodeGoroutine) → Acts means p code s e g f below → task_of code g ≡ gives (Wants (TakesCap None)) → e.choice ≡ Plain
      → arrived code (Value (Int (pos 0))) g ≡ gives after
      → StepsTo (frame_of means code) (attempt p e) s (with_goroutine s e.go (Some after)) (code_report g None kinds.Length)

  -- where the count of a channel is not refused as unsound, the channel is there, and code goes on with the count
  abbrev pub LenCanArrive : Type 0
  LenCanArrive = (c : ChName) → Acts means p code s e g f below → task_of code g ≡ gives (Wants (TakesLen (Some c))) → e.choice ≡ Plain
      → Sound (frame_of means code) s (attempt p e)
      → (x : Content) × (s.channels c ≡ Some x) × (¬ (arrived code (Value (Int (pos (length x.items)))) g ≡ wrong))

  abbrev pub CapCanArrive : Type 0
  CapCanArrive = (c : ChName) → Acts means p code s e g f below → task_of code g ≡ gives (Wants (TakesCap (Some c))) → e.choice ≡ Plain
      → Sound (frame_of means code) s (attempt p e)
      → (x : Content) × (s.channels c ≡ Some x) × (¬ (arrived code (Value (Int (pos x.capacity))) g ≡ wrong))
