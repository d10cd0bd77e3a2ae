-- Steps of goroutines of code that reach beyond themselves, except communications. Each leads from the task to the step of
-- the machine's attempt.
use Rattle.std.specs.Prelude.{◌≡◌, ℕ, pos, ◌+◌, ◌<◌, true, false, List, [], ◌∷◌, ◌++◌, length, Option, Some, None}
use Rattle.std.specs.List.{list_all}
use Rattle.gr_base.specs.declared.names.ChName.{ChName}
use Rattle.gr_base.specs.declared.values.Value as values
use Rattle.gr_base.specs.declared.values.Value.TheVariants.{Int, Chan}
use Rattle.gr_base.specs.declared.kinds.Kind.{Kind}
use Rattle.gr_base.specs.declared.kinds.Kind.TheVariants as kinds
use Rattle.gr_base.specs.declared.events.Choice.TheVariants.{Plain}
use Rattle.gr_base.specs.declared.events.Event.{Event}
use Rattle.gr_channels.specs.Channels.{Content}
use Rattle.gr_program.specs.Programs.{Program}
use Rattle.gr_rules.specs.Outcomes.{gives, wrong}
use Rattle.gr_rules.specs.Limits.{most_places, most_counts, greatest_count}
use Rattle.gr_rules.specs.Deeds.{Leaves, Starts, Makes, TakesLen, TakesCap, Closes}
use Rattle.gr_rules.specs.States.{ended}
use Rattle.gr_rules.specs.Attempts.{Operation, takes_len_of, takes_cap_of, closes, Report}
use Rattle.gr_rules.specs.Actors.{channels_but}
use Rattle.gr_rules.specs.Steps.{attempt}
use Rattle.gr_code.specs.Code.{Meanings}
use Rattle.gr_code.specs.CodeFrames.{ProgramCode, CodeFrame, Wants, entered}
use Rattle.gr_code.specs.Goroutines.{CodeGoroutine, started, task_of, Value, Channel, Completion, Child, arrived, finished}
use Rattle.gr_code.specs.Programs.{frame_of}
use Rattle.gr_refine.specs.Contents.{Contents, with_goroutine, with_channel}
use Rattle.gr_refine.specs.Partners.{all_made, is_waiting}
use Rattle.gr_refine.specs.Meetings.{all_waits_in, closed_in}
use Rattle.gr_refine.specs.Closing.{waiting_on, shut}
use Rattle.gr_refine.specs.Presence.{Sound}
use Rattle.gr_refine.specs.Performing.{StepsTo}
use Rattle.gr_refine.specs.Making.{made}
use Rattle.gr_refine.specs.Tasks.{Acts}

-- what is noted of a step of a goroutine of code
abbrev pub code_report : CodeGoroutine → Option Operation → Kind → Report
code_report g operation kind = record { deed = kind; clause = None; ordinal = g.steps + 1; printed = None; operation = operation }

-- the channel that it makes next, and the goroutine that it starts next
abbrev pub next_channel : Event → CodeGoroutine → ChName
next_channel e g = record { go = e.go; n = g.channels + 1 }

abbrev pub next_child : Event → CodeGoroutine → List ℕ
next_child e g = e.go ++ (g.children + 1) ∷ []

module _ (means : ℕ → Meanings) (p : Program) (code : ProgramCode) (s : Contents) (e : Event) (g : CodeGoroutine) (f : CodeFrame)
    (below : List CodeFrame) where
  -- a channel is made (Go: Making slices, maps and channels)
  abbrev pub MakeOfCode : Type 0
  MakeOfCode = (n : ℕ) (after : CodeGoroutine) → Acts means p code s e g f below → task_of code g ≡ gives (Wants (Makes (pos n))) → e.choice ≡ Plain
      → n < most_places + 1 → g.channels < greatest_count → s.channels (next_channel e g) ≡ None
      → arrived code (Channel (Chan (Some (next_channel e g)))) g ≡ gives after
      → StepsTo (frame_of means code) (attempt p e) s
      (with_channel (with_goroutine s e.go (Some after)) (next_channel e g) (Some (made n))) (code_report g None kinds.Make)

  abbrev pub MakeCanArrive : Type 0
  MakeCanArrive = (n : ℕ) → Acts means p code s e g f below → task_of code g ≡ gives (Wants (Makes (pos n))) → e.choice ≡ Plain
      → Sound (frame_of means code) s (attempt p e) → n < most_places + 1 → g.channels < greatest_count
      → ¬ (arrived code (Channel (Chan (Some (next_channel e g)))) g ≡ wrong)

  -- a goroutine starts (Go: Go statements)
  abbrev pub GoOfCode : Type 0
  GoOfCode = (function : ℕ) (vs : List values.Value) (first : CodeFrame) (after : CodeGoroutine) → Acts means p code s e g f below
      → task_of code g ≡ gives (Wants (Starts function vs)) → e.choice ≡ Plain
      → length e.go < most_counts → g.children < greatest_count → s.goroutines (next_child e g) ≡ None
      → entered code function vs ≡ gives first → arrived code Child g ≡ gives after
      → StepsTo (frame_of means code) (attempt p e) s
      (with_goroutine (with_goroutine s e.go (Some after)) (next_child e g) (Some (started first))) (code_report g None kinds.Go)

  abbrev pub GoIsNew : Type 0
  GoIsNew = (function : ℕ) (vs : List values.Value) → Acts means p code s e g f below
      → task_of code g ≡ gives (Wants (Starts function vs)) → e.choice ≡ Plain → Sound (frame_of means code) s (attempt p e)
      → length e.go < most_counts → g.children < greatest_count
      → (s.goroutines (next_child e g) ≡ None) × (¬ (entered code function vs ≡ wrong)) × (¬ (arrived code Child g ≡ wrong))

  -- it counts the items and the places of a channel (Go: Length and capacity)
  abbrev pub LenOfCode : Type 0
  LenOfCode = (c : ChName) (x : Content) (after : CodeGoroutine) → Acts means p code s e g f below
      → task_of code g ≡ gives (Wants (TakesLen (Some c))) → e.choice ≡ Plain → s.channels c ≡ Some x
      → arrived code (Value (Int (pos (length x.items)))) g ≡ gives after
      → StepsTo (frame_of means code) (attempt p e) s (with_goroutine s e.go (Some after)) (code_report g (Some (takes_len_of c)) kinds.Length)

  abbrev pub CapOfCode : Type 0
  CapOfCode = (c : ChName) (x : Content) (after : CodeGoroutine) → Acts means p code s e g f below
      → task_of code g ≡ gives (Wants (TakesCap (Some c))) → e.choice ≡ Plain → s.channels c ≡ Some x
      → arrived code (Value (Int (pos x.capacity))) g ≡ gives after
      → StepsTo (frame_of means code) (attempt p e) s (with_goroutine s e.go (Some after)) (code_report g (Some (takes_cap_of c)) kinds.Length)

  -- it closes a channel, on which all that wait are ready again (Go: Close)
  abbrev pub CloseOfCode : Type 0
  CloseOfCode = (c : ChName) (x : Content) (after : CodeGoroutine) → Acts means p code s e g f below
      → task_of code g ≡ gives (Wants (Closes (Some c))) → e.choice ≡ Plain → s.channels c ≡ Some x → x.closed ≡ false
      → list_all (λ n. is_waiting (s.goroutines n)) (waiting_on x) ≡ true → all_made s (channels_but (c ∷ []) (all_waits_in s (waiting_on x))) ≡ true
      → arrived code Completion g ≡ gives after
      → StepsTo (frame_of means code) (attempt p e) s (with_goroutine (closed_in s c (shut x) (waiting_on x)) e.go (Some after))
      (code_report g (Some (closes c)) kinds.Close)

  -- where that is not refused as unsound, they wait, and their channels are there
  abbrev pub CloseFindsWaiters : Type 0
  CloseFindsWaiters = (c : ChName) (x : Content) → Acts means p code s e g f below
      → task_of code g ≡ gives (Wants (Closes (Some c))) → e.choice ≡ Plain → Sound (frame_of means code) s (attempt p e)
      → s.channels c ≡ Some x → x.closed ≡ false
      → (list_all (λ n. is_waiting (s.goroutines n)) (waiting_on x) ≡ true)
      × (all_made s (channels_but (c ∷ []) (all_waits_in s (waiting_on x))) ≡ true) × (¬ (arrived code Completion g ≡ wrong))

  -- out of its outermost frame it is done, and with `main` the program is (Go: Program execution, Go statements)
  abbrev pub FinishOfCode : Type 0
  FinishOfCode = (v : values.Value) (n : ℕ) (ns : List ℕ) → Acts means p code s e g f below → task_of code g ≡ gives (Wants (Leaves v))
      → e.choice ≡ Plain → below ≡ [] → e.go ≡ n ∷ ns
      → StepsTo (frame_of means code) (attempt p e) s (with_goroutine s e.go (Some (finished g))) (code_report g None kinds.Return)

  abbrev pub ExitOfCode : Type 0
  ExitOfCode = (v : values.Value) → Acts means p code s e g f below → task_of code g ≡ gives (Wants (Leaves v)) → e.choice ≡ Plain
      → below ≡ [] → e.go ≡ []
      → StepsTo (frame_of means code) (attempt p e) s (record (with_goroutine s e.go (Some (finished g))) { run = ended }) (code_report g None kinds.Exit)
