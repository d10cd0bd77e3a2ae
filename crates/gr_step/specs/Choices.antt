-- What a goroutine may choose, by what a store contains (Go: Select statements).
use Rattle.std.specs.Prelude.{◌≡◌, ℕ, ◌+◌, ◌≤◌, ◌^◌, true, false, List, [], ◌∷◌, length, map, Option, Some, None, Err, if◌then◌else◌}
use Rattle.gr_base.specs.declared.events.Choice.{Choice}
use Rattle.gr_base.specs.declared.events.Choice.TheVariants.{Pick, Default, Park}
use Rattle.gr_base.specs.declared.events.Event.{Event}
use Rattle.gr_base.specs.declared.kinds.Fault.{Fault}
use Rattle.gr_base.specs.declared.kinds.Kind.TheVariants as kinds
use Rattle.gr_program.specs.Programs.{Program}
use Rattle.gr_rules.specs.Outcomes.{gives}
use Rattle.gr_rules.specs.Deeds.{Communication, Chooses}
use Rattle.gr_rules.specs.Goroutines.{ready}
use Rattle.gr_rules.specs.Selects.{default_from}
use Rattle.gr_rules.specs.Steps.{attempt}
use Rattle.gr_rules.specs.States.{State, live, faulted as run_faulted}
use Rattle.gr_rules.specs.Tells.{may, usual_choice}
use Rattle.gr_rules.specs.Touches.{looked_at, clauses_in}
use Rattle.gr_code.specs.CodeFrames.{Wants}
use Rattle.gr_code.specs.Instructions.{Arm}
use Rattle.gr_code.specs.Goroutines.{CodeGoroutine, faulted, task_of}
use Rattle.gr_refine.specs.Attempting.{is_plain}
use Rattle.gr_refine.specs.CodeSteps.{code_report}
use Rattle.gr_refine.specs.Contents.{Contents, with_goroutine}
use Rattle.gr_refine.specs.Partners.{can_proceed}
use Rattle.gr_refine.specs.Performing.{StepsTo}
use Rattle.gr_goros.specs.Needs.{is_select_in, SelectsIn}
use Rattle.gr_goros.specs.declared.needs.Clause.{Clause}
use Rattle.gr_goros.specs.declared.needs.Clause.TheVariants as clauses
use Rattle.gr_lower.specs.Lowered.{lowered}
use Rattle.gr_record.specs.Listings.{frame_in, state_in}

-- in a program that runs, the goroutine stands ready at a select with these clauses
pub record Selects (p : Program) (s : Contents) (n : List ℕ) (ws : List Communication) : Type 0 where
  pub goroutine : CodeGoroutine
  pub runs : s.run ≡ live
  pub there : s.goroutines n ≡ Some goroutine
  pub is_ready : goroutine.status ≡ ready
  pub task : task_of (lowered p) goroutine ≡ gives (Wants (Chooses ws))

-- in a program that runs, this is the goroutine of the name, ready at a select
pub record IsAtSelect (p : Program) (s : Contents) (n : List ℕ) (g : CodeGoroutine) : Type 0 where
  pub runs : s.run ≡ live
  pub there : s.goroutines n ≡ Some g
  pub is_ready : g.status ≡ ready
  pub select : is_select_in (lowered p) g.frames ≡ true

-- the goroutine stands at a select of more clauses than 32 bits can number
pub record HasManyClauses (p : Program) (s : Contents) (n : List ℕ) : Type 0 where
  pub goroutine : CodeGoroutine
  pub there : s.goroutines n ≡ Some goroutine
  pub arms : List Arm
  pub select : SelectsIn (lowered p) goroutine.frames arms
  pub many : 2 ^ 32 ≤ length arms

-- no choice of a select is a step of the goroutine
abbrev pub HasNoChoice : Program → Contents → List ℕ → Type 0
HasNoChoice p s n = (choice : Choice) → is_plain choice ≡ false → may p (state_in p s) n choice ≡ false

-- the event of a goroutine that makes its usual choice
abbrev pub usual_event : Program → State → List ℕ → Event
usual_event p s go = record { go = go; choice = usual_choice p s go }

-- the event of a goroutine that makes this choice, or where there is none its usual one
abbrev pub event_meant : Program → State → List ℕ → Option Choice → Event
event_meant p s go (Some choice) = record { go = go; choice = choice }
event_meant p s go None = usual_event p s go

-- the numbers of the clauses that can proceed, counted from i on
abbrev pub ready_from : Contents → ℕ → List Communication → List ℕ
ready_from s i [] = []
ready_from s i (w ∷ ws) = if can_proceed s w then i ∷ ready_from s (i + 1) ws else ready_from s (i + 1) ws

-- with no clause that can proceed: the default clause, if there is one, else to wait
abbrev pub choice_without : List Communication → Choice
choice_without ws = elim (default_from 1 ws) [ Some i ↦ Default | None ↦ Park ]

-- the first of the numbers, and this choice where there is none
abbrev pub first_of : List ℕ → Choice → Choice
first_of ns otherwise = elim ns [ n ∷ others ↦ Pick n | [] ↦ otherwise ]

-- the fault of the first value to send that has one
abbrev pub fault_in : List Clause → Option Fault
fault_in [] = None
fault_in (clauses.Send c (Err fault) ∷ cs) = Some fault
fault_in (_ ∷ cs) = fault_in cs

-- the rules have a fault of a value as the step of this goroutine
abbrev pub IsFaultOf : Program → Event → Contents → CodeGoroutine → Fault → Type 0
IsFaultOf p e s g fault =
    StepsTo (frame_in p) (attempt p e) s (record (with_goroutine s e.go (Some (faulted g))) { run = run_faulted fault })
    (code_report g None (kinds.Fault fault))

-- the choice of the event looks at these clauses of the goroutine's select
abbrev pub LooksAt : Program → Event → List Communication → CodeGoroutine → Type 0
LooksAt p e ws g = looked_at e.choice (clauses_in (map (frame_in p) g.frames)) ≡ ws
