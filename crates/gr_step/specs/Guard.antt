-- Goroutines that are there in a program that runs, and those that can take a step.
use Rattle.std.specs.Prelude.{◌≡◌, ℕ, true, is_some, List, Some}
use Rattle.gr_base.specs.declared.events.Choice.{Choice}
use Rattle.gr_program.specs.Programs.{Program}
use Rattle.gr_rules.specs.Goroutines.{ready}
use Rattle.gr_rules.specs.States.{live}
use Rattle.gr_code.specs.Goroutines.{CodeGoroutine}
use Rattle.gr_goros.specs.Needs.{NeedIs}
use Rattle.gr_goros.specs.declared.needs.Need.{Need}
use Rattle.gr_lower.specs.Lowered.{lowered}
use Rattle.gr_refine.specs.Contents.{Contents}
use Rattle.gr_tables.specs.NamedGoroutines.{name_at, seen_of}
use Rattle.gr_step.specs.declared.objects.Objects.{Objects}
use Rattle.gr_step.specs.declared.refusal.StepRefused.{StepRefused}
use Rattle.gr_step.specs.Objects.{contents_in}
use Rattle.gr_step.specs.Refusals.{SaysWhy}

-- a goroutine that is there, while the program runs
pub record IsThere (s : Contents) (go : List ℕ) : Type 0 where
  pub runs : s.run ≡ live
  pub goroutine : CodeGoroutine
  pub there : s.goroutines go ≡ Some goroutine

-- a goroutine that is ready, while the program runs
pub record IsUp (s : Contents) (go : List ℕ) : Type 0 where
  pub runs : s.run ≡ live
  pub goroutine : CodeGoroutine
  pub there : s.goroutines go ≡ Some goroutine
  pub is_ready : goroutine.status ≡ ready

-- this is what it contains
pub record HasReady (s : Contents) (go : List ℕ) (g : CodeGoroutine) : Type 0 where
  pub runs : s.run ≡ live
  pub there : s.goroutines go ≡ Some g
  pub is_ready : g.status ≡ ready

-- a goroutine is ready, while the program runs, and its next step asks for this
pub record Needs (p : Program) (s : Contents) (go : List ℕ) (need : Need) : Type 0 where
  pub goroutine : CodeGoroutine
  pub has : HasReady s go goroutine
  pub asks : NeedIs need (lowered p) goroutine

-- some such goroutine contains this
abbrev pub IsSomeReady : Contents → CodeGoroutine → Type 0
IsSomeReady s g = (go : List ℕ) × HasReady s go g

-- in a program that runs, the goroutine is there, and this is its number
pub record IsNumberOf (go : List ℕ) (o : Objects) (number : ℕ) : Type 0 where
  pub runs : (contents_in o).run ≡ live
  pub named : name_at o.goroutines number ≡ Some go
  pub present : true ≡ is_some (seen_of o.goroutines go)

-- in a program that runs, the goroutine is ready; this is its number, and what it contains
pub record IsReady (go : List ℕ) (o : Objects) (number : ℕ) (g : CodeGoroutine) : Type 0 where
  pub named : name_at o.goroutines number ≡ Some go
  pub has : HasReady (contents_in o) go g

-- why each step of the goroutine is refused, whatever the program and the choice
abbrev pub IsRefusedFor : List ℕ → Objects → StepRefused → Type 0
IsRefusedFor go o why = (p : Program) (choice : Choice) → SaysWhy p (contents_in o) (record { go = go; choice = choice }) why
