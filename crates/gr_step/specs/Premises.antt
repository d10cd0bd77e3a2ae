-- What is asked of a store and of what takes a step.
use Rattle.std.specs.Prelude.{◌≡◌, ◌+◌, ◌<◌, ◌^◌, ℕ, List, ◌∷◌, Some}
use Rattle.gr_base.specs.declared.names.ChName.{ChName}
use Rattle.gr_base.specs.declared.events.Event.{Event}
use Rattle.gr_channels.specs.Channels.{Content, CanEnter}
use Rattle.gr_program.specs.Programs.{Program}
use Rattle.gr_rules.specs.Goroutines.{ready}
use Rattle.gr_rules.specs.States.{live}
use Rattle.gr_rules.specs.Actors.{Actor}
use Rattle.gr_code.specs.CodeFrames.{CodeFrame}
use Rattle.gr_code.specs.Goroutines.{CodeGoroutine}
use Rattle.gr_refine.specs.Contents.{Contents}
use Rattle.gr_refine.specs.Looks.{actor_of}
use Rattle.gr_tables.specs.NamedGoroutines.{name_at}
use Rattle.gr_step.specs.declared.objects.Objects.{Objects}
use Rattle.gr_record.specs.Listings.{frame_in}
use Rattle.gr_step.specs.Objects.{contents_in}
use Rattle.gr_record.specs.Running.{Running}

-- no count of steps, and of values that entered or left a buffer, passes the greatest number of 64 bits in one more step
pub record CanCount (s : Contents) : Type 0 where
  pub steps : (n : List ℕ) (g : CodeGoroutine) → s.goroutines n ≡ Some g → g.steps + 1 < 2 ^ 64
  pub values : (c : ChName) (x : Content) → s.channels c ≡ Some x → CanEnter x

-- the goroutine of an event, which has this number, is ready, in a program that runs
pub record Acting (p : Program) (e : Event) (number : ℕ) (o : Objects) : Type 0 where
  pub running : Running p (contents_in o)
  pub counted : CanCount (contents_in o)
  pub runs : (contents_in o).run ≡ live
  pub named : name_at o.goroutines number ≡ Some e.go
  pub goroutine : CodeGoroutine
  pub there : (contents_in o).goroutines e.go ≡ Some goroutine
  pub is_ready : goroutine.status ≡ ready

-- P holds of the goroutine of an event
abbrev pub OfGoroutine : Event → Contents → (CodeGoroutine → Type 0) → Type 0
OfGoroutine e s P = (g : CodeGoroutine) → s.goroutines e.go ≡ Some g → P g

-- P holds of the goroutine of an event, as the rules see it at its next step
abbrev pub OfActor : Program → Event → Contents → (Actor → Type 0) → Type 0
OfActor p e s P = (g : CodeGoroutine) (f : CodeFrame) (below : List CodeFrame) → s.goroutines e.go ≡ Some g → g.frames ≡ f ∷ below
    → P (actor_of (frame_in p) p e g f below)
