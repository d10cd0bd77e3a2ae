-- What is known of an event that waits.
use Rattle.std.proofs.Common.{◌≡◌, List, [], ◌∷◌, Option, Some, None, refl}
use Rattle.gr_base.specs.declared.values.Value.{Value}
use Rattle.gr_base.specs.declared.events.Choice.TheVariants as choices
use Rattle.gr_base.specs.declared.events.Event.{Event}
use Rattle.gr_program.specs.Programs.{Program}
use Rattle.gr_rules.specs.Outcomes.{gives}
use Rattle.gr_rules.specs.Frames.{Frame}
use Rattle.gr_rules.specs.Deeds.{Communication, Communicates, Chooses, deed}
use Rattle.gr_rules.specs.Goroutines.{Status, ready, waiting, finished, Goroutine}
use Rattle.gr_rules.specs.States.{Run, live, ended, faulted, State}
use Rattle.gr_rules.specs.Attempts.{ask_go}
use Rattle.gr_rules.specs.Selects.{values_of, default_from, numbered}
use Rattle.gr_rules.specs.Steps.{act_in, if_ready, if_known, if_live, attempt}
use Rattle.gr_late.proofs.SideAttempts.{Idle, AllIdle, Told, Sides, by_sides}

-- where the goroutine of an event stands: it is ready, with this frame innermost
pub record Stands (s : State) (e : Event) : Type 0 where
  pub runs : s.run ≡ live
  pub goroutine : Goroutine
  pub here : s.goroutines e.go ≡ Some goroutine
  pub up : goroutine.status ≡ ready
  pub frame : Frame
  pub below : List Frame
  pub frames : goroutine.frames ≡ frame ∷ below

-- how it comes to wait: in a send or receive, or in a select
pub data Waited (s : State) (e : Event) (f : Frame) : Type 0 where
  in_one : (x : Communication) → e.choice ≡ choices.Plain → deed f ≡ gives (Communicates x) → Told x → Idle s x → Waited s e f
  in_many : (cs : List Communication) (vs : List Value) → e.choice ≡ choices.Park → deed f ≡ gives (Chooses cs) → default_from 1 cs ≡ None → values_of cs ≡ gives vs → AllIdle s (numbered 1 cs) → Waited s e f

pub record WaitedAt (s : State) (e : Event) : Type 0 where
  pub stands : Stands s e
  pub waited : Waited s e stands.frame

pub attempt_sides : (p : Program) (s : State) (e : Event) → Sides s e.go (WaitedAt s e) (attempt p e)
attempt_sides p s e = by_run s.run refl
  where
    by_frames : s.run ≡ live → (g : Goroutine) → s.goroutines e.go ≡ Some g → g.status ≡ ready → (fs : List Frame) → g.frames ≡ fs → Sides s e.go (WaitedAt s e) (act_in p e g fs)
    by_frames l g here up [] q = tt
    by_frames l g here up (f ∷ fs) q =
        let stands : Stands s e = record { runs = l; goroutine = g; here = here; up = up; frame = f; below = fs; frames = q } in
        (by_sides s e.go (WaitedAt s e) (record { program = p; name = e.go; before = g; frame = f; below = fs }) refl up e.choice (deed f) (record {
          one = λ x c d t i. record { stands = stands; waited = in_one x c d t i };
          many = λ cs d c none vs v i. record { stands = stands; waited = in_many cs vs c d none v i };
        })).sides

    by_status : s.run ≡ live → (g : Goroutine) → s.goroutines e.go ≡ Some g → (x : Status) → g.status ≡ x → Sides s e.go (WaitedAt s e) (if_ready p e g x)
    by_status l g here ready up = by_frames l g here up g.frames refl
    by_status l g here (waiting ws) up = tt
    by_status l g here finished up = tt

    by_known : s.run ≡ live → (o : Option Goroutine) → s.goroutines e.go ≡ o → Sides s e.go (WaitedAt s e) (if_known p e o)
    by_known l None here = tt
    by_known l (Some g) here = by_status l g here g.status refl

    by_run : (r : Run) → s.run ≡ r → Sides s e.go (WaitedAt s e) (if_live (ask_go e.go (if_known p e)) r)
    by_run live l = by_known l (s.goroutines e.go) refl
    by_run ended l = tt
    by_run (faulted f) l = tt
