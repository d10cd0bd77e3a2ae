-- Steps that a goroutine takes by itself on a copy, away from the store, and that join the log together.
use Rattle.std.specs.Prelude.{◌≡◌, ◌+◌, ◌≤◌, ◌%◌, ℕ, true, List, [], ◌++◌, length, replicate, slice_get, Option, Some, Result, Ok, Err}
use Rattle.gr_base.specs.declared.events.Choice.TheVariants.{Plain}
use Rattle.gr_base.specs.declared.events.Event.{Event}
use Rattle.gr_base.specs.declared.memory.NoMemory.{NoMemory}
use Rattle.gr_causal.specs.Machine.{IsLog}
use Rattle.gr_pool.specs.Goroutines.{IsInOrder, is_among}
use Rattle.gr_program.specs.Programs.{Program}
use Rattle.gr_rules.specs.Limits.{most_steps}
use Rattle.gr_rules.specs.States.{State}
use Rattle.gr_rules.specs.Steps.{machine}
use Rattle.gr_laws.specs.Reached.{Logged}
use Rattle.gr_refine.specs.Contents.{Contents, with_goroutine}
use Rattle.gr_step.specs.Record.{Record}
use Rattle.gr_step.specs.Kept.{Kept}
use Rattle.gr_step.specs.declared.leasing.LentCopy.{LentCopy}
use Rattle.gr_step.specs.Leasing.{goes_alone, name_lent, goroutine_led_to}
use Rattle.gr_step.specs.Listings.{state_in}
use Rattle.gr_step.specs.Stores.{contents_at}
use Rattle.gr_depend.specs.Logs.{records_of}
use Rattle.gr_rollback.specs.declared.course.Course.{Course}
use Rattle.gr_rollback.specs.declared.machine.Machine.{Machine}
use Rattle.gr_rollback.specs.Courses.{Begins, Holds}
use Rattle.gr_rollback.specs.Machines.{Stands}
use Rattle.gr_rollback.specs.Pasts.{Past, Timeline, events_in}

-- the goroutines whose next step is local, in the order of names
pub record GoAlone (s : State) (names : List (List ℕ)) : Type 0 where
  pub ordered : IsInOrder names
  pub each : (n : List ℕ) → is_among n names ≡ goes_alone s n

-- the one of them at this place, modulo their number
pub record IsLentAt (s : State) (place : ℕ) (o : Option (List ℕ)) : Type 0 where
  pub names : List (List ℕ)
  pub alone : GoAlone s names
  pub at : o ≡ slice_get names (place % length names)

abbrev pub SomeGoesAlone : State → Type 0
SomeGoesAlone s = (n : List ℕ) × (goes_alone s n ≡ true)

-- this many steps of a goroutine, with no choice
abbrev pub own_events : List ℕ → ℕ → List Event
own_events go count = replicate count (record { go = go; choice = Plain })

-- this many steps of the goroutine join those that are kept: each is a step where the others led
pub record JoinAll (p : Program) (w : Past p) (go : List ℕ) (count : ℕ) (steps : List (Logged p)) (t : State) : Type 0 where
  pub events : events_in p steps ≡ own_events go count
  pub leads : IsLog (machine p) w.state steps t
  pub room : length w.log + count ≤ most_steps

-- the past with them
abbrev pub with_steps : (p : Program) → Past p → List (Logged p) → State → Past p
with_steps p w steps t = record { log = w.log ++ steps; state = t }

-- the course after them
pub record KeepsAll (p : Program) (w : Past p) (go : List ℕ) (count : ℕ) (c : Course) : Type 0 where
  pub steps : List (Logged p)
  pub state : State
  pub join : JoinAll p w go count steps state
  pub holds : Holds p (with_steps p w steps state) c

-- the machine after them; or nothing has changed
pub record TakesAll (p : Program) (w : Timeline p) (go : List ℕ) (count : ℕ) (m : Machine) : Type 0 where
  pub steps : List (Logged p)
  pub state : State
  pub join : JoinAll p w.past go count steps state
  pub stands : Stands p (record { past = with_steps p w.past steps state; again = [] }) m

abbrev pub AllTaken : (p : Program) → Timeline p → List ℕ → ℕ → Result (Unit {0}) NoMemory → Machine → Type 0
AllTaken p w go count (Ok done) m = TakesAll p w go count m
AllTaken p w go count (Err e) m = Stands p w m

-- what the store contains where the goroutine of a lease has the content after its steps
abbrev pub led_on : LentCopy → Contents → Contents
led_on l s = with_goroutine s (name_lent l) (Some (goroutine_led_to l))

-- what the store may contain: some records of the steps that are kept lead to it from the start
pub record Contains (p : Program) (w : Past p) (s : Contents) : Type 0 where
  pub begins : Contents
  pub begun : Begins p begins
  pub records : List Record
  pub kept : Kept p begins records w.log s
  pub state : w.state ≡ state_in p s

abbrev pub contains : (p : Program) (w : Past p) (c : Course) → Holds p w c → Contains p w (contents_at c.store)
contains p w c h = record { begins = h.begins; begun = h.begun; records = records_of c.log; kept = h.kept; state = h.state }
