-- What an attempt at a step comes to, and at taking one back.
use Rattle.std.specs.Prelude.{◌≡◌, ℕ, Bool, true, false, List, [], ◌∷◌, ◌++◌, drop, Some, None, Result, Ok, Err}
use Rattle.gr_base.specs.declared.events.Event.{Event}
use Rattle.gr_rules.specs.States.{State}
use Rattle.gr_step.specs.Record.{Record}
use Rattle.gr_step.specs.declared.refusal.StepRefused.{StepRefused}
use Rattle.gr_step.specs.declared.refusal.StepRefused.TheVariants as refusals
use Rattle.gr_step.specs.Stores.{program_at}
use Rattle.gr_rollback.specs.declared.machine.Machine.{Machine}
use Rattle.gr_rollback.specs.Machines.{steps_of, store_of}
use Rattle.gr_search.specs.Going.{RefusesStep, RefusesBack}
use Rattle.gr_search.specs.declared.searched.Limit.{Limit}
use Rattle.gr_search.specs.declared.searched.Limit.TheVariants.{Memory}
use Rattle.gr_schedules.specs.Schedules.{next_state}
use Rattle.gr_explore.specs.Books.{Apart}
use Rattle.gr_explore.specs.Exploring.{origin_of, events_since, longest_after, state_seen, StandsSince}

-- a machine is the same, as far as a search looks at it
pub record Remains (m n : Machine) (base : ℕ) : Type 0 where
  pub stands : StandsSince n base
  pub origin : origin_of n base ≡ origin_of m base
  pub state : state_seen n ≡ state_seen m
  pub since : events_since n base ≡ events_since m base

-- two states have the same but for what the last step of a machine's log changed
abbrev pub IsApartAtLast : Machine → State → State → Type 0
IsApartAtLast m s t = (front : List Record) (r : Record) → steps_of m ≡ front ++ r ∷ [] → Apart r s t

-- a machine took the step of an event
pub record Advances (m n : Machine) (base : ℕ) (e : Event) : Type 0 where
  pub stands : StandsSince n base
  pub origin : origin_of n base ≡ origin_of m base
  pub next : next_state (program_at (store_of m)) (state_seen m) e ≡ Some (state_seen n)
  pub since : events_since n base ≡ e ∷ events_since m base
  pub apart : IsApartAtLast n (state_seen m) (state_seen n)

-- a machine took its last step back
pub record Retreats (m n : Machine) (base : ℕ) : Type 0 where
  pub stands : StandsSince n base
  pub origin : origin_of n base ≡ origin_of m base
  pub since : events_since n base ≡ drop 1 (events_since m base)
  pub apart : IsApartAtLast m (state_seen m) (state_seen n)

-- the event was taken; or it is not possible; or it was refused
abbrev pub Tried : ℕ → Event → Result Bool Limit → Machine → Machine → Type 0
Tried base e (Ok true) m n = Advances m n base e
Tried base e (Ok false) m n = Remains m n base × (next_state (program_at (store_of m)) (state_seen m) e ≡ None)
Tried base e (Err limit) m n = Remains m n base × RefusesStep (longest_after (origin_of m base)) (events_since m base) limit

abbrev pub Returned : ℕ → Result (Unit {0}) Limit → Machine → Machine → Type 0
Returned base (Ok done) m n = Retreats m n base
Returned base (Err limit) m n = Remains m n base × RefusesBack limit

-- what is told of a step that the store refused
abbrev pub IsNotTaken : StepRefused → Result Bool Limit → Type 0
IsNotTaken refusals.NoMemory r = r ≡ Err Memory
IsNotTaken _ r = r ≡ Ok false
