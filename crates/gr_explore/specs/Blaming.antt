-- After which step of a log no schedule ends well any more.
use Rattle.std.specs.Prelude.{◌≡◌, ◌<◌, ◌≤◌, ◌+◌, ℕ, List, take, length, IfSome}
use Rattle.gr_base.specs.declared.events.Event.{Event}
use Rattle.gr_program.specs.Programs.{Program}
use Rattle.gr_step.specs.Stores.{program_at}
use Rattle.gr_rollback.specs.declared.machine.Machine.{Machine}
use Rattle.gr_rollback.specs.Machines.{store_of, IsMachine}
use Rattle.gr_schedules.specs.declared.Aim.TheVariants.{EndsWell}
use Rattle.gr_schedules.specs.Schedules.{state_after}
use Rattle.gr_schedules.specs.Aims.{NoneComes, SomeComes}
use Rattle.gr_explore.specs.Exploring.{events_at}
use Rattle.gr_explore.specs.declared.blaming.Blame.{Blame}
use Rattle.gr_explore.specs.declared.blaming.Blame.TheVariants.{Nobody, Beginning, Step, Between}
use Rattle.gr_explore.specs.declared.blaming.Verdict.{Verdict}
use Rattle.gr_explore.specs.declared.blaming.Verdict.TheVariants.{Well, Lost, Unknown}

module _ (p : Program) (events : List Event) where
  -- after so many of the events some schedule ends well
  abbrev pub CanEndWell : ℕ → Type 0
  CanEndWell n = SomeComes EndsWell p (state_after p (take n events))

  -- after so many of the events none does
  abbrev pub IsLost : ℕ → Type 0
  IsLost n = NoneComes EndsWell p (state_after p (take n events))

  -- which step is to blame that no schedule ends well any more
  abbrev pub IsBlame : Blame → Type 0
  IsBlame Nobody = CanEndWell (length events)
  IsBlame Beginning = IsLost 0
  IsBlame (Step n) = (n < length events) × CanEndWell n × IsLost (n + 1)
  IsBlame (Between span) = IfSome span.well (λ n. (n ≤ length events) × CanEndWell n) × IfSome span.lost (λ n. (n ≤ length events) × IsLost n)

  -- what was found after so many of the events
  abbrev pub IsVerdict : ℕ → Verdict → Type 0
  IsVerdict n Well = CanEndWell n
  IsVerdict n Lost = IsLost n
  IsVerdict n (Unknown limit) = Unit {0}

-- the machine stands after the first of the events
abbrev pub StandsAlong : List Event → Machine → Type 0
StandsAlong events m = events_at m ≡ take (length (events_at m)) events

-- a machine of the program
pub record IsOf (p : Program) (m : Machine) : Type 0 where
  pub is : IsMachine m
  pub program : program_at (store_of m) ≡ p

-- a machine goes on from another: its first events are those of the other
pub record GoesOn (m n : Machine) : Type 0 where
  pub of : IsOf (program_at (store_of m)) n
  pub longer : length (events_at m) ≤ length (events_at n)
  pub first : take (length (events_at m)) (events_at n) ≡ events_at m
