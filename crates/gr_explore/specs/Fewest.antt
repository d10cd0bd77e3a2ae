-- How an exploration for the fewest steps ends.
use Rattle.std.specs.Prelude.{◌<◌, ℕ, length, IfSome}
use Rattle.gr_program.specs.Programs.{Program}
use Rattle.gr_rules.specs.States.{State}
use Rattle.gr_rollback.specs.declared.machine.Machine.{Machine}
use Rattle.gr_rollback.specs.Pasts.{Timeline}
use Rattle.gr_search.specs.declared.search.Answer.TheVariants as answers
use Rattle.gr_search.specs.declared.shortest.Shortest.{Shortest}
use Rattle.gr_search.specs.declared.shortest.Shortest.TheVariants.{Nothing, Found, Limited}
use Rattle.gr_search.specs.declared.shortest.Unfinished.{Unfinished}
use Rattle.gr_schedules.specs.declared.Aim.{Aim}
use Rattle.gr_schedules.specs.Aims.{NoneComesWithin, SomeComesBy}
use Rattle.gr_explore.specs.Exploring.{ComesTo, IsHome, StandsAgain}

-- the machine stands in the aim, and no schedule of fewer steps comes to it
pub record ComesByFewest (aim : Aim) (p : Program) (w : Timeline p) (m : Machine) : Type 0 where
  pub come : ComesTo aim p w m
  pub fewest : (n : ℕ) → n < length come.steps → NoneComesWithin aim p n w.past.state

-- what is known of the schedules from a state where a limit was met
pub record IsKnownOf (aim : Aim) (p : Program) (s : State) (u : Unfinished) : Type 0 where
  pub safe : NoneComesWithin aim p u.safe s
  pub known : IfSome u.known (λ n. SomeComesBy aim p n s)

-- after every answer but one that was found the machine stands where it stood, unless a step could not be taken back
abbrev pub IsHomeAfter : (p : Program) → Timeline p → Shortest → Machine → Type 0
IsHomeAfter p w Found m = Unit {0}
IsHomeAfter p w (Limited u) m = IsHome p w (answers.Limited u.limit) m
IsHomeAfter p w (Nothing states) m = StandsAgain p w m
