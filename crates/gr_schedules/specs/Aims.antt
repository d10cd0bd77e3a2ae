-- What is looked for in the schedules of a program: a bad end, a good one, or one that leaves goroutines which wait for ever.
use Rattle.std.specs.Prelude.{◌≡◌, ◌⊎◌, ◌≤◌, ℕ, Bool, true, false, List, [], ◌∷◌, Option, Some, None, length}
use Rattle.gr_base.specs.declared.events.Event.{Event}
use Rattle.gr_causal.specs.Machine.{IsLog}
use Rattle.gr_program.specs.Programs.{Program}
use Rattle.gr_rules.specs.Goroutines.{Goroutine, waiting}
use Rattle.gr_rules.specs.States.{State, ended}
use Rattle.gr_rules.specs.Steps.{machine}
use Rattle.gr_rules.specs.Turns.{IsReady}
use Rattle.gr_laws.specs.Reached.{Logged}
use Rattle.gr_search.specs.System.{System}
use Rattle.gr_schedules.specs.Matters.{Matter}
use Rattle.gr_schedules.specs.Schedules.{Origin, IsBad, schedules}
use Rattle.gr_schedules.specs.declared.Aim.{Aim}
use Rattle.gr_schedules.specs.declared.Aim.TheVariants.{EndsBadly, EndsWell, EndsBadlyOrLeaks}

-- whether there is a goroutine, and it waits
abbrev pub is_waiting : Option Goroutine → Bool
is_waiting o = elim o [ Some g ↦ elim g.status [ waiting ws ↦ true | _ ↦ false ] | None ↦ false ]

-- whether the goroutine is another than that of the function main, and waits
abbrev pub is_left : State → List ℕ → Bool
is_left s [] = false
is_left s (n ∷ ns) = is_waiting (s.goroutines (n ∷ ns))

-- The program has ended, and leaves a goroutine that waits, while none is ready. So none of those that are left would ever go on,
-- even if the function main had not returned.
pub record Leaks (s : State) : Type 0 where
  pub over : s.run ≡ ended
  pub left : List ℕ
  pub waits : is_left s left ≡ true
  pub none_ready : (g : List ℕ) → ¬ IsReady s g

-- A run ends well where the program has ended. The Go Programming Language Specification, Program execution: then the function
-- main has returned.
abbrev pub IsAim : Aim → State → Type 0
IsAim EndsBadly s = IsBad s
IsAim EndsWell s = s.run ≡ ended
IsAim EndsBadlyOrLeaks s = IsBad s ⊎ Leaks s

-- no schedule from the state, of any length and with any choices, comes to the aim
abbrev pub NoneComes : Aim → Program → State → Type 0
NoneComes aim p s = (steps : List (Logged p)) (t : State) → IsLog (machine p) s steps t → ¬ IsAim aim t

-- no schedule from the state of at most so many steps comes to the aim
abbrev pub NoneComesWithin : Aim → Program → ℕ → State → Type 0
NoneComesWithin aim p n s = (steps : List (Logged p)) (t : State) → IsLog (machine p) s steps t → length steps ≤ n → ¬ IsAim aim t

-- some schedule from the state comes to the aim
pub record SomeComes (aim : Aim) (p : Program) (s : State) : Type 0 where
  pub steps : List (Logged p)
  pub state : State
  pub leads : IsLog (machine p) s steps state
  pub comes : IsAim aim state

-- one of so many steps does
pub record SomeComesBy (aim : Aim) (p : Program) (n : ℕ) (s : State) : Type 0 where
  pub some : SomeComes aim p s
  pub long : length some.steps ≡ n

-- the schedules, as a system in which the aim is searched
abbrev pub schedules_to : Aim → Origin → System State Event Matter
schedules_to aim o = record (schedules o) { bad = IsAim aim }
