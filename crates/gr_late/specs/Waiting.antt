-- Which goroutines wait, and the schedules in which none waits before the step comes that ends the wait.
use Rattle.std.specs.Prelude.{Bool, true, false, List, Option, Some, None}
use Rattle.gr_base.specs.declared.events.Event.{Event}
use Rattle.gr_rules.specs.Goroutines.{Goroutine, waiting}
use Rattle.gr_rules.specs.States.{State, live}
use Rattle.gr_search.specs.System.{System}
use Rattle.gr_search.specs.Late.{late}
use Rattle.gr_schedules.specs.Matters.{Matter}
use Rattle.gr_schedules.specs.Schedules.{Origin, schedules}

abbrev pub waits_in : Option Goroutine → Bool
waits_in o = elim o [ Some g ↦ elim g.status [ waiting ws ↦ true | _ ↦ false ] | None ↦ false ]

-- whether the program runs, and the goroutine of the event waits
abbrev pub is_waiting : State → Event → Bool
is_waiting s e = elim s.run [ live ↦ waits_in (s.goroutines e.go) | _ ↦ false ]

-- The schedules of which each event is a step after which its goroutine does not wait, or the step by which a goroutine waits and
-- that by which another ends the wait.
abbrev pub late_schedules : Origin → System State (List Event) Matter
late_schedules o = late (schedules o) is_waiting
