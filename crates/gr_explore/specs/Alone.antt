-- An event that is taken alone.
use Rattle.std.specs.Prelude.{◌≡◌, true, Option, Some, None}
use Rattle.gr_base.specs.declared.events.Event.{Event}
use Rattle.gr_rules.specs.States.{State}
use Rattle.gr_schedules.specs.Schedules.{is_alone}

-- what was found may be taken alone
abbrev pub AreAlone : State → Option Event → Type 0
AreAlone s found = (a : Event) → found ≡ Some a → is_alone s a ≡ true

-- one was found, unless there is none
abbrev pub IsFound : State → Option Event → Type 0
IsFound s found = found ≡ None → (a : Event) → ¬ (is_alone s a ≡ true)
