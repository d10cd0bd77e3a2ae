-- All schedules of a program from a state that it reaches, as a system that is searched.
use Rattle.std.specs.Prelude.{◌≡◌, ◌⊎◌, ℕ, Bool, false, List, [], ◌∷◌, Option, Some, None, option_map}
use Rattle.gr_base.specs.declared.events.Choice.TheVariants.{Plain}
use Rattle.gr_base.specs.declared.events.Event.{Event}
use Rattle.gr_base.specs.declared.kinds.Fault.{Fault}
use Rattle.gr_causal.specs.Machine.{IsLog, replay}
use Rattle.gr_program.specs.Programs.{Program}
use Rattle.gr_rules.specs.LocalSteps.{is_local}
use Rattle.gr_rules.specs.States.{State, live, faulted, start}
use Rattle.gr_rules.specs.Steps.{machine}
use Rattle.gr_rules.specs.Turns.{IsReady}
use Rattle.gr_laws.specs.Reached.{Logged}
use Rattle.gr_search.specs.System.{System}
use Rattle.gr_schedules.specs.Matters.{Matter, matter}

-- A run ends badly here: by a fault, or stuck. Then the program runs, and no goroutine is ready.
abbrev pub IsBad : State → Type 0
IsBad s = ((f : Fault) × (s.run ≡ faulted f)) ⊎ ((s.run ≡ live) × ((g : List ℕ) → ¬ IsReady s g))

-- no schedule from the state, of any length and with any choices, ends badly
abbrev pub NoneEndsBadly : Program → State → Type 0
NoneEndsBadly p s = (steps : List (Logged p)) (t : State) → IsLog (machine p) s steps t → ¬ IsBad t

-- a program, and the events of the steps after which a search begins
pub record Origin : Type 0 where
  pub program : Program
  pub before : List Event

-- the state after these events from the start, where they are possible
abbrev pub state_after : Program → List Event → State
state_after p es = elim (replay (machine p) (start p) es) [ Some r ↦ r.0 | None ↦ start p ]

abbrev pub next_state : Program → State → Event → Option State
next_state p s e = option_map (λ r. r.0) ((machine p).step s e)

-- whether the event is a local step of its goroutine, while the program runs
abbrev pub is_alone : State → Event → Bool
is_alone s e = elim s.run [ live ↦ elim e.choice [ Plain ↦ is_local s e.go | _ ↦ false ] | _ ↦ false ]

-- Each step of the rules is one of the system. A local step may be taken alone.
abbrev pub schedules : Origin → System State Event Matter
schedules o = record {
  start = state_after o.program o.before;
  next = next_state o.program;
  bad = IsBad;
  alone = is_alone;
  key = matter;
}

-- the items the other way round, before those that are done
abbrev pub newest_first : {A : Type 0} → List A → List A → List A
newest_first [] done = done
newest_first (x ∷ xs) done = newest_first xs (x ∷ done)
