-- The events that are tried in a state: each choice of each goroutine that is ready.
use Rattle.std.specs.Prelude.{◌≡◌, ℕ, Bool, true, false, List, [], ◌∷◌, ◌++◌, map, if◌then◌else◌, Some, None}
use Rattle.gr_base.specs.declared.events.Choice.{Choice}
use Rattle.gr_base.specs.declared.events.Choice.TheVariants.{Pick}
use Rattle.gr_base.specs.declared.events.Event.{Event}
use Rattle.gr_program.specs.Programs.{Program}
use Rattle.gr_rules.specs.Goroutines.{ready}
use Rattle.gr_rules.specs.States.{live, State}
use Rattle.gr_rules.specs.Tells.{ready_clauses, usual_choice}

abbrev pub is_pick : Choice → Bool
is_pick choice = elim choice [ Pick i ↦ true | _ ↦ false ]

abbrev pub event_by : List ℕ → Choice → Event
event_by go choice = record { go = go; choice = choice }

-- the clauses that can be picked; and the usual choice, where that picks none
abbrev pub choices_of : Program → State → List ℕ → List Event
choices_of p s go =
    (if is_pick (usual_choice p s go) then [] else event_by go (usual_choice p s go) ∷ [])
    ++ map (λ i. event_by go (Pick i)) (ready_clauses p s go)

-- whether the goroutine is there and ready, while the program runs
abbrev pub can_act : State → List ℕ → Bool
can_act s go = elim s.run [ live ↦ elim (s.goroutines go) [ Some g ↦ elim g.status [ ready ↦ true | _ ↦ false ] | None ↦ false ] | _ ↦ false ]

abbrev pub choices_at : Program → State → List ℕ → List Event
choices_at p s go = if can_act s go then choices_of p s go else []

-- the choices of these goroutines, one after the other
abbrev pub all_choices : Program → State → List (List ℕ) → List Event
all_choices p s [] = []
all_choices p s (go ∷ gos) = choices_at p s go ++ all_choices p s gos

-- the choices of some goroutines
pub record AreChoices (p : Program) (s : State) (events : List Event) : Type 0 where
  pub names : List (List ℕ)
  pub each : events ≡ all_choices p s names
