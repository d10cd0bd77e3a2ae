-- Steps, as the commands that take them.
use Rattle.std.specs.Prelude.{◌≡◌, ℕ, List, ◌++◌, [], Option, Some, None, codes, decimal}
use Rattle.std.specs.List.{flat_map}
use Rattle.gr_base.specs.Names.{go_text}
use Rattle.gr_base.specs.declared.events.Choice.{Choice}
use Rattle.gr_base.specs.declared.events.Choice.TheVariants.{Pick}
use Rattle.gr_base.specs.declared.events.Event.{Event}

-- the clause that a step picks
abbrev pub clause_in : Choice → Option ℕ
clause_in choice = elim choice [ Pick clause ↦ Some clause | _ ↦ None ]

-- the clause that a step picks, after a space
abbrev pub choice_text : Choice → List ℕ
choice_text choice = elim choice [ Pick clause ↦ codes " " ++ decimal clause | _ ↦ [] ]

-- the command that takes the step of an event, as a line
abbrev pub command_text : Event → List ℕ
command_text e = codes "step " ++ ((go_text e.go ++ choice_text e.choice) ++ codes "\n")

-- the commands that take the steps of these events, in their order
abbrev pub commands_text : List Event → List ℕ
commands_text events = flat_map command_text events

-- a text got longer at its end, if at all
abbrev pub Grows : List ℕ → List ℕ → Type 0
Grows old new = (rest : List ℕ) × (new ≡ old ++ rest)
