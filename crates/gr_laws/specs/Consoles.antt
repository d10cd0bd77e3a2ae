-- What a goroutine printed and how many steps it took, by the log of a run.
use Rattle.std.specs.Prelude.{ℕ, List, [], filter, Option}
use Rattle.std.specs.Option.{option_map_or}
use Rattle.gr_program.specs.Programs.{Program}
use Rattle.gr_rules.specs.Goroutines.{Goroutine}
use Rattle.gr_rules.specs.States.{same_go}
use Rattle.gr_laws.specs.Reached.{Logged}

-- the lines that a goroutine printed
abbrev pub text_of : Option Goroutine → List (List ℕ)
text_of g = option_map_or (λ g. g.text) g []

-- the steps of a goroutine, in the order of the log
abbrev pub steps_by : (p : Program) → List ℕ → List (Logged p) → List (Logged p)
steps_by p g log = filter (λ r. same_go g r.event.go) log
