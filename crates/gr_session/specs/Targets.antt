-- The step that a command asks for, by its name, by what it did, or by what it gave a value.
use Rattle.std.specs.Prelude.{ℕ, List, slice_get, Option, Some, option_map, option_and_then}
use Rattle.gr_base.specs.declared.names.StepId.{StepId}
use Rattle.gr_program.specs.Programs.{Program}
use Rattle.gr_rules.specs.Assigned.{last_assignment}
use Rattle.gr_rules.specs.History.{start_of, sent, received}
use Rattle.gr_rules.specs.States.{start}
use Rattle.gr_laws.specs.Reached.{Logged}
use Rattle.gr_command.specs.declared.target.Target.{Target}
use Rattle.gr_command.specs.declared.target.Target.TheVariants.{Step, Start, Send, Receive, Variable}
use Rattle.gr_rollback.specs.Pasts.{id_of, events_in}

-- the name of the last step of a goroutine that gave a variable with this name a value
abbrev pub assigner : (p : Program) → List (Logged p) → List ℕ → List ℕ → Option StepId
assigner p log go name =
    option_and_then (λ i. option_map (id_of p) (slice_get log i)) (last_assignment p (start p) go name (events_in p log))

-- the name of the step that is asked for, where the log has one
abbrev pub step_asked : (p : Program) → List (Logged p) → Target → Option StepId
step_asked p log (Step id) = Some id
step_asked p log (Start go) = option_map (id_of p) (start_of p go log)
step_asked p log (Send k channel) = option_map (id_of p) (sent p channel k log)
step_asked p log (Receive k channel) = option_map (id_of p) (received p channel k log)
step_asked p log (Variable go name) = assigner p log go name
