-- What depends on what in the log of a run, and orders of a log by the names of its steps.
use Rattle.std.specs.Prelude.{ℕ, ◌==◌, Bool, ◌&&◌, List}
use Rattle.gr_causal.specs.Dependence.{Depends, IsLeastClosed}
use Rattle.gr_causal.specs.Machine.{conflict}
use Rattle.gr_causal.specs.OrderByNames.{Ordered, ordered}
use Rattle.gr_causal.specs.StepNames.{name_of}
use Rattle.gr_program.specs.Programs.{Program}
use Rattle.gr_rules.specs.States.{same_go}
use Rattle.gr_rules.specs.Steps.{machine, owner, ordinal}
use Rattle.gr_laws.specs.Reached.{Logged}

-- whether one of two steps writes what the other touches
abbrev pub clash : (p : Program) → Logged p → Logged p → Bool
clash p = conflict (machine p)

-- the step and all that depends on it, directly or by others, and nothing else
abbrev pub AreTheDependents : (p : Program) → List (Logged p) → Logged p → List (Logged p) → Type 0
AreTheDependents p log x some = IsLeastClosed (λ a b. Depends (clash p) log b a) log x some

-- the step and all that it depends on, directly or by others, and nothing else
abbrev pub AreTheCauses : (p : Program) → List (Logged p) → Logged p → List (Logged p) → Type 0
AreTheCauses p log x some = IsLeastClosed (λ a b. Depends (clash p) log a b) log x some

-- the name of a step: its goroutine, and its ordinal among the steps of that
abbrev pub StepName : Type 0
StepName = List ℕ × ℕ

abbrev pub step_name : (p : Program) → Logged p → StepName
step_name p = name_of (machine p) owner ordinal

-- whether two names are one
abbrev pub same_name : StepName → StepName → Bool
same_name m n = same_go m.0 n.0 && (m.1 == n.1)

-- the order of a log that these names give, or why they give none
abbrev pub ordered_by : (p : Program) → List StepName → List (Logged p) → Ordered (Logged p)
ordered_by p names log = ordered (clash p) (step_name p) same_name names log
