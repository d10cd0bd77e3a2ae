-- Runs of a program, and the states that it reaches.
use Rattle.std.specs.Prelude.{List}
use Rattle.gr_causal.specs.Machine.{StepOf, IsLog}
use Rattle.gr_program.specs.Programs.{Program}
use Rattle.gr_rules.specs.States.{State, start}
use Rattle.gr_rules.specs.Steps.{machine}

-- a step of the program as a log keeps it: its event, its note, and what it wrote over
abbrev pub Logged : Program → Type 0
Logged p = StepOf (machine p)

-- the log of a run, which leads from the start of the program to the state
abbrev pub IsRun : (p : Program) → List (Logged p) → State → Type 0
IsRun p log s = IsLog (machine p) (start p) log s

-- some run of the program leads to the state
pub record Reached (p : Program) (s : State) : Type 0 where
  pub log : List (Logged p)
  pub leads : IsRun p log s
