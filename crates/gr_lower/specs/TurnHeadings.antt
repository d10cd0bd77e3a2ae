-- The instructions before the body of a loop over a channel, and those of a select before its clauses.
use Rattle.std.specs.Prelude.{ℕ, ◌+◌, List, [], ◌∷◌, ◌++◌, Option}
use Rattle.gr_program.specs.Programs.{Cases}
use Rattle.gr_rules.specs.Operands.{Operand, Variable, nothing, one}
use Rattle.gr_rules.specs.Points.{case_operands}
use Rattle.gr_code.specs.Passing.{parts_in}
use Rattle.gr_code.specs.Instructions.{Assigns, GoesOn, Ranges, Turns, Instruction, Perform, Choose}
use Rattle.gr_lower.specs.PartCode.{code_in}
use Rattle.gr_lower.specs.StatementCode.{entry, performed, arms}

-- what a turn of a loop over a channel does before the body, from the instruction `turn` on
abbrev pub turn_heading : Option ℕ → ℕ → ℕ → ℕ → ℕ → List Instruction
turn_heading target n d turn on =
    Perform (Turns (d + 1) (turn + 1) (turn + 2)) (one (Variable d))
    ∷ Perform (Assigns (target ∷ []) (entry n (turn + 3) turn)) (one (Variable (d + 1)))
    ∷ Perform (GoesOn on) nothing ∷ []

abbrev pub range_heading : Option ℕ → Operand → ℕ → ℕ → ℕ → ℕ → List Instruction
range_heading target channel n d o on =
    let turn = o + (parts_in (one channel) + 1) in
    performed (one channel) d o (Ranges d turn) ++ turn_heading target n d turn on

abbrev pub select_heading : Cases → ℕ → ℕ → ℕ → List Instruction
select_heading cases d o on =
    let first = o + (parts_in (case_operands cases) + 1) in
    code_in (case_operands cases) d o ++ Choose (arms cases d d first on) ∷ []
