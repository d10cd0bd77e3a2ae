-- The statements around a place, without where they lie in memory; and the instructions of statements before those of their
-- bodies.
use Rattle.std.specs.Prelude.{ℕ, ◌+◌, List, [], ◌∷◌, ◌++◌, Option}
use Rattle.gr_lower.specs.declared.nesting.Way as code_way
use Rattle.gr_lower.specs.declared.nesting.Ways as code_ways
use Rattle.gr_lower.specs.declared.nesting.Ways.TheVariants as ways_of_code
use Rattle.gr_program.specs.Programs.{Expr, Opening}
use Rattle.gr_rules.specs.Operands.{Operand, Variable, nothing, one}
use Rattle.gr_code.specs.Passing.{parts_in}
use Rattle.gr_code.specs.Instructions.{Assigns, GoesOn, Tests, Ranges, Turns, Instruction, Perform}
use Rattle.gr_lower.specs.Sizes.{tested, opening_size}
use Rattle.gr_lower.specs.StatementCode.{Way, entry, performed, opening_code}

abbrev pub way_of : code_way.Way → Way
way_of w = record { out = w.out; again = w.again }

abbrev pub ways_of : code_ways.Ways → List Way
ways_of ways_of_code.Outside = []
ways_of (ways_of_code.Inside' way p outer) = way_of way ∷ ways_of outer

-- an if, whose sides have this many instructions
abbrev pub if_heading : Option Opening → Operand → ℕ → ℕ → ℕ → ℕ → ℕ → List Way → List Instruction
if_heading init condition n m d o on ways =
    let test = o + opening_size init in
    let first = test + (parts_in (one condition) + 1) in
    opening_code init d o test ways ++ performed (one condition) d test (Tests (entry n first on) (entry m (first + n) on))

-- where a turn of a for ends, whose body and post statement have this many instructions
abbrev pub turn_of : Option Opening → Option Expr → ℕ → ℕ → ℕ → ℕ
turn_of init condition n m o =
    let test = o + opening_size init in
    entry m (test + (parts_in (tested condition) + 1) + n) test

abbrev pub for_heading : Option Opening → Option Expr → ℕ → ℕ → ℕ → ℕ → ℕ → List Way → List Instruction
for_heading init condition n m d o on ways =
    let test = o + opening_size init in
    let first = test + (parts_in (tested condition) + 1) in
    opening_code init d o test ways ++ performed (tested condition) d test (Tests (entry n first (turn_of init condition n m o)) on)

abbrev pub range_heading : Option ℕ → Operand → ℕ → ℕ → ℕ → ℕ → List Instruction
range_heading target channel n d o on =
    let turn = o + (parts_in (one channel) + 1) in
    performed (one channel) d o (Ranges d turn)
    ++ Perform (Turns (d + 1) (turn + 1) (turn + 2)) (one (Variable d))
    ∷ Perform (Assigns (target ∷ []) (entry n (turn + 3) turn)) (one (Variable (d + 1)))
    ∷ Perform (GoesOn on) nothing ∷ []
