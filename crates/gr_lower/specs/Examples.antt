-- Bodies of functions with their code, each of a function with two variables.
use Rattle.std.specs.Prelude.{◌≡◌, ℕ, zero, suc, ◌+◌, pos, false, List, [], ◌∷◌, slice_get, Option, Some, None}
use Rattle.gr_tree.specs.declared.expr.BinaryOp.TheVariants.{LogicalAnd, Less, Add}
use Rattle.gr_base.specs.declared.values.Value.TheVariants.{Int}
use Rattle.gr_program.specs.Programs as program
use Rattle.gr_program.specs.Programs.{Number, Literally, Variable, Receive, Call, Binary, none, more, Assign, Opens, Does, Block, If, For, Range, Select, Stmts, stop, then, default_case, no_case}
use Rattle.gr_rules.specs.Operands as operand
use Rattle.gr_rules.specs.Operands.{Done, Decided, nothing, also, one}
use Rattle.gr_rules.specs.Parts.{Calls, Receives}
use Rattle.gr_code.specs.Instructions.{DefaultArm, Instruction, Part, Perform, Choose, Assigns, Returns, GoesOn, Tests, Ranges, Turns, Updates}
use Rattle.gr_rules.specs.Points.{Point}
use Rattle.gr_code.specs.Code.{Meanings}
use Rattle.gr_code.specs.Examples.{begins_at, cases}
use Rattle.gr_lower.specs.Lowered.{body_code, body_points}

-- v0 = v0 && <-v1
abbrev pub joining : Stmts
joining = then (Does (begins_at 5) (Assign (Some 0 ∷ []) (more (Binary LogicalAnd (Variable 0) (Receive (Variable 1) (program.Truth false))) none))) stop

-- for v0 = range v1 {}
abbrev pub looping : Stmts
looping = then (Range (begins_at 5) (Some 0) (Variable 1) stop) stop

-- select { case v1 <- 7: case v0, _ = <-v1: default: }
abbrev pub choosing : Stmts
choosing = then (Select (begins_at 5) cases) stop

-- { f0(f1(v0), <-v1) }, where the last call is the whole statement
abbrev pub calling : Stmts
calling =
    then (Block (then (Does (begins_at 5) (program.Eval
    (Call 0 (more (Call 1 (more (Variable 0) none)) (more (Receive (Variable 1) (Number (pos 0))) none))))) stop)) stop

abbrev pub calling_code : List Instruction
calling_code =
    Part (Calls 1 (one (operand.Variable 0))) (Some 2) 1
    ∷ Part (Receives (operand.Variable 1) (Int (pos 0))) (Some 3) 2
    ∷ Part (Calls 0 (also (operand.Variable 2) (one (operand.Variable 3)))) None 3
    ∷ Perform Returns nothing ∷ []

-- for v0 = 0; v0 < v1; v0 += 1 { if v0 < 7 { continue } else {}; break }
abbrev pub turning : Stmts
turning =
    then (For (begins_at 5) (Some (Opens (begins_at 6) (Assign (Some 0 ∷ []) (more (Literally (Number (pos 0))) none))))
    (Some (Binary Less (Variable 0) (Variable 1))) (Some (Opens (begins_at 7) (program.Update 0 Add (Literally (Number (pos 1))))))
    (then (If (begins_at 8) None (Binary Less (Variable 0) (Literally (Number (pos 7)))) (then (Does (begins_at 9) (program.Continue 0)) stop) stop)
    (then (Does (begins_at 10) (program.Break 0)) stop))) stop

abbrev pub turning_code : List Instruction
turning_code =
    Perform (Assigns (Some 0 ∷ []) 1) (one (Done (Int (pos 0))))
    ∷ Perform (Tests 2 6) (one (operand.Binary Less (operand.Variable 0) (operand.Variable 1)))
    ∷ Perform (Tests 3 4) (one (operand.Binary Less (operand.Variable 0) (Done (Int (pos 7)))))
    ∷ Perform (GoesOn 5) nothing
    ∷ Perform (GoesOn 6) nothing
    ∷ Perform (Updates 0 Add 1) (one (Done (Int (pos 1))))
    ∷ Perform Returns nothing ∷ []

-- for range v1 { select { default: break }; if v0 < 7 { v0 = <-v1 } }
abbrev pub nesting : Stmts
nesting =
    then (Range (begins_at 5) None (Variable 1)
    (then (Select (begins_at 6) (default_case (then (Does (begins_at 7) (program.Break 0)) stop) no_case))
    (then (If (begins_at 8) None (Binary Less (Variable 0) (Literally (Number (pos 7))))
    (then (Does (begins_at 9) (Assign (Some 0 ∷ []) (more (Receive (Variable 1) (Number (pos 0))) none))) stop) stop) stop))) stop

abbrev pub nesting_code : List Instruction
nesting_code =
    Perform (Ranges 2 1) (one (operand.Variable 1))
    ∷ Perform (Turns 3 2 3) (one (operand.Variable 2))
    ∷ Perform (Assigns (None ∷ []) 4) (one (operand.Variable 3))
    ∷ Perform (GoesOn 9) nothing
    ∷ Choose (DefaultArm 5 ∷ [])
    ∷ Perform (GoesOn 6) nothing
    ∷ Perform (Tests 7 1) (one (operand.Binary Less (operand.Variable 0) (Done (Int (pos 7)))))
    ∷ Part (Receives (operand.Variable 1) (Int (pos 0))) (Some 3) 8
    ∷ Perform (Assigns (Some 0 ∷ []) 1) (one (operand.Variable 3))
    ∷ Perform Returns nothing ∷ []

-- the first instructions, this many, and the points that they mean
abbrev pub first_code : ℕ → (ℕ → Option Instruction) → List (Option Instruction)
first_code zero code = []
first_code (suc n) code = code 0 ∷ first_code n (λ k. code (k + 1))

abbrev pub first_points : ℕ → Meanings → List Point
first_points zero means = []
first_points (suc n) means = means 0 ∷ first_points n (λ k. means (k + 1))

abbrev pub MeansAs : Stmts → ℕ → (ℕ → Option Instruction) → Meanings → Type 0
MeansAs body n code means =
    (first_code n (slice_get (body_code 2 body)) ≡ first_code n code) × (body_points 2 body (begins_at 9) ≡ first_points n means)
