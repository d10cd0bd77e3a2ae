-- Statements with their code.
use Rattle.std.specs.Prelude.{ℕ, zero, suc, ◌+◌, pos, false, [], ◌∷◌, Option, Some, None}
use Rattle.gr_scan.specs.declared.token.Place.{Place}
use Rattle.gr_tree.specs.declared.expr.BinaryOp.TheVariants.{LogicalAnd}
use Rattle.gr_base.specs.declared.values.Value.TheVariants.{Int, Bool as Truth}
use Rattle.gr_program.specs.Programs as program
use Rattle.gr_program.specs.Programs.{Number, Literally, stop, Cases, no_case, default_case, send_case, receive_case}
use Rattle.gr_rules.specs.Operands.{Operand, Done, Variable, Binary, Receive, Decided, nothing, one, two}
use Rattle.gr_rules.specs.Parts.{Receives}
use Rattle.gr_rules.specs.Points.{closing, ranging, chosen, Assign, Return, GoOn, Range, Turn, Select, Point, at, case_operands}
use Rattle.gr_code.specs.Instructions.{DefaultArm, SendArm, ReceiveArm, Instruction, Part, Decide, Perform, Choose, Assigns, Returns, GoesOn, Ranges, Turns}
use Rattle.gr_code.specs.Code.{Meanings}

-- where a statement, and the closing brace, stands
abbrev pub begins_at : ℕ → Place
begins_at start = record { start = start; end = start + 1; line = 1 }

abbrev pub end : Point
end = at (begins_at 9) Return nothing (closing (begins_at 9))

-- v0 = v0 && <-v1: a decision, a receive, and the assignment, where both ways join
abbrev pub assigning : Operand → Point
assigning e = at (begins_at 5) (Assign (Some 0 ∷ [])) (one e) (closing (begins_at 9))

abbrev pub joining : Meanings
joining zero = assigning (Binary LogicalAnd (Variable 0) (Receive (Variable 1) (Truth false)))
joining (suc zero) = assigning (Decided LogicalAnd 2 (Receive (Variable 1) (Truth false)))
joining (suc (suc zero)) = assigning (Decided LogicalAnd 2 (Variable 3))
joining (suc (suc (suc n))) = end

abbrev pub joining_code : ℕ → Option Instruction
joining_code zero = Some (Decide LogicalAnd (Variable 0) 2 2 1)
joining_code (suc zero) = Some (Part (Receives (Variable 1) (Truth false)) (Some 3) 2)
joining_code (suc (suc zero)) = Some (Perform (Assigns (Some 0 ∷ []) 3) (one (Decided LogicalAnd 2 (Variable 3))))
joining_code (suc (suc (suc zero))) = Some (Perform Returns nothing)
joining_code (suc (suc (suc (suc n)))) = None

-- for v0 = range v1 {}: the channel is kept, and each turn receives from it
abbrev pub looping : Meanings
looping zero = at (begins_at 5) (Range (Some 0) stop) (one (Variable 1)) (closing (begins_at 9))
looping (suc zero) = at (begins_at 5) (Turn (Some 0) stop) (one (Variable 2)) (closing (begins_at 9))
looping (suc (suc zero)) = at (begins_at 5) (Assign (Some 0 ∷ [])) (one (Variable 3)) (ranging (begins_at 5) (Some 0) (Variable 2) stop (closing (begins_at 9)))
looping (suc (suc (suc zero))) = at (begins_at 5) GoOn nothing (closing (begins_at 9))
looping (suc (suc (suc (suc n)))) = end

abbrev pub looping_code : ℕ → Option Instruction
looping_code zero = Some (Perform (Ranges 2 1) (one (Variable 1)))
looping_code (suc zero) = Some (Perform (Turns 3 2 3) (one (Variable 2)))
looping_code (suc (suc zero)) = Some (Perform (Assigns (Some 0 ∷ []) 1) (one (Variable 3)))
looping_code (suc (suc (suc zero))) = Some (Perform (GoesOn 4) nothing)
looping_code (suc (suc (suc (suc zero)))) = Some (Perform Returns nothing)
looping_code (suc (suc (suc (suc (suc n))))) = None

-- select { case v1 <- 7: case v0, _ = <-v1: default: }
abbrev pub cases : Cases
cases =
    send_case (program.Variable 1) (Literally (Number (pos 7))) stop
    (receive_case (Some 0 ∷ None ∷ []) (program.Variable 1) (Number (pos 0)) stop (default_case stop no_case))

abbrev pub choosing : Meanings
choosing zero = at (begins_at 5) (Select cases) (case_operands cases) (closing (begins_at 9))
choosing (suc zero) = at (begins_at 5) (Assign (Some 0 ∷ None ∷ [])) (two (Variable 2) (Variable 3)) (chosen 2 (closing (begins_at 9)))
choosing (suc (suc n)) = end

abbrev pub choosing_code : ℕ → Option Instruction
choosing_code zero = Some (Choose (
    SendArm (Variable 1) (Done (Int (pos 7))) 2 ∷ ReceiveArm (Variable 1) (Int (pos 0)) (Some (2, 3)) 1 ∷ DefaultArm 2 ∷ []))
choosing_code (suc zero) = Some (Perform (Assigns (Some 0 ∷ None ∷ []) 2) (two (Variable 2) (Variable 3)))
choosing_code (suc (suc zero)) = Some (Perform Returns nothing)
choosing_code (suc (suc (suc n))) = None
