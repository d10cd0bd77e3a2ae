-- A program with its code. It has statements one after the other that read variables, for which no temporary stands, and a
-- function with parameters and temporaries.
use Rattle.std.specs.Prelude.{ℕ, zero, suc, pos, false, [], ◌∷◌, Some, None}
use Rattle.gr_tree.specs.declared.expr.BinaryOp.TheVariants.{LogicalAnd}
use Rattle.gr_tree.specs.declared.expr.Direction.TheVariants.{Both}
use Rattle.gr_base.specs.declared.values.Value.TheVariants.{Int, Bool as Truth}
use Rattle.gr_program.specs.Types.{IntType, BoolType, ChanType}
use Rattle.gr_program.specs.Programs as program
use Rattle.gr_program.specs.Programs.{Number, Literally, none, more, Stmt, Does, stop, then, Takes, Named, Function, FunctionIs, Program, ProgramIs}
use Rattle.gr_rules.specs.Operands.{Done, Variable, Decided, nothing, one}
use Rattle.gr_rules.specs.Parts.{Receives}
use Rattle.gr_rules.specs.Points.{closing, following, Assign, at}
use Rattle.gr_code.specs.Instructions.{Part, Decide, Perform, Assigns, Returns}
use Rattle.gr_code.specs.Code.{Meanings}
use Rattle.gr_code.specs.CodeFrames.{FunctionCode, ProgramCode}
use Rattle.gr_code.specs.Examples.{begins_at, end, joining}

-- func main() { var v0, v1 int; v0 = 7; v1 = v0 }
abbrev pub copies_value : Stmt
copies_value = Does (begins_at 7) (program.Assign (Some 1 ∷ []) (more (program.Variable 0) none))

abbrev pub main : Function
main = FunctionIs [] [] None (Named [] IntType ∷ Named [] IntType ∷ [])
    (then (Does (begins_at 5) (program.Assign (Some 0 ∷ []) (more (Literally (Number (pos 7))) none))) (then copies_value stop)) (begins_at 9)

abbrev pub copying : Meanings
copying zero = at (begins_at 5) (Assign (Some 0 ∷ [])) (one (Done (Int (pos 7)))) (following (then copies_value stop) (closing (begins_at 9)))
copying (suc zero) = at (begins_at 7) (Assign (Some 1 ∷ [])) (one (Variable 0)) (closing (begins_at 9))
copying (suc (suc n)) = end

abbrev pub main_code : FunctionCode
main_code = record {
  parameters = [];
  variables = 2;
  cells = 2;
  instructions =
      Perform (Assigns (Some 0 ∷ []) 1) (one (Done (Int (pos 7))))
      ∷ Perform (Assigns (Some 1 ∷ []) 2) (one (Variable 0))
      ∷ Perform Returns nothing
      ∷ [];
  lines = 1 ∷ 1 ∷ 1 ∷ [];
}

-- func both(v0 bool, v1 chan bool) { v0 = v0 && <-v1 }
abbrev pub both : Function
both = FunctionIs [] (Takes (Some 0) BoolType ∷ Takes (Some 1) (ChanType Both BoolType) ∷ []) None
    (Named [] BoolType ∷ Named [] (ChanType Both BoolType) ∷ [])
    (then (Does (begins_at 5) (program.Assign (Some 0 ∷ [])
    (more (program.Binary LogicalAnd (program.Variable 0) (program.Receive (program.Variable 1) (program.Truth false))) none))) stop) (begins_at 9)

abbrev pub both_code : FunctionCode
both_code = record {
  parameters = Some 0 ∷ Some 1 ∷ [];
  variables = 2;
  cells = 4;
  instructions =
      Decide LogicalAnd (Variable 0) 2 2 1
      ∷ Part (Receives (Variable 1) (Truth false)) (Some 3) 2
      ∷ Perform (Assigns (Some 0 ∷ []) 3) (one (Decided LogicalAnd 2 (Variable 3)))
      ∷ Perform Returns nothing
      ∷ [];
  lines = 1 ∷ 1 ∷ 1 ∷ 1 ∷ [];
}

abbrev pub program_of_two : Program
program_of_two = ProgramIs (main ∷ both ∷ []) 0

abbrev pub code_of_two : ProgramCode
code_of_two = record { functions = main_code ∷ both_code ∷ []; main = 0 }

abbrev pub meaning_of_two : ℕ → Meanings
meaning_of_two zero = copying
meaning_of_two (suc n) = joining
