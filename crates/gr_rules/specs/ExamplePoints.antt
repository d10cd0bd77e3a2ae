-- Worked examples: parts in their order, and the ways out of nested statements.
use Rattle.std.specs.Prelude.{◌≡◌, ℕ, zero, suc, pos, true, false, [], ◌∷◌, Option, Some, None}
use Rattle.gr_tree.specs.declared.expr.BinaryOp.TheVariants.{Add, Multiply, Less, LogicalAnd}
use Rattle.gr_base.specs.declared.values.Value.{Value}
use Rattle.gr_base.specs.declared.values.Value.TheVariants.{Int, Bool as Truth}
use Rattle.gr_scan.specs.declared.token.Place.{Place}
use Rattle.gr_program.specs.Programs as program
use Rattle.gr_program.specs.Programs.{Number, Literally, Expr, none, more, PrintExpr, Break, Continue, Opens, Stmt, Does, For, stop, then}
use Rattle.gr_rules.specs.Operands.{Operand, Done, Variable, Binary, Receive, Call, one, operand_of}
use Rattle.gr_rules.specs.Parts.{Ask, Calls, Decides, Next, Plain, Asks, next}
use Rattle.gr_rules.specs.Points.{Rest, closing, following, looping, chosen, OfValue, Work, Assign, Update, Print, Test, Point, outside, next_turn, act_at, point_after}

-- a place on a line
abbrev pub line : ℕ → Place
line n = record { start = n; end = n; line = n }

abbrev pub int : ℕ → Operand
int n = Done (Int (pos n))

-- what is asked for next, and what stands there once it is done
abbrev pub asked : Next Operand → Option Ask
asked Plain = None
asked (Asks ask k) = Some ask

abbrev pub done_with : Value → Next Operand → Option Operand
done_with v Plain = None
done_with v (Asks ask k) = Some (k v)

-- f(1) + f(2)*<-c, where f is function 0 and c variable 0
abbrev pub sum : Operand
sum = Binary Add (Call 0 (one (int 1))) (Binary Multiply (Call 0 (one (int 2))) (Receive (Variable 0) (Int (pos 0))))

-- v1 && <-c
abbrev pub both : Operand
both = Binary LogicalAnd (Variable 1) (Receive (Variable 0) (Truth false))

abbrev pub PartsInOrder : Type 0
PartsInOrder =
    (asked (next sum) ≡ Some (Calls 0 (one (int 1))))
    × (done_with (Int (pos 5)) (next sum) ≡ Some (Binary Add (int 5) (Binary Multiply (Call 0 (one (int 2))) (Receive (Variable 0) (Int (pos 0))))))
    × (asked (next both) ≡ Some (Decides LogicalAnd (Variable 1)))
    × (done_with (Truth false) (next both) ≡ Some (Done (Truth false)))
    × (done_with (Truth true) (next both) ≡ Some (Receive (Variable 0) (Truth false)))

-- in a select in a for: `break` leaves the select, `break` of depth 1 the for, and `continue` of depth 1 begins its next turn
abbrev pub nested : Rest
nested = chosen 1 (following stop (looping stop (closing (line 9))))

abbrev pub WaysOut : Type 0
WaysOut =
    (outside 0 nested ≡ Some (following stop (looping stop (closing (line 9)))))
    × (outside 1 nested ≡ Some (closing (line 9)))
    × (outside 2 nested ≡ None)
    × (next_turn 1 nested ≡ Some (looping stop (closing (line 9))))
    × (next_turn 0 nested ≡ None)

-- for v0 := 0; v0 < 3; v0 += 1 { println(v0) }
abbrev pub number : ℕ → Expr
number n = Literally (Number (pos n))

abbrev pub below_three : Expr
below_three = program.Binary Less (program.Variable 0) (number 3)

abbrev pub loop : Stmt
loop = For (line 4) (Some (Opens (line 41) (program.Assign (Some 0 ∷ []) (more (number 0) none)))) (Some below_three) (Some (Opens (line 42) (program.Update 0 Add (number 1))))
    (then (Does (line 5) (program.Print (PrintExpr (program.Variable 0) ∷ []))) stop)

-- what comes after a statement, or after a condition that holds
abbrev pub onward_by : Work → Rest → Point
onward_by (Test holds) rest = point_after holds
onward_by work rest = point_after rest

abbrev pub onward : ℕ → Point
onward zero = point_after (following (then loop stop) (closing (line 9)))
onward (suc n) = onward_by (onward n).work (onward n).rest

-- the initial statement comes once, the post statement after each turn, also after one that `continue` ends
abbrev pub TurnsInOrder : Type 0
TurnsInOrder =
    ((onward 0).work ≡ Assign (Some 0 ∷ []))
    × ((onward 1).operands ≡ one (operand_of below_three))
    × ((onward 2).work ≡ Print (OfValue ∷ []))
    × ((onward 3).work ≡ Update 0 Add)
    × ((onward 4).operands ≡ one (operand_of below_three))
    × ((onward 5).work ≡ Print (OfValue ∷ []))
    × ((point_after (act_at (line 5) (Continue 0) (onward 2).rest).rest).work ≡ Update 0 Add)
    × ((act_at (line 5) (Break 0) (onward 2).rest).rest ≡ closing (line 9))
