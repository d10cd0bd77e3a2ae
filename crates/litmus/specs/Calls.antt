-- Calls in an expression, the least value divided by -1, and lines that depend on nothing.
use Rattle.std.specs.Prelude.{◌≡◌, ◌-◌, ◌^◌, negsuc, List, [], ◌∷◌, Some, None, codes}
use Rattle.gr_tree.specs.declared.expr.BinaryOp.TheVariants.{Add, Multiply, Divide, Remainder}
use Rattle.gr_base.specs.declared.events.Event.{Event}
use Rattle.gr_base.specs.declared.kinds.Kind.TheVariants.{Pure, Call, Return, Go, Exit}
use Rattle.gr_program.specs.Types.{IntType}
use Rattle.gr_program.specs.Programs.{Number, Literally, Binary, Select, no_case, Expr, Does, Named, Program, ProgramIs}
use Rattle.gr_program.specs.Programs as term
use Rattle.litmus.specs.Words.{on, local, number, terms, set, start, print, function}
use Rattle.litmus.specs.Runs.{main, child, steps, times, kinds, printed, dependents}

-- func f(n int) int { println(n); return n }
-- func main() {
--     x := f(1) + f(2)*f(3)
--     println(x)
-- }
abbrev pub called : Expr → Expr
called t = term.Call 0 (terms (t ∷ []))

abbrev pub calling : Program
calling = ProgramIs (
    function (codes "f") (Named (codes "n") IntType ∷ []) (Some IntType) [] (print 2 (local 0 ∷ []) ∷ Does (on 2) (term.Return (Some (local 0))) ∷ []) 2
    ∷ function (codes "main") [] None (Named (codes "x") IntType ∷ []) (
    set 4 0 (Binary Add (called (number 1)) (Binary Multiply (called (number 2)) (called (number 3)))) ∷ print 5 (local 0 ∷ []) ∷ []) 6
    ∷ []) 1

abbrev pub Calls : Type 0
Calls = kinds calling (times 12 main []) ≡ Call ∷ Pure ∷ Return ∷ Call ∷ Pure ∷ Return ∷ Call ∷ Pure ∷ Return ∷ Pure ∷ Pure ∷ Exit ∷ []

abbrev pub CallsPrint : Type 0
CallsPrint = printed calling (times 12 main []) ≡ codes "1" ∷ codes "2" ∷ codes "3" ∷ codes "7" ∷ []

-- x := -9223372036854775808; y := -1; println(x/y, x%y)
abbrev pub dividing : Program
dividing = ProgramIs (function (codes "main") [] None (Named (codes "x") IntType ∷ Named (codes "y") IntType ∷ []) (
    set 3 0 (Literally (Number (negsuc (2 ^ 63 - 1)))) ∷ set 4 1 (Literally (Number (negsuc 0)))
    ∷ print 5 (Binary Divide (local 0) (local 1) ∷ Binary Remainder (local 0) (local 1) ∷ []) ∷ []) 6 ∷ []) 0

abbrev pub Divides : Type 0
Divides = printed dividing (times 4 main []) ≡ codes "-9223372036854775808 0" ∷ []

-- func say(n int) { println(n) }
-- func main() {
--     println(0)
--     go say(1)
--     go say(2)
--     select {}
-- }
abbrev pub saying : Program
saying = ProgramIs (
    function (codes "say") (Named (codes "n") IntType ∷ []) None [] (print 2 (local 0 ∷ []) ∷ []) 2
    ∷ function (codes "main") [] None [] (print 4 (number 0 ∷ []) ∷ start 5 0 (number 1 ∷ []) ∷ start 6 0 (number 2 ∷ []) ∷ Select (on 7) no_case ∷ []) 8
    ∷ []) 1

abbrev pub said : List Event
said = times 3 main (steps (child 1) ∷ steps (child 2) ∷ [])

-- two lines printed by two goroutines do not depend on each other
abbrev pub LinesAreApart : Type 0
LinesAreApart = (kinds saying said ≡ Pure ∷ Go ∷ Go ∷ Pure ∷ Pure ∷ []) × (dependents saying said 3 ≡ (child 1, 1) ∷ [])

abbrev pub LinesInOrder : Type 0
LinesInOrder = printed saying said ≡ codes "0" ∷ codes "1" ∷ codes "2" ∷ []
