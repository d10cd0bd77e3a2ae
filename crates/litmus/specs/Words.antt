-- Words for writing checked programs.
use Rattle.std.specs.Prelude.{ℕ, suc, pos, ◌+◌, ◌*◌, List, [], ◌∷◌, ◌++◌, Option, Some}
use Rattle.gr_scan.specs.declared.token.Place.{Place}
use Rattle.gr_tree.specs.declared.expr.Direction.TheVariants.{Both}
use Rattle.gr_program.specs.Types.{Ty, IntType, ChanType}
use Rattle.gr_program.specs.Programs as program
use Rattle.gr_program.specs.Programs.{Expr, Exprs, Literal, Number, Stmt, Stmts, Declared, Named, Parameter, Takes, Function, FunctionIs, Does}

-- where a line begins, and a place further on in it
abbrev pub on : ℕ → Place
on line = record { start = 100 * line; end = 100 * line; line = line }

abbrev pub further : ℕ → ℕ → Place
further line column = record { start = 100 * line + column; end = 100 * line + column; line = line }

abbrev pub int_channel : Ty
int_channel = ChanType Both IntType

abbrev pub local : ℕ → Expr
local k = program.Variable k

abbrev pub number : ℕ → Expr
number n = program.Literally (Number (pos n))

abbrev pub received_from : Expr → Expr
received_from c = program.Receive c (Number (pos 0))

abbrev pub terms : List Expr → Exprs
terms [] = program.none
terms (t ∷ ts) = program.more t (terms ts)

abbrev pub block : List Stmt → Stmts
block [] = program.stop
block (s ∷ ss) = program.then s (block ss)

-- statements, each with its line
abbrev pub set : ℕ → ℕ → Expr → Stmt
set line k t = Does (on line) (program.Assign (Some k ∷ []) (terms (t ∷ [])))

abbrev pub start : ℕ → ℕ → List Expr → Stmt
start line f ts = Does (on line) (program.Go f (terms ts))

abbrev pub run : ℕ → Expr → Stmt
run line t = Does (on line) (program.Eval t)

abbrev pub send : ℕ → Expr → Expr → Stmt
send line c t = Does (on line) (program.Send c t)

abbrev pub close : ℕ → Expr → Stmt
close line c = Does (on line) (program.Close c)

abbrev pub printed : List Expr → List program.Printed
printed [] = []
printed (t ∷ ts) = program.PrintExpr t ∷ printed ts

abbrev pub print : ℕ → List Expr → Stmt
print line ts = Does (on line) (program.Print (printed ts))

abbrev pub print_text : ℕ → List ℕ → Stmt
print_text line bytes = Does (on line) (program.Print (program.PrintText bytes ∷ []))

-- a function whose parameters are its first variables
abbrev pub parameters_from : ℕ → List Declared → List Parameter
parameters_from k [] = []
parameters_from k (Named x t ∷ ds) = Takes (Some k) t ∷ parameters_from (suc k) ds

abbrev pub function : List ℕ → List Declared → Option Ty → List Declared → List Stmt → ℕ → Function
function name parameters result variables body last =
    FunctionIs name (parameters_from 0 parameters) result (parameters ++ variables) (block body) (on last)
