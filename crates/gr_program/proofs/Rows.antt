-- The lists in the program's trees.
use Rattle.std.proofs.Common.{◌≡◌, ℕ, ap, refl, ◌∙◌, Global}
use Rattle.std.specs.Prelude.{Vec, Option, Box}
use Rattle.std.proofs.Math.Path.{fun_ext}
use Rattle.gr_tree.specs.Statements.{optional}
use Rattle.gr_scan.specs.declared.token.Place.{Place}
use Rattle.gr_program.specs.declared.program.Literal.{Literal}
use Rattle.gr_program.specs.declared.program.Opening.{Opening}
use Rattle.gr_program.specs.declared.program.Expr.{Expr, Row_of-Expr, end_of-Expr, more_of-Expr, items-the_row-Expr, items_hidden-the_row-Expr-0}
use Rattle.gr_program.specs.declared.program.Expr.TheBlock.{hidden-the_row-Expr-0}
use Rattle.gr_program.specs.declared.program.Expr.TheVariants as exprs
use Rattle.gr_program.specs.declared.program.Stmt as rows
use Rattle.gr_program.specs.declared.program.Case.TheBlock.{hidden-the_row-Stmt-0, hidden-the_row-Case-1}
use Rattle.gr_program.specs.declared.program.Stmt.TheVariants as stmts
use Rattle.gr_program.specs.declared.program.Case as code_case
use Rattle.gr_program.specs.declared.program.Case.TheVariants as cases
use Rattle.gr_program.specs.Programs as pure
use Rattle.gr_program.specs.Programs.{Exprs, Stmts, stop, then, more, Cases, joined}
use Rattle.gr_program.specs.TypeViews.{literal_of}
use Rattle.gr_program.specs.Views.{expr_of, row_exprs, exprs_of, stmt_of, row_stmts, stmts_of, opening_of, case_on, row_cases, cases_of}

expr_list : {n : _} (k : Row_of-Expr n) → row_exprs k ≡ exprs_of (items-the_row-Expr n k)
expr_list end_of-Expr = refl
expr_list (more_of-Expr t k) = ap (more (expr_of t)) (expr_list k)

pub call_is : (function : ℕ) (v : Vec Expr Global) → expr_of (exprs.Call function v) ≡ pure.Call function (exprs_of v.items)
call_is function v = ap (pure.Call function) (expr_list (hidden-the_row-Expr-0 v) ∙ ap exprs_of (items_hidden-the_row-Expr-0 v))

stmt_list : {n : _} (k : rows.Row_of-Stmt n) → row_stmts k ≡ stmts_of (rows.items-the_row-Stmt n k)
stmt_list rows.end_of-Stmt = refl
stmt_list (rows.more_of-Stmt s k) = ap (then (stmt_of s)) (stmt_list k)

pub held : (v : Vec rows.Stmt Global) → row_stmts (hidden-the_row-Stmt-0 v) ≡ stmts_of v.items
held v = stmt_list (hidden-the_row-Stmt-0 v) ∙ ap stmts_of (rows.items_hidden-the_row-Stmt-0 v)

pub block_is : (v : Vec rows.Stmt Global) → stmt_of (stmts.Block v) ≡ pure.Block (stmts_of v.items)
block_is v = ap pure.Block (held v)

pub if_is : (place : Place) (init : Option (Box Opening Global)) (condition : Expr) (v w : Vec rows.Stmt Global) → stmt_of (stmts.If place init condition v w) ≡ pure.If place (optional opening_of init) (expr_of condition) (stmts_of v.items) (stmts_of w.items)
if_is place init condition v w =
    ap (λ ss. pure.If place (optional opening_of init) (expr_of condition) ss (row_stmts (hidden-the_row-Stmt-0 w))) (held v) ∙ ap (pure.If place (optional opening_of init) (expr_of condition) (stmts_of v.items)) (held w)

pub for_is : (place : Place) (init : Option (Box Opening Global)) (condition : Option Expr) (post : Option (Box Opening Global)) (v : Vec rows.Stmt Global) → stmt_of (stmts.For place init condition post v) ≡ pure.For place (optional opening_of init) (optional expr_of condition) (optional opening_of post) (stmts_of v.items)
for_is place init condition post v = ap (pure.For place (optional opening_of init) (optional expr_of condition) (optional opening_of post)) (held v)

pub range_is : (place : Place) (target : Option ℕ) (channel : Expr) (v : Vec rows.Stmt Global) → stmt_of (stmts.Range place target channel v) ≡ pure.Range place target (expr_of channel) (stmts_of v.items)
range_is place target channel v = ap (pure.Range place target (expr_of channel)) (held v)

case_list : {n : _} (k : rows.Row_of-Case n) → row_cases k ≡ cases_of (rows.items-the_row-Case n k)
case_list rows.end_of-Case = refl
case_list (rows.more_of-Case c k) = ap (case_on c) (case_list k)

pub select_is : (place : Place) (v : Vec code_case.Case Global) → stmt_of (stmts.Select place v) ≡ pure.Select place (cases_of v.items)
select_is place v = ap (pure.Select place) (case_list (hidden-the_row-Case-1 v) ∙ ap cases_of (rows.items_hidden-the_row-Case-1 v))

pub default_is : (v : Vec rows.Stmt Global) (others : Cases) → case_on (cases.Default v) others ≡ pure.default_case (stmts_of v.items) others
default_is v others = ap (λ ss. pure.default_case ss others) (held v)

pub send_is : (channel value : Expr) (v : Vec rows.Stmt Global) (others : Cases) → case_on (cases.Send channel value v) others ≡ pure.send_case (expr_of channel) (expr_of value) (stmts_of v.items) others
send_is channel value v others = ap (λ ss. pure.send_case (expr_of channel) (expr_of value) ss others) (held v)

pub receive_is : (targets : Vec (Option ℕ) Global) (channel : Expr) (zero : Literal) (v : Vec rows.Stmt Global) (others : Cases) → case_on (cases.Receive targets channel zero v) others ≡ pure.receive_case targets.items (expr_of channel) (literal_of zero) (stmts_of v.items) others
receive_is targets channel zero v others = ap (λ ss. pure.receive_case targets.items (expr_of channel) (literal_of zero) ss others) (held v)

-- clauses as functions of those after them
pub default_made : (v : Vec rows.Stmt Global) → case_on (cases.Default v) ≡ pure.default_case (stmts_of v.items)
default_made v = fun_ext (default_is v)

pub send_made : (channel value : Expr) (v : Vec rows.Stmt Global) → case_on (cases.Send channel value v) ≡ pure.send_case (expr_of channel) (expr_of value) (stmts_of v.items)
send_made channel value v = fun_ext (send_is channel value v)

pub receive_made : (targets : Vec (Option ℕ) Global) (channel : Expr) (zero : Literal) (v : Vec rows.Stmt Global) → case_on (cases.Receive targets channel zero v) ≡ pure.receive_case targets.items (expr_of channel) (literal_of zero) (stmts_of v.items)
receive_made targets channel zero v = fun_ext (receive_is targets channel zero v)
