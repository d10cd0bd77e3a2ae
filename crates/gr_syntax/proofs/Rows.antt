-- The lists in the code's statements.
use Rattle.std.proofs.Common.{◌≡◌, List, [], ◌∷◌, ◌++◌, refl, ap, ◌∙◌, Global}
use Rattle.std.specs.Prelude.{Vec}
use Rattle.gr_scan.specs.declared.token.Place.{Place}
use Rattle.gr_tree.specs.declared.stmt.Stmt as rows
use Rattle.gr_tree.specs.declared.stmt.Clause.TheBlock.{hidden-the_row-Stmt-0}
use Rattle.gr_tree.specs.declared.stmt.Stmt.TheVariants as stmts
use Rattle.gr_tree.specs.declared.stmt.IfHead as code_if
use Rattle.gr_tree.specs.declared.stmt.ForHead as code_for
use Rattle.gr_tree.specs.Statements.{Block, If, IfElse, For, then, if_of, for_of, statement_of, statements_of, row_statements}
use Rattle.gr_syntax.specs.StatementReading.{added}

list_is : {n : _} (k : rows.Row_of-Stmt n) → row_statements k ≡ statements_of (rows.items-the_row-Stmt n k)
list_is rows.end_of-Stmt = refl
list_is (rows.more_of-Stmt s k) = ap ((then) (statement_of s)) (list_is k)

pub held : (v : Vec rows.Stmt Global) → row_statements (hidden-the_row-Stmt-0 v) ≡ statements_of v.items
held v = list_is (hidden-the_row-Stmt-0 v) ∙ ap statements_of (rows.items_hidden-the_row-Stmt-0 v)

pub block_is : (p : Place) (v : Vec rows.Stmt Global) → statement_of (stmts.Block p v) ≡ Block p (statements_of v.items)
block_is p v = ap (Block p) (held v)

pub if_is : (p : Place) (c : code_if.IfHead) (v : Vec rows.Stmt Global) → statement_of (stmts.If p c v) ≡ If p (if_of c) (statements_of v.items)
if_is p c v = ap (If p (if_of c)) (held v)

pub for_is : (p : Place) (c : code_for.ForHead) (v : Vec rows.Stmt Global) → statement_of (stmts.For p c v) ≡ For p (for_of c) (statements_of v.items)
for_is p c v = ap (For p (for_of c)) (held v)

pub else_is : (p : Place) (c : code_if.IfHead) (v w : Vec rows.Stmt Global) → statement_of (stmts.IfElse p c v w) ≡ IfElse p (if_of c) (statements_of v.items) (statements_of w.items)
else_is p c v w = ap (λ ss. IfElse p (if_of c) ss (row_statements (hidden-the_row-Stmt-0 w))) (held v) ∙ ap (IfElse p (if_of c) (statements_of v.items)) (held w)

pub statements_push : (xs : List rows.Stmt) (x : rows.Stmt) → statements_of (xs ++ (x ∷ [])) ≡ added (statements_of xs) (statement_of x)
statements_push [] x = refl
statements_push (y ∷ xs) x = ap ((then) (statement_of y)) (statements_push xs x)
