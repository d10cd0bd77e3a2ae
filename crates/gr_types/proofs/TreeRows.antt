-- The lists in the code's statements.
use Rattle.std.proofs.Common.{◌≡◌, ◌⊎◌, inl, inr, ℕ, ◌+◌, ◌<◌, List, ◌∷◌, length, get_or, drop, refl, ap, ◌∙◌, Global, drop-cons, add-one}
use Rattle.std.specs.Prelude.{Vec, Box}
use Rattle.gr_scan.specs.declared.token.Place.{Place}
use Rattle.gr_tree.specs.declared.stmt.Stmt as rows
use Rattle.gr_tree.specs.declared.stmt.Clause as code_clause
use Rattle.gr_tree.specs.declared.stmt.Clause.TheBlock.{hidden-the_row-Stmt-0, hidden-the_row-Clause-1}
use Rattle.gr_tree.specs.declared.stmt.Clause.TheVariants as clauses
use Rattle.gr_tree.specs.declared.stmt.Stmt.TheVariants as stmts
use Rattle.gr_tree.specs.declared.stmt.IfHead as code_if
use Rattle.gr_tree.specs.declared.stmt.ForHead as code_for
use Rattle.gr_tree.specs.declared.stmt.Communication.{Communication}
use Rattle.gr_tree.specs.Statements.{Block, If, IfElse, IfElseIf, For, Select, if_of, for_of, then, default, case, comm_of, statement_of, statements_of, row_statements, row_clauses}
use Rattle.gr_types.specs.StatementViews.{clause_body, clauses_of}

list_is : {n : _} (k : rows.Row_of-Stmt n) → row_statements k ≡ statements_of (rows.items-the_row-Stmt n k)
list_is rows.end_of-Stmt = refl
list_is (rows.more_of-Stmt s k) = ap ((then) (statement_of s)) (list_is k)

clauses_are : {n : _} (k : rows.Row_of-Clause n) → row_clauses k ≡ clauses_of (rows.items-the_row-Clause n k)
clauses_are rows.end_of-Clause = refl
clauses_are (rows.more_of-Clause (clauses.Default' shape body) k) = ap (default (row_statements body)) (clauses_are k)
clauses_are (rows.more_of-Clause (clauses.Case' communication shape body) k) = ap (case (comm_of communication) (row_statements body)) (clauses_are k)

pub held : (v : Vec rows.Stmt Global) → row_statements (hidden-the_row-Stmt-0 v) ≡ statements_of v.items
held v = list_is (hidden-the_row-Stmt-0 v) ∙ ap statements_of (rows.items_hidden-the_row-Stmt-0 v)

pub held_clauses : (v : Vec code_clause.Clause Global) → row_clauses (hidden-the_row-Clause-1 v) ≡ clauses_of v.items
held_clauses v = clauses_are (hidden-the_row-Clause-1 v) ∙ ap clauses_of (rows.items_hidden-the_row-Clause-1 v)

pub drop_first : (ss : List rows.Stmt) (i : ℕ) (s : rows.Stmt) → i < length ss → statements_of (drop i ss) ≡ then (statement_of (get_or ss i s)) (statements_of (drop (i + 1) ss))
drop_first ss i s lt = rw add-one (ap statements_of (drop-cons ss i s lt))

pub block_is : (p : Place) (v : Vec rows.Stmt Global) → statement_of (stmts.Block p v) ≡ Block p (statements_of v.items)
block_is p v = ap (Block p) (held v)

pub if_is : (p : Place) (h : code_if.IfHead) (v : Vec rows.Stmt Global) → statement_of (stmts.If p h v) ≡ If p (if_of h) (statements_of v.items)
if_is p h v = ap (If p (if_of h)) (held v)

pub else_is : (p : Place) (h : code_if.IfHead) (v w : Vec rows.Stmt Global) → statement_of (stmts.IfElse p h v w) ≡ IfElse p (if_of h) (statements_of v.items) (statements_of w.items)
else_is p h v w = cc (held v, held w)

pub else_if_is : (p : Place) (h : code_if.IfHead) (v : Vec rows.Stmt Global) (s : Box rows.Stmt Global) → statement_of (stmts.IfElseIf p h v s) ≡ IfElseIf p (if_of h) (statements_of v.items) (statement_of s.value)
else_if_is p h v s = ap (λ ss. IfElseIf p (if_of h) ss (statement_of s.value)) (held v)

pub for_is : (p : Place) (h : code_for.ForHead) (v : Vec rows.Stmt Global) → statement_of (stmts.For p h v) ≡ For p (for_of h) (statements_of v.items)
for_is p h v = ap (For p (for_of h)) (held v)

pub select_is : (p : Place) (v : Vec code_clause.Clause Global) → statement_of (stmts.Select p v) ≡ Select p (clauses_of v.items)
select_is p v = ap (Select p) (held_clauses v)

-- the block of a clause, whichever it is
pub body_is : (k : code_clause.Clause) (v : Vec rows.Stmt Global) → (k ≡ clauses.Default v) ⊎ ((m : Communication) × k ≡ clauses.Case m v) → clause_body k ≡ statements_of v.items
body_is k v (inl e) = ap clause_body e ∙ held v
body_is k v (inr (m, e)) = ap clause_body e ∙ held v

pub drop_clause : (ks : List code_clause.Clause) (i : ℕ) (k : code_clause.Clause) → i < length ks → clauses_of (drop i ks) ≡ clauses_of (get_or ks i k ∷ drop (i + 1) ks)
drop_clause ks i k lt = rw add-one (ap clauses_of (drop-cons ks i k lt))
