-- What the turns of the loop over the clauses of a select give, and the rows of clauses.
use Rattle.std.proofs.Common.{◌≡◌, ℕ, ◌<◌, max, false, List, [], ◌∷◌, ◌++◌, length, refl, ap, sym, ◌∙◌, arith, Global}
use Rattle.std.specs.Prelude.{Some, None, Ok, Err, Vec}
use Rattle.gr_scan.specs.declared.token.Place.{Place}
use Rattle.gr_scan.specs.declared.token.Token.{Token}
use Rattle.gr_scan.specs.declared.token.Mark.TheVariants as marks
use Rattle.gr_scan.specs.Tokens.{Tok, tokens_of}
use Rattle.gr_tree.specs.declared.stmt.IfHead as code_if
use Rattle.gr_tree.specs.declared.stmt.Communication.{Communication}
use Rattle.gr_tree.specs.declared.stmt.Stmt as rows
use Rattle.gr_tree.specs.declared.stmt.Clause as clause_rows
use Rattle.gr_tree.specs.declared.stmt.Clause.TheBlock.{hidden-the_row-Stmt-0, hidden-the_row-Clause-1}
use Rattle.gr_tree.specs.declared.stmt.Stmt.TheVariants as stmts
use Rattle.gr_tree.specs.declared.stmt.Clause.TheVariants as clauses
use Rattle.gr_tree.specs.Statements.{Comm, Statement, IfElseIf, Select, Statements, Clauses, default, case, if_of, comm_of, statement_of, row_statements, row_clauses, statements_of}
use Rattle.gr_syntax.specs.Grammar.{after_mark}
use Rattle.gr_syntax.specs.Reading.{ReadError, Found, loop, need}
use Rattle.gr_syntax.specs.SimpleReading.{stops_at}
use Rattle.gr_syntax.specs.StatementReading.{past_semicolon, list_turn, comm_at, list_at, with_default, with_case, clause_body_at, clause_turn, statement_at}
use Rattle.gr_syntax.specs.CodeViews.{clauses_of}
use Rattle.gr_syntax.proofs.Cases.{on_ok, on_err, need_is}
use Rattle.gr_syntax.proofs.Turns.{tokens_length}
use Rattle.gr_syntax.proofs.Rows.{held, statements_push}
use Rattle.gr_syntax.proofs.StatementTurns.{list_go}
use Rattle.gr_syntax.proofs.SoundHeads.{comm_sound}
use Rattle.gr_syntax.proofs.SoundStatements.{list_sound, statement_sound}
use Rattle.gr_syntax.proofs.StatementSizes.{comm_shrunk, list_shrunk}
use Rattle.gr_syntax.proofs.CompleteClauses.{clause_step}

-- one turn of the clauses of a select
module _ (h : ℕ) (cs : Found Clauses) where
  pub clauses_end : after_mark marks.Case cs.2 ≡ None → after_mark marks.Default cs.2 ≡ None → loop (clause_turn h (statement_at h)) cs ≡ Ok cs
  unfolding clause_turn
  clauses_end m k = clause_step h cs ∙ rw (m, k) refl

  pub case_err : (rest : List Tok) (f : ReadError) → after_mark marks.Case cs.2 ≡ Some rest → comm_at h rest ≡ Err f → loop (clause_turn h (statement_at h)) cs ≡ Err f
  unfolding clause_turn
  case_err rest f m q = clause_step h cs ∙ rw (m, q) refl

  case_colon : (rest : List Tok) (c : Found Comm) (f : ReadError) → after_mark marks.Case cs.2 ≡ Some rest → comm_at h rest ≡ Ok c → need marks.Colon c.2 ≡ Err f → loop (clause_turn h (statement_at h)) cs ≡ Err f
  unfolding clause_turn
  case_colon rest c f m q e = clause_step h cs ∙ rw (m, q, e) refl

  case_bad : (rest : List Tok) (c : Found Comm) (r : Place × List Tok) (f : ReadError) → after_mark marks.Case cs.2 ≡ Some rest → comm_at h rest ≡ Ok c → need marks.Colon c.2 ≡ Ok r → list_at (statement_at h) r.1 ≡ Err f → loop (clause_turn h (statement_at h)) cs ≡ Err f
  unfolding clause_turn
  case_bad rest c r f m q e l = clause_step h cs ∙ rw (m, q, e, l) refl

  pub case_broken : (rest : List Tok) (c : Found Comm) (f : ReadError) → after_mark marks.Case cs.2 ≡ Some rest → comm_at h rest ≡ Ok c → clause_body_at (statement_at h) c.2 ≡ Err f → loop (clause_turn h (statement_at h)) cs ≡ Err f
  case_broken rest c f m q b = on_err (need marks.Colon c.2) _ f b (λ e. case_colon rest c f m q e) (λ r e l. case_bad rest c r f m q e l)

  case_go : (rest : List Tok) (c : Found Comm) (r : Place × List Tok) (ss : Found Statements) → after_mark marks.Case cs.2 ≡ Some rest → comm_at h rest ≡ Ok c → need marks.Colon c.2 ≡ Ok r → list_at (statement_at h) r.1 ≡ Ok ss → loop (clause_turn h (statement_at h)) cs ≡ loop (clause_turn h (statement_at h)) (with_case cs.0 c.0 ss.0, max cs.1 (max c.1 ss.1), ss.2)
  unfolding clause_turn
  case_go rest c r ss m q e l = clause_step h cs ∙ rw (m, q, e, l) refl

  default_colon : (rest : List Tok) (f : ReadError) → after_mark marks.Case cs.2 ≡ None → after_mark marks.Default cs.2 ≡ Some rest → need marks.Colon rest ≡ Err f → loop (clause_turn h (statement_at h)) cs ≡ Err f
  unfolding clause_turn
  default_colon rest f m k e = clause_step h cs ∙ rw (m, k, e) refl

  default_bad : (rest : List Tok) (r : Place × List Tok) (f : ReadError) → after_mark marks.Case cs.2 ≡ None → after_mark marks.Default cs.2 ≡ Some rest → need marks.Colon rest ≡ Ok r → list_at (statement_at h) r.1 ≡ Err f → loop (clause_turn h (statement_at h)) cs ≡ Err f
  unfolding clause_turn
  default_bad rest r f m k e l = clause_step h cs ∙ rw (m, k, e, l) refl

  pub default_broken : (rest : List Tok) (f : ReadError) → after_mark marks.Case cs.2 ≡ None → after_mark marks.Default cs.2 ≡ Some rest → clause_body_at (statement_at h) rest ≡ Err f → loop (clause_turn h (statement_at h)) cs ≡ Err f
  default_broken rest f m k b = on_err (need marks.Colon rest) _ f b (λ e. default_colon rest f m k e) (λ r e l. default_bad rest r f m k e l)

  default_go : (rest : List Tok) (r : Place × List Tok) (ss : Found Statements) → after_mark marks.Case cs.2 ≡ None → after_mark marks.Default cs.2 ≡ Some rest → need marks.Colon rest ≡ Ok r → list_at (statement_at h) r.1 ≡ Ok ss → loop (clause_turn h (statement_at h)) cs ≡ loop (clause_turn h (statement_at h)) (with_default cs.0 ss.0, max cs.1 ss.1, ss.2)
  unfolding clause_turn
  default_go rest r ss m k e l = clause_step h cs ∙ rw (m, k, e, l) refl

-- the rows of clauses
row_of_clauses : {n : _} (k : rows.Row_of-Clause n) → row_clauses k ≡ clauses_of (rows.items-the_row-Clause n k)
row_of_clauses rows.end_of-Clause = refl
row_of_clauses (rows.more_of-Clause (clauses.Default' shape body) k) = ap (default (row_statements body)) (row_of_clauses k)
row_of_clauses (rows.more_of-Clause (clauses.Case' c shape body) k) = ap (case (comm_of c) (row_statements body)) (row_of_clauses k)

pub select_is : (p : Place) (v : Vec clause_rows.Clause Global) → statement_of (stmts.Select p v) ≡ Select p (clauses_of v.items)
select_is p v = ap (Select p) (row_of_clauses (hidden-the_row-Clause-1 v) ∙ ap clauses_of (rows.items_hidden-the_row-Clause-1 v))

pub push_default : (xs : List clause_rows.Clause) (v : Vec rows.Stmt Global) → clauses_of (xs ++ (clauses.Default v ∷ [])) ≡ with_default (clauses_of xs) (statements_of v.items)
push_default [] v = ap (λ ss. default ss (clauses_of [])) (held v)
push_default (clauses.Default' shape body ∷ xs) v = ap (default (row_statements body)) (push_default xs v)
push_default (clauses.Case' c shape body ∷ xs) v = ap (case (comm_of c) (row_statements body)) (push_default xs v)

pub push_case : (xs : List clause_rows.Clause) (d : Communication) (v : Vec rows.Stmt Global) → clauses_of (xs ++ (clauses.Case d v ∷ [])) ≡ with_case (clauses_of xs) (comm_of d) (statements_of v.items)
push_case [] d v = ap (λ ss. case (comm_of d) ss (clauses_of [])) (held v)
push_case (clauses.Default' shape body ∷ xs) d v = ap (default (row_statements body)) (push_case xs d v)
push_case (clauses.Case' c shape body ∷ xs) d v = ap (case (comm_of c) (row_statements body)) (push_case xs d v)

-- a turn that adds a clause, as the code does it
pub default_pushed : (h : ℕ) (xs items : List clause_rows.Clause) (v : Vec rows.Stmt Global) (k high j : ℕ) (ts mid rest : List Tok)
    → after_mark marks.Case ts ≡ None → after_mark marks.Default ts ≡ Some mid → clause_body_at (statement_at h) mid ≡ Ok (statements_of v.items, j, rest)
    → items ≡ xs ++ (clauses.Default v ∷ []) → high ≡ max k j
    → loop (clause_turn h (statement_at h)) (clauses_of xs, k, ts) ≡ loop (clause_turn h (statement_at h)) (clauses_of items, high, rest)
default_pushed h xs items v k high j ts mid rest m d b is top =
    on_ok (need marks.Colon mid) _ (statements_of v.items, j, rest) b (λ r e l.
    default_go h (clauses_of xs, k, ts) mid r (statements_of v.items, j, rest) m d e l ∙ sym (rw (is, top, push_default xs v) refl))

pub case_pushed : (h : ℕ) (xs items : List clause_rows.Clause) (d : Communication) (v : Vec rows.Stmt Global) (k high n i j : ℕ) (ts mid colon rest : List Tok)
    → after_mark marks.Case ts ≡ Some mid → comm_at h mid ≡ Ok (comm_of d, i, colon) → clause_body_at (statement_at h) colon ≡ Ok (statements_of v.items, j, rest)
    → items ≡ xs ++ (clauses.Case d v ∷ []) → high ≡ max k n → n ≡ max i j
    → loop (clause_turn h (statement_at h)) (clauses_of xs, k, ts) ≡ loop (clause_turn h (statement_at h)) (clauses_of items, high, rest)
case_pushed h xs items d v k high n i j ts mid colon rest m q b is top parts =
    on_ok (need marks.Colon colon) _ (statements_of v.items, j, rest) b (λ r e l.
    case_go h (clauses_of xs, k, ts) mid (comm_of d, i, colon) r (statements_of v.items, j, rest) m q e l ∙ sym (rw (is, top, parts, push_case xs d v) refl))

pub if_else_if_is : (p : Place) (c : code_if.IfHead) (v : Vec rows.Stmt Global) (s : Statement) → IfElseIf p (if_of c) (row_statements (hidden-the_row-Stmt-0 v)) s ≡ IfElseIf p (if_of c) (statements_of v.items) s
if_else_if_is p c v s = ap (λ ss. IfElseIf p (if_of c) ss s) (held v)

-- what was read took tokens
pub body_shorter : (h : ℕ) (ts rest : List Token) (ss : Statements) (k : ℕ) → clause_body_at (statement_at h) (tokens_of ts) ≡ Ok (ss, k, tokens_of rest) → length rest < length ts
body_shorter h ts rest ss k q =
    on_ok (need marks.Colon (tokens_of ts)) _ (ss, k, tokens_of rest) q (λ r e l.
    omega (arith, tokens_length ts, tokens_length rest, ap length (need_is marks.Colon (tokens_of ts) r e), list_shrunk (list_sound h (statement_at h) (statement_sound h) r.1 (ss, k, tokens_of rest) l).spelled))

pub comm_shorter : (h : ℕ) (ts rest : List Token) (c : Comm) (k : ℕ) → comm_at h (tokens_of ts) ≡ Ok (c, k, tokens_of rest) → length rest < length ts
comm_shorter h ts rest c k q = omega (arith, tokens_length ts, tokens_length rest, comm_shrunk (comm_sound h (tokens_of ts) (c, k, tokens_of rest) q).spelled)

-- a turn that adds a statement, as the code does it
pub list_pushed : (h : ℕ) (xs items : List rows.Stmt) (x : rows.Stmt) (k high j : ℕ) (ts after rest : List Tok)
    → stops_at ts ≡ false → after_mark marks.Semicolon ts ≡ None → statement_at h ts ≡ Ok (statement_of x, j, after) → past_semicolon after ≡ Ok rest
    → items ≡ xs ++ (x ∷ []) → high ≡ max k j
    → loop (list_turn (statement_at h)) (statements_of xs, k, ts) ≡ loop (list_turn (statement_at h)) (statements_of items, high, rest)
list_pushed h xs items x k high j ts after rest m e q p is top =
    list_go h (statements_of xs, k, ts) m e (statement_of x, j, after) rest q p ∙ sym (rw (is, top, statements_push xs x) refl)
