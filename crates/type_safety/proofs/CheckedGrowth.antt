-- Statements only add to a scope: an act declares names in its block, every other statement leaves no name behind.
use Rattle.std.proofs.Common.{ℕ, List, Option}
use Rattle.gr_tree.specs.Statements as statements
use Rattle.gr_tree.specs.Statements.{Statement, Statements, Clauses}
use Rattle.gr_program.specs.Programs.{Expr, Opening, Stmts, Cases}
use Rattle.gr_typing.specs.Scopes.{Scope, entered, left}
use Rattle.gr_typing.specs.Statements as judged
use Rattle.gr_typing.specs.Contexts.{Context}
use Rattle.gr_typing.specs.Statements.{IsStatement, IsIfHead, IsBody, AreClauses}
use Rattle.type_safety.proofs.Promises.{Grows}
use Rattle.type_safety.proofs.Growing.{grows_self, grows_trans}
use Rattle.type_safety.proofs.GrowingActs.{act_grows, opening_grows, target_grows, take_all_new_grows}
use Rattle.type_safety.proofs.CheckedScopes.{Widens, grows_wide, widens_itself, widens_twice, left_wide}

-- out of the blocks of a heading and of a body, of two bodies, and of a body and a statement
pub head_wide : (s m n : Scope) → Grows (entered s) m → Grows (entered m) n → Widens s (left (left n))
head_wide s m n g h =
    left_wide s (left n) (grows_trans (entered s) m (left n) g (grows_wide m (left n) (left_wide m n h)))

pub else_if_wide : (s m n o : Scope) → Grows (entered s) m → Grows (entered m) n → Grows (left n) o
    → Widens s (left o)
else_if_wide s m n o g h k =
    left_wide s o
    (grows_trans (entered s) m o g (grows_trans m (left n) o (grows_wide m (left n) (left_wide m n h)) k))

pub else_wide : (s m n o : Scope) → Grows (entered s) m → Grows (entered m) n → Grows (entered (left n)) o
    → Widens s (left (left o))
else_wide s m n o g h k = else_if_wide s m n (left o) g h (grows_wide (left n) (left o) (left_wide (left n) o k))

pub head_grows : {c : Context} {s m : Scope} {head : statements.IfHead} {o : Option Opening} {p : Expr}
    → IsIfHead c s head o p m → Grows s m
head_grows (judged.if_head first test) = opening_grows _ _ _ _ _ first

mutual
  pub statement_grows : {c : Context} {s n : Scope} {label : Option (List ℕ)} {a : Statement} {stmts : Stmts}
      → IsStatement c s label a stmts n → Grows s n
  statement_grows (judged.does h) = act_grows _ _ _ _ _ h
  statement_grows {s = s} (judged.block {n = n} b) = grows_wide s (left n) (left_wide s n (body_grows b))
  statement_grows {s = s} (judged.if {m = m} {n = n} h b) =
      grows_wide s (left (left n)) (head_wide s m n (head_grows h) (body_grows b))
  statement_grows {s = s} (judged.if_else {m = m} {n = n} {o = o} h b e) =
      grows_wide s (left (left o)) (else_wide s m n o (head_grows h) (body_grows b) (body_grows e))
  statement_grows {s = s} (judged.if_else_if {m = m} {n = n} {o = o} h b e) =
      grows_wide s (left o) (else_if_wide s m n o (head_grows h) (body_grows b) (statement_grows e))
  statement_grows {s = s} (judged.for {m = m} {n = n} {o = o} first test plain last b) =
      grows_wide s (left (left o)) (head_wide s n o (grows_trans (entered s) m n (opening_grows _ _ _ _ _ first) (opening_grows _ _ _ _ _ last)) (body_grows b))
  statement_grows {s = s} (judged.range {m = m} {n = n} h may target b) =
      grows_wide s (left (left n)) (head_wide s m n (target_grows _ _ _ _ _ target) (body_grows b))
  statement_grows {s = s} {n = n} (judged.select one h) = grows_wide s n (clauses_widen h)
  statement_grows (judged.label h) = statement_grows h
  statement_grows {s = s} judged.empty_label = grows_self s

  pub body_grows : {c : Context} {s n : Scope} {body : Statements} {stmts : Stmts} → IsBody c s body stmts n
      → Grows s n
  body_grows {s = s} judged.ends = grows_self s
  body_grows {s = s} {n = n} (judged.next {m = m} h rest) = grows_trans s m n (statement_grows h) (body_grows rest)

  pub clauses_widen : {c : Context} {s n : Scope} {clauses : Clauses} {cases : Cases}
      → AreClauses c s clauses cases n → Widens s n
  clauses_widen {s = s} judged.no_clause = widens_itself s
  clauses_widen {s = s} {n = n} (judged.default_clause {m = m} b rest) =
      widens_twice s (left m) n (left_wide s m (body_grows b)) (clauses_widen rest)
  clauses_widen {s = s} {n = n} (judged.send_clause {m = m} h b rest) =
      widens_twice s (left m) n (left_wide s m (body_grows b)) (clauses_widen rest)
  clauses_widen {s = s} {n = n} (judged.receive_clause {m = m} h b rest) =
      widens_twice s (left m) n (left_wide s m (body_grows b)) (clauses_widen rest)
  clauses_widen {s = s} {n = n} (judged.assign_clause {m = m} h taken b rest) =
      widens_twice s (left m) n (left_wide s m (body_grows b)) (clauses_widen rest)
  clauses_widen {s = s} (judged.define_clause {m = m} {n = n} {o = o} h may taken b rest) =
      widens_twice s (left n) o (left_wide s n (grows_trans (entered s) m n (take_all_new_grows _ _ _ _ _ _ taken) (body_grows b))) (clauses_widen rest)
