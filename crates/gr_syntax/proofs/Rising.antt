-- What expressions, types and simple statements leave stands behind their first token.
use Rattle.std.proofs.Common.{ℕ, ◌+◌, ◌≤◌, List, ◌∷◌, arith}
use Rattle.gr_scan.specs.declared.token.Place.{Place}
use Rattle.gr_scan.specs.Tokens.{Tok, At, Word}
use Rattle.gr_scan.specs.Rising.{RiseFrom}
use Rattle.gr_scan.proofs.Rising.{rise_earlier}
use Rattle.gr_tree.specs.Exprs.{WrittenType, Tree, Trees}
use Rattle.gr_tree.specs.Statements.{Simple, Act, Comm}
use Rattle.gr_syntax.specs.Grammar.{SpellsType, type_name, type_unit, type_chan, type_send, type_receive, type_paren, SpellsUnary, number, text, name, unit, paren, call_none, call, call_comma, make, make_comma, make_sized, make_sized_comma, unary, SpellsExpr, alone, binary, SpellsExprs, last_expr, comma_expr, SpellsNames, last_name, comma_name}
use Rattle.gr_syntax.specs.StatementGrammar.{SpellsSimple, SpellsAct, SpellsReceive, SpellsComm}
use Rattle.gr_syntax.specs.StatementGrammar as grammar

-- the first token is taken, and more of them perhaps
pub record Takes (ts rest : List Tok) : Type 0 where
  pub rises : (n : ℕ) → RiseFrom n ts → RiseFrom (n + 1) rest

pub one : {p : Place} {w : Word} {ts : List Tok} → Takes (At p w ∷ ts) ts
one {p} {w} {ts} = record { rises = λ n r. let at : n ≤ p.start = r.0 in rise_earlier (n + 1) (p.start + 1) (omega arith) ts r.1 }

pub both : {ts mid rest : List Tok} → Takes ts mid → Takes mid rest → Takes ts rest
both {ts} {mid} {rest} a b =
    record { rises = λ n r. rise_earlier (n + 1) (n + 1 + 1) (omega arith) rest (b.rises (n + 1) (a.rises n r)) }

-- a token before, and a token behind
pub over : {p : Place} {w : Word} {ts rest : List Tok} → Takes ts rest → Takes (At p w ∷ ts) rest
over a = both one a

pub past : {p : Place} {w : Word} {ts rest : List Tok} → Takes ts (At p w ∷ rest) → Takes ts rest
past a = both a one

pub take_type : {t : WrittenType} {ts rest : List Tok} → SpellsType t ts rest → Takes ts rest
take_type type_name = one
take_type type_unit = over (over one)
take_type (type_chan n d) = over (take_type d)
take_type (type_send d) = over (over (take_type d))
take_type (type_receive d) = over (over (take_type d))
take_type (type_paren d) = over (past (take_type d))

mutual
  pub take_unary : {e : Tree} {ts rest : List Tok} → SpellsUnary e ts rest → Takes ts rest
  take_unary number = one
  take_unary text = one
  take_unary name = one
  take_unary unit = over (over (over (over one)))
  take_unary (paren d) = over (past (take_expr d))
  take_unary (call_none b) = over (over one)
  take_unary (call b d) = over (over (past (take_exprs d)))
  take_unary (call_comma b d) = over (over (past (past (take_exprs d))))
  take_unary (make b d) = over (over (past (take_type d)))
  take_unary (make_comma b d) = over (over (past (past (take_type d))))
  take_unary (make_sized b d e) = over (over (both (past (take_type d)) (past (take_expr e))))
  take_unary (make_sized_comma b d e) = over (over (both (past (take_type d)) (past (past (take_expr e)))))
  take_unary (unary d) = over (take_unary d)

  pub take_expr : {l : ℕ} {e : Tree} {ts rest : List Tok} → SpellsExpr l e ts rest → Takes ts rest
  take_expr (alone d) = take_unary d
  take_expr (binary le a b) = both (past (take_expr a)) (take_expr b)

  pub take_exprs : {es : Trees} {ts rest : List Tok} → SpellsExprs es ts rest → Takes ts rest
  take_exprs (last_expr d) = take_expr d
  take_exprs (comma_expr d ds) = both (past (take_expr d)) (take_exprs ds)

pub take_names : {xs : List (List ℕ)} {ts rest : List Tok} → SpellsNames xs ts rest → Takes ts rest
take_names last_name = one
take_names (comma_name d) = over (over (take_names d))

pub take_simple : {s : Simple} {ts rest : List Tok} → SpellsSimple s ts rest → Takes ts rest
take_simple (grammar.eval d) = take_expr d
take_simple (grammar.send d de) = both (past (take_expr d)) (take_expr de)
take_simple (grammar.assign d de) = both (past (take_names d)) (take_exprs de)
take_simple (grammar.define d de) = both (past (take_names d)) (take_exprs de)
take_simple (grammar.update m d) = over (over (take_expr d))
take_simple grammar.increment = over one
take_simple grammar.decrement = over one

pub take_act : {a : Act} {ts rest : List Tok} → SpellsAct a ts rest → Takes ts rest
take_act (grammar.plain d) = take_simple d
take_act (grammar.var d t) = over (both (take_names d) (take_type t))
take_act (grammar.var_typed d t de) = over (both (take_names d) (both (past (take_type t)) (take_exprs de)))
take_act (grammar.var_values d de) = over (both (past (take_names d)) (take_exprs de))
take_act (grammar.go d) = over (take_unary d)
take_act grammar.return_none = one
take_act (grammar.return d) = over (take_expr d)
take_act grammar.break_none = one
take_act grammar.break = over one
take_act grammar.continue_none = one
take_act grammar.continue = over one

pub take_receive : {e : Tree} {ts rest : List Tok} → SpellsReceive e ts rest → Takes ts rest
take_receive (grammar.receive d) = over (take_unary d)
take_receive (grammar.receive_paren d) = over (past (take_receive d))

pub take_comm : {c : Comm} {ts rest : List Tok} → SpellsComm c ts rest → Takes ts rest
take_comm (grammar.send_case d de) = both (past (take_expr d)) (take_expr de)
take_comm (grammar.receive_case d) = take_receive d
take_comm (grammar.assign_case d le de) = both (past (take_names d)) (take_receive de)
take_comm (grammar.define_case d le de) = both (past (take_names d)) (take_receive de)
