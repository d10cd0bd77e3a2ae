-- A statement takes a token at least.
use Rattle.std.proofs.Common.{◌≡◌, ◌<◌, ◌≤◌, List, length, ap, arith}
use Rattle.std.specs.Prelude.{Option, Ok}
use Rattle.gr_scan.specs.declared.token.Place.{Place}
use Rattle.gr_scan.specs.declared.token.Mark.TheVariants as marks
use Rattle.gr_scan.specs.Tokens.{Tok}
use Rattle.gr_tree.specs.Exprs.{Tree}
use Rattle.gr_tree.specs.Statements.{Simple, Act, Heading, IfHead, ForHead, Comm, Statement, Statements, Clauses}
use Rattle.gr_syntax.specs.Grammar.{SpellsExpr}
use Rattle.gr_syntax.specs.StatementGrammar as grammar
use Rattle.gr_syntax.specs.StatementGrammar.{SpellsSimple, SpellsAct, SpellsHeading, SpellsPart, missing, there, SpellsIfHead, SpellsPost, SpellsForHead, SpellsReceive, SpellsComm, SpellsStatement, SpellsIf, SpellsList, SpellsBlock, SpellsClauses}
use Rattle.gr_syntax.specs.Reading.{need}
use Rattle.gr_syntax.specs.StatementReading.{past_semicolon}
use Rattle.gr_syntax.proofs.Cases.{ok_inj, on_ok, on_look, need_is}
use Rattle.gr_syntax.specs.Grammar.{after_mark}
use Rattle.gr_syntax.proofs.Names.{names_shrunk}
use Rattle.gr_syntax.proofs.WrittenTypes.{type_shrinks}
use Rattle.gr_syntax.proofs.Sizes.{unary_shrinks, expr_shrinks, exprs_shrunk}

pub simple_shrunk : {s : Simple} {ts rest : List Tok} → SpellsSimple s ts rest → length rest < length ts
simple_shrunk (grammar.eval d) = expr_shrinks d
simple_shrunk (grammar.send d de) = omega (arith, expr_shrinks d, expr_shrinks de)
simple_shrunk (grammar.assign d ds) = omega (arith, names_shrunk d, exprs_shrunk ds)
simple_shrunk (grammar.define d ds) = omega (arith, names_shrunk d, exprs_shrunk ds)
simple_shrunk (grammar.update m d) = omega (arith, expr_shrinks d)
simple_shrunk grammar.increment = omega arith
simple_shrunk grammar.decrement = omega arith

pub act_shrunk : {a : Act} {ts rest : List Tok} → SpellsAct a ts rest → length rest < length ts
act_shrunk (grammar.plain d) = simple_shrunk d
act_shrunk (grammar.var d dt) = omega (arith, names_shrunk d, type_shrinks dt)
act_shrunk (grammar.var_typed d dt ds) = omega (arith, names_shrunk d, type_shrinks dt, exprs_shrunk ds)
act_shrunk (grammar.var_values d ds) = omega (arith, names_shrunk d, exprs_shrunk ds)
act_shrunk (grammar.go d) = omega (arith, unary_shrinks d)
act_shrunk grammar.return_none = omega arith
act_shrunk (grammar.return d) = omega (arith, expr_shrinks d)
act_shrunk grammar.break_none = omega arith
act_shrunk grammar.break = omega arith
act_shrunk grammar.continue_none = omega arith
act_shrunk grammar.continue = omega arith

pub heading_shrunk : {i : Heading} {ts rest : List Tok} → SpellsHeading i ts rest → length rest < length ts
heading_shrunk (grammar.heads d) = simple_shrunk d

heading_part : {i : Option Heading} {ts rest : List Tok} → SpellsPart SpellsHeading i ts rest → length rest ≤ length ts
heading_part missing = omega arith
heading_part (there d) = omega (arith, heading_shrunk d)

pub if_head_shrunk : {c : IfHead} {ts rest : List Tok} → SpellsIfHead c ts rest → length rest ≤ length ts
if_head_shrunk (grammar.test d) = omega (arith, expr_shrinks d)
if_head_shrunk (grammar.part_test d de) = omega (arith, heading_part d, expr_shrinks de)

condition_part : {c : Option Tree} {ts rest : List Tok} → SpellsPart (SpellsExpr 1) c ts rest → length rest ≤ length ts
condition_part missing = omega arith
condition_part (there d) = omega (arith, expr_shrinks d)

post_part : {s : Option Heading} {ts rest : List Tok} → SpellsPart SpellsPost s ts rest → length rest ≤ length ts
post_part missing = omega arith
post_part (there (grammar.post k d)) = omega (arith, heading_shrunk d)

pub for_head_shrunk : {c : ForHead} {ts rest : List Tok} → SpellsForHead c ts rest → length rest ≤ length ts
for_head_shrunk (grammar.while d) = condition_part d
for_head_shrunk (grammar.parts d dc ds) = omega (arith, heading_part d, condition_part dc, post_part ds)
for_head_shrunk (grammar.range d) = omega (arith, expr_shrinks d)
for_head_shrunk (grammar.range_old d) = omega (arith, expr_shrinks d)
for_head_shrunk (grammar.range_new d) = omega (arith, expr_shrinks d)

pub receive_shrunk : {e : Tree} {ts rest : List Tok} → SpellsReceive e ts rest → length rest < length ts
receive_shrunk (grammar.receive d) = omega (arith, unary_shrinks d)
receive_shrunk (grammar.receive_paren d) = omega (arith, receive_shrunk d)

pub comm_shrunk : {c : Comm} {ts rest : List Tok} → SpellsComm c ts rest → length rest < length ts
comm_shrunk (grammar.send_case d de) = omega (arith, expr_shrinks d, expr_shrinks de)
comm_shrunk (grammar.receive_case d) = receive_shrunk d
comm_shrunk (grammar.assign_case d le de) = omega (arith, names_shrunk d, receive_shrunk de)
comm_shrunk (grammar.define_case d le de) = omega (arith, names_shrunk d, receive_shrunk de)

mutual
  pub statement_shrunk : {s : Statement} {ts rest : List Tok} → SpellsStatement s ts rest → length rest < length ts
  statement_shrunk (grammar.does d) = act_shrunk d
  statement_shrunk (grammar.block d) = block_shrunk d
  statement_shrunk (grammar.branch d) = if_shrunk d
  statement_shrunk (grammar.for d b) = omega (arith, for_head_shrunk d, block_shrunk b)
  statement_shrunk (grammar.select d) = omega (arith, clauses_shrunk d)
  statement_shrunk (grammar.label d) = omega (arith, statement_shrunk d)
  statement_shrunk grammar.empty_label = omega arith

  pub if_shrunk : {s : Statement} {ts rest : List Tok} → SpellsIf s ts rest → length rest < length ts
  if_shrunk (grammar.if d b) = omega (arith, if_head_shrunk d, block_shrunk b)
  if_shrunk (grammar.if_else d b e) = omega (arith, if_head_shrunk d, block_shrunk b, block_shrunk e)
  if_shrunk (grammar.if_else_if d b e) = omega (arith, if_head_shrunk d, block_shrunk b, if_shrunk e)

  pub list_shrunk : {ss : Statements} {ts rest : List Tok} → SpellsList ss ts rest → length rest ≤ length ts
  list_shrunk grammar.ends = omega arith
  list_shrunk (grammar.empty d) = omega (arith, list_shrunk d)
  list_shrunk (grammar.one d ds) = omega (arith, statement_shrunk d, list_shrunk ds)
  list_shrunk (grammar.final d) = omega (arith, statement_shrunk d)

  pub block_shrunk : {ss : Statements} {q : Place} {ts rest : List Tok} → SpellsBlock ss q ts rest → length rest < length ts
  block_shrunk (grammar.braces d) = omega (arith, list_shrunk d)

  pub clauses_shrunk : {cs : Clauses} {ts rest : List Tok} → SpellsClauses cs ts rest → length rest ≤ length ts
  clauses_shrunk grammar.no_clause = omega arith
  clauses_shrunk (grammar.default_clause d ds) = omega (arith, list_shrunk d, clauses_shrunk ds)
  clauses_shrunk (grammar.case_clause c d ds) = omega (arith, comm_shrunk c, list_shrunk d, clauses_shrunk ds)

pub past_shrinks : (ts rest : List Tok) → past_semicolon ts ≡ Ok rest → length rest ≤ length ts
unfolding past_semicolon
past_shrinks ts rest q =
    on_look (after_mark marks.RightBrace ts) _ _ (Ok rest) q
    (λ tail m q. let same : ts ≡ rest = ok_inj q in omega (arith, ap length same))
    (λ m q. on_ok (need marks.Semicolon ts) _ rest q (λ r er q. let same : r.1 ≡ rest = ok_inj q in omega (arith, ap length (need_is marks.Semicolon ts r er), ap length same)))
