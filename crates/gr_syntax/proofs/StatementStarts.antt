-- What a statement begins with, and that it has a level at least.
use Rattle.std.proofs.Common.{◌≡◌, ℕ, ◌<◌, false, List, refl, arith}
use Rattle.std.specs.Prelude.{None}
use Rattle.gr_scan.specs.declared.token.Place.{Place}
use Rattle.gr_scan.specs.declared.token.Mark.TheVariants as marks
use Rattle.gr_scan.specs.Tokens.{Tok}
use Rattle.gr_tree.specs.Statements.{Simple, Act, Plain, Var, VarValues, Go, Return, Break, Continue, Statement, Does, Block, If, IfElse, IfElseIf, For, Select, Label, EmptyLabel, Statements, Eval, Send, Assign, Define, Update, Increment, Decrement, simple_height, act_height, statement_height}
use Rattle.gr_syntax.specs.Grammar.{SpellsNames, last_name, comma_name, after_mark}
use Rattle.gr_syntax.specs.StatementGrammar as grammar
use Rattle.gr_syntax.specs.StatementGrammar.{SpellsSimple, SpellsAct, SpellsStatement, SpellsIf, SpellsBlock}
use Rattle.gr_syntax.specs.SimpleReading.{done_at, stops_at}
use Rattle.gr_syntax.proofs.CompleteSimple.{Opened, expr_opened}

-- a statement has a level at least
simple_pos : (s : Simple) → 0 < simple_height s
simple_pos (Eval e) = omega arith
simple_pos (Send c e) = omega arith
simple_pos (Assign xs es) = omega arith
simple_pos (Define xs es) = omega arith
simple_pos (Update x op e) = omega arith
simple_pos (Increment x) = omega arith
simple_pos (Decrement x) = omega arith

act_pos : (a : Act) → 0 < act_height a
act_pos (Plain s) = simple_pos s
act_pos (Var xs t) = omega arith
act_pos (VarValues xs t es) = omega arith
act_pos (Go f es) = omega arith
act_pos (Return e) = omega arith
act_pos (Break x) = omega arith
act_pos (Continue x) = omega arith

pub statement_pos : (s : Statement) → 0 < statement_height s
statement_pos (Does p a) = act_pos a
statement_pos (Block p ss) = omega arith
statement_pos (If p c ss) = omega arith
statement_pos (IfElse p c ss es) = omega arith
statement_pos (IfElseIf p c ss e) = omega arith
statement_pos (For p c ss) = omega arith
statement_pos (Select p cs) = omega arith
statement_pos (Label p x s) = omega arith
statement_pos (EmptyLabel p x) = omega arith

-- what a statement does not begin with
pub record Starts (ts : List Tok) : Type 0 where
  pub stops : stops_at ts ≡ false
  pub semicolon : after_mark marks.Semicolon ts ≡ None
  pub done : done_at ts ≡ false

from_opened : {ts : List Tok} → Opened ts → Starts ts
from_opened o = record { stops = o.stops; semicolon = o.semicolon; done = o.done }

names_start : {xs : List (List ℕ)} {ts rest : List Tok} → SpellsNames xs ts rest → Starts ts
unfolding stops_at after_mark done_at
names_start last_name = record { stops = refl; semicolon = refl; done = refl }
names_start (comma_name d) = record { stops = refl; semicolon = refl; done = refl }

simple_starts : {s : Simple} {ts rest : List Tok} → SpellsSimple s ts rest → Starts ts
unfolding stops_at after_mark done_at
simple_starts (grammar.eval d) = from_opened (expr_opened d)
simple_starts (grammar.send d de) = from_opened (expr_opened d)
simple_starts (grammar.assign d ds) = names_start d
simple_starts (grammar.define d ds) = names_start d
simple_starts (grammar.update m d) = record { stops = refl; semicolon = refl; done = refl }
simple_starts grammar.increment = record { stops = refl; semicolon = refl; done = refl }
simple_starts grammar.decrement = record { stops = refl; semicolon = refl; done = refl }

act_starts : {a : Act} {ts rest : List Tok} → SpellsAct a ts rest → Starts ts
unfolding stops_at after_mark done_at
act_starts (grammar.plain d) = simple_starts d
act_starts (grammar.var d dt) = record { stops = refl; semicolon = refl; done = refl }
act_starts (grammar.var_typed d dt ds) = record { stops = refl; semicolon = refl; done = refl }
act_starts (grammar.var_values d ds) = record { stops = refl; semicolon = refl; done = refl }
act_starts (grammar.go d) = record { stops = refl; semicolon = refl; done = refl }
act_starts grammar.return_none = record { stops = refl; semicolon = refl; done = refl }
act_starts (grammar.return d) = record { stops = refl; semicolon = refl; done = refl }
act_starts grammar.break_none = record { stops = refl; semicolon = refl; done = refl }
act_starts grammar.break = record { stops = refl; semicolon = refl; done = refl }
act_starts grammar.continue_none = record { stops = refl; semicolon = refl; done = refl }
act_starts grammar.continue = record { stops = refl; semicolon = refl; done = refl }

block_starts : {ss : Statements} {q : Place} {ts rest : List Tok} → SpellsBlock ss q ts rest → Starts ts
unfolding stops_at after_mark done_at
block_starts (grammar.braces d) = record { stops = refl; semicolon = refl; done = refl }

if_starts : {s : Statement} {ts rest : List Tok} → SpellsIf s ts rest → Starts ts
unfolding stops_at after_mark done_at
if_starts (grammar.if d b) = record { stops = refl; semicolon = refl; done = refl }
if_starts (grammar.if_else d b e) = record { stops = refl; semicolon = refl; done = refl }
if_starts (grammar.if_else_if d b e) = record { stops = refl; semicolon = refl; done = refl }

pub statement_starts : {s : Statement} {ts rest : List Tok} → SpellsStatement s ts rest → Starts ts
unfolding stops_at after_mark done_at
statement_starts (grammar.does d) = act_starts d
statement_starts (grammar.block d) = block_starts d
statement_starts (grammar.branch d) = if_starts d
statement_starts (grammar.for d b) = record { stops = refl; semicolon = refl; done = refl }
statement_starts (grammar.select d) = record { stops = refl; semicolon = refl; done = refl }
statement_starts (grammar.label d) = record { stops = refl; semicolon = refl; done = refl }
statement_starts grammar.empty_label = record { stops = refl; semicolon = refl; done = refl }
