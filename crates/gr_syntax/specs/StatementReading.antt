-- What the parser's functions read of headings, of what a clause of a select waits for, and of statements, as functions on
-- lists of tokens. It is a stepping stone of the proofs: no public clause speaks of it.
use Rattle.std.specs.Prelude.{ℕ, zero, suc, ◌+◌, max, Bool, true, false, List, [], ◌∷◌, Option, Some, None, Result, Ok, Err, if◌then◌else◌}
use Rattle.gr_scan.specs.declared.token.Place.{Place}
use Rattle.gr_scan.specs.declared.token.Mark.TheVariants as marks
use Rattle.gr_scan.specs.Tokens.{Tok}
use Rattle.gr_tree.specs.declared.expr.UnaryOp.TheVariants as unaries
use Rattle.gr_tree.specs.Exprs.{Tree, Number, Text, Name, UnitValue, Paren, Call, Make, MakeSized, Unary, Binary}
use Rattle.gr_tree.specs.Statements.{Act, Plain, Break, Continue, Heading, Heads, IfHead, Test, Target, Nothing, Old, New, ForHead, Loop, Range, Comm, SendTo, Receive, AssignTo, DefineAs, Statement, Does, Block, If, IfElse, IfElseIf, For, Select, Label, EmptyLabel, Statements, end, then, Clauses, closed, default, case}
use Rattle.gr_syntax.specs.declared.opening.Keyword.{Keyword}
use Rattle.gr_syntax.specs.declared.opening.Keyword.TheVariants as keywords
use Rattle.gr_syntax.specs.Grammar.{after_mark}
use Rattle.gr_syntax.specs.Reading.{ReadError, Wrong, High, Found, Reads, ◌>>=◌, Turn, loop, match_after, operator_at, name_at, need, expr_at, operand_at}
use Rattle.gr_syntax.specs.Reading as reading
use Rattle.gr_syntax.specs.SimpleReading.{keyword_of, done_at, stops_at, place_at, bare, simple_after, var_at, go_at, return_at, jump_at}

unfoldable pub heading_after : ℕ → Bool → Place → Found Tree → Reads Heading
heading_after h may p e = simple_after h may e >>= λ s. Ok (Heads p s.0, s.1, s.2)

unfoldable pub tested : ℕ → Option Heading → ℕ → List Tok → Reads IfHead
tested h init k ts = expr_at h 1 ts >>= λ e. Ok (Test init e.0, max k e.1, e.2)

-- after the first expression of the heading of an if
unfoldable pub if_after : ℕ → Place → Found Tree → Reads IfHead
if_after h p e = match_after (after_mark marks.LeftBrace e.2)
    (λ rest. Ok (Test None e.0, e.1, e.2))
    (heading_after h true p e >>= λ i. need marks.Semicolon i.2 >>= λ r. tested h (Some i.0) i.1 r.1)

-- what stands between `if` and its block, of height at most h
unfoldable pub if_head_at : ℕ → List Tok → Reads IfHead
if_head_at h ts = match_after (after_mark marks.Semicolon ts)
    (λ rest. tested h None 0 rest)
    (place_at ts >>= λ p. expr_at h 1 ts >>= λ e. if_after h p e)

unfoldable pub ranged : ℕ → Target → List Tok → Reads ForHead
ranged h target ts = expr_at h 1 ts >>= λ e. Ok (Range target e.0, e.1, e.2)

unfoldable pub condition_at : ℕ → List Tok → Reads (Option Tree)
condition_at h ts = match_after (after_mark marks.Semicolon ts)
    (λ rest. Ok (None, 0, ts))
    (expr_at h 1 ts >>= λ e. Ok (Some e.0, e.1, e.2))

-- the third part of a for, before its block
unfoldable pub post_at : ℕ → List Tok → Reads (Option Heading)
post_at h ts = match_after (after_mark marks.LeftBrace ts)
    (λ rest. Ok (None, 0, ts))
    (place_at ts >>= λ p. expr_at h 1 ts >>= λ e. heading_after h false p e >>= λ s. Ok (Some s.0, s.1, s.2))

-- after the first semicolon of a for
unfoldable pub parts_at : ℕ → Option Heading → ℕ → List Tok → Reads ForHead
parts_at h init k ts = condition_at h ts >>= λ c. need marks.Semicolon c.2 >>= λ r. post_at h r.1 >>= λ s. Ok (Loop init c.0 s.0, max k (max c.1 s.1), s.2)

-- `=` or `:=`, and then `range`
unfoldable pub target_at : List ℕ → List Tok → Option (Target × List Tok)
target_at x ts = match_after (after_mark marks.Assign ts)
    (λ mid. match_after (after_mark marks.Range mid) (λ rest. Some (Old x, rest)) None)
    (match_after (after_mark marks.Define ts)
    (λ mid. match_after (after_mark marks.Range mid) (λ rest. Some (New x, rest)) None)
    None)

-- a for of three parts, after its first expression
unfoldable pub for_init : ℕ → Place → Found Tree → Reads ForHead
for_init h p e = heading_after h true p e >>= λ i. need marks.Semicolon i.2 >>= λ r. parts_at h (Some i.0) i.1 r.1

-- after this name at the beginning of the heading of a for
unfoldable pub for_named : ℕ → Place → Found Tree → List ℕ → Reads ForHead
for_named h p e x = match_after (target_at x e.2) (λ t. ranged h t.0 t.1) (for_init h p e)

-- after the first expression of the heading of a for
unfoldable pub for_after : ℕ → Place → Found Tree → Reads ForHead
for_after h p e = match_after (after_mark marks.LeftBrace e.2)
    (λ rest. Ok (Loop None (Some e.0) None, e.1, e.2))
    (match_after (bare e.0) (λ x. for_named h p e x) (for_init h p e))

-- what stands between `for` and its block, of height at most h
unfoldable pub for_head_at : ℕ → List Tok → Reads ForHead
for_head_at h ts = match_after (after_mark marks.LeftBrace ts)
    (λ rest. Ok (Loop None None None, 0, ts))
    (match_after (after_mark marks.Range ts)
    (λ rest. ranged h Nothing rest)
    (match_after (after_mark marks.Semicolon ts)
    (λ rest. parts_at h None 0 rest)
    (place_at ts >>= λ p. expr_at h 1 ts >>= λ e. for_after h p e)))

abbrev pub is_receive : Tree → Bool
is_receive (Unary unaries.Receive e) = true
is_receive (Unary op e) = false
is_receive (Paren e) = is_receive e
is_receive (Number n) = false
is_receive (Text s) = false
is_receive (Name x) = false
is_receive UnitValue = false
is_receive (Call f es) = false
is_receive (Make t) = false
is_receive (MakeSized t e) = false
is_receive (Binary op a b) = false

-- a receive in parentheses or not, of height at most h
unfoldable pub receive_at : ℕ → List Tok → Reads Tree
receive_at zero ts = Err High
receive_at (suc h) ts = match_after (after_mark marks.LeftParen ts)
    (λ rest. receive_at h rest >>= λ e. need marks.RightParen e.2 >>= λ r. Ok (Paren e.0, e.1 + 1, r.1))
    (match_after (after_mark marks.Arrow ts) (λ rest. operand_at h ts) (Err Wrong))

-- after the names of a receive in a select
unfoldable pub received_at : ℕ → List (List ℕ) → List Tok → Reads Comm
received_at h xs ts = match_after (after_mark marks.Define ts)
    (λ rest. receive_at h rest >>= λ e. Ok (DefineAs xs e.0, e.1, e.2))
    (need marks.Assign ts >>= λ r. receive_at h r.1 >>= λ e. Ok (AssignTo xs e.0, e.1, e.2))

unfoldable pub comm_names : ℕ → List ℕ → List Tok → Reads Comm
comm_names h x ts = match_after (after_mark marks.Comma ts)
    (λ rest. name_at rest >>= λ y. received_at h (x ∷ y.0 ∷ []) y.1)
    (received_at h (x ∷ []) ts)

abbrev pub comm_alone : Found Tree → Reads Comm
comm_alone e = if is_receive e.0 then Ok (Receive e.0, e.1, e.2) else Err Wrong

abbrev pub comm_sent : ℕ → Found Tree → List Tok → Reads Comm
comm_sent h c ts = expr_at h 1 ts >>= λ e. Ok (SendTo c.0 e.0, max c.1 e.1, e.2)

unfoldable pub comm_after : ℕ → Found Tree → Reads Comm
comm_after h c = match_after (after_mark marks.Arrow c.2)
    (λ rest. comm_sent h c rest)
    (match_after (bare c.0) (λ x. comm_names h x c.2) (comm_alone c))

-- what a clause waits for, of height at most h
unfoldable pub comm_at : ℕ → List Tok → Reads Comm
comm_at h ts = expr_at h 1 ts >>= λ e. comm_after h e

-- past the semicolon that ends a statement; none is needed before `}`
unfoldable pub past_semicolon : List Tok → Result (List Tok) ReadError
past_semicolon ts = match_after (after_mark marks.RightBrace ts) (λ rest. Ok ts) (need marks.Semicolon ts >>= λ r. Ok r.1)

abbrev pub added : Statements → Statement → Statements
added end x = (then) x end
added ((then) s ss) x = (then) s (added ss x)

abbrev pub list_more : (List Tok → Reads Statement) → Found Statements → Result (Turn (Found Statements)) ReadError
list_more rec ss = match_after (after_mark marks.Semicolon ss.2)
    (λ rest. Ok (reading.Go (ss.0, ss.1, rest)))
    (rec ss.2 >>= λ s. past_semicolon s.2 >>= λ rest. Ok (reading.Go (added ss.0 s.0, max ss.1 s.1, rest)))

unfoldable pub list_turn : (List Tok → Reads Statement) → Found Statements → Result (Turn (Found Statements)) ReadError
list_turn rec ss = if stops_at ss.2 then Ok (reading.Stop ss) else list_more rec ss

-- statements up to a `}` or to the next clause of a select
unfoldable pub list_at : (List Tok → Reads Statement) → List Tok → Reads Statements
list_at rec ts = loop (list_turn rec) (end, 0, ts)

-- a block: its statements, and the place of its closing brace
unfoldable pub block_at : (List Tok → Reads Statement) → List Tok → Reads (Statements × Place)
block_at rec ts = need marks.LeftBrace ts >>= λ a. list_at rec a.1 >>= λ ss. need marks.RightBrace ss.2 >>= λ b. Ok ((ss.0, b.0), ss.1, b.1)

-- after the `else` of an if with this head and this block
unfoldable pub else_at : (List Tok → Reads Statement) → Place → Found IfHead → Found (Statements × Place) → List Tok → Reads Statement
else_at rec p c b ts = match_after (after_mark marks.If ts)
    (λ rest. rec ts >>= λ s. Ok (IfElseIf p c.0 b.0.0 s.0, max c.1 (max b.1 s.1) + 1, s.2))
    (block_at rec ts >>= λ d. Ok (IfElse p c.0 b.0.0 d.0.0, max c.1 (max b.1 d.1) + 1, d.2))

-- after `if`
unfoldable pub if_at : ℕ → (List Tok → Reads Statement) → Place → List Tok → Reads Statement
if_at h rec p ts = if_head_at h ts >>= λ c. block_at rec c.2 >>= λ b. match_after (after_mark marks.Else b.2)
    (λ rest. else_at rec p c b rest)
    (Ok (If p c.0 b.0.0, max c.1 b.1 + 1, b.2))

-- after `for`
unfoldable pub for_at : ℕ → (List Tok → Reads Statement) → Place → List Tok → Reads Statement
for_at h rec p ts = for_head_at h ts >>= λ c. block_at rec c.2 >>= λ b. Ok (For p c.0 b.0.0, max c.1 b.1 + 1, b.2)

abbrev pub with_default : Clauses → Statements → Clauses
with_default closed ss = default ss closed
with_default (default body others) ss = default body (with_default others ss)
with_default (case comm body others) ss = case comm body (with_default others ss)

abbrev pub with_case : Clauses → Comm → Statements → Clauses
with_case closed c ss = case c ss closed
with_case (default body others) c ss = default body (with_case others c ss)
with_case (case comm body others) c ss = case comm body (with_case others c ss)

-- what a clause does, from its colon on
abbrev pub clause_body_at : (List Tok → Reads Statement) → List Tok → Reads Statements
clause_body_at rec ts = need marks.Colon ts >>= λ r. list_at rec r.1

abbrev pub case_at : ℕ → (List Tok → Reads Statement) → Found Clauses → List Tok → Result (Turn (Found Clauses)) ReadError
case_at h rec cs ts = comm_at h ts >>= λ c. need marks.Colon c.2 >>= λ r. list_at rec r.1 >>= λ ss. Ok (reading.Go (with_case cs.0 c.0 ss.0, max cs.1 (max c.1 ss.1), ss.2))

abbrev pub default_at : (List Tok → Reads Statement) → Found Clauses → List Tok → Result (Turn (Found Clauses)) ReadError
default_at rec cs ts = need marks.Colon ts >>= λ r. list_at rec r.1 >>= λ ss. Ok (reading.Go (with_default cs.0 ss.0, max cs.1 ss.1, ss.2))

unfoldable pub clause_turn : ℕ → (List Tok → Reads Statement) → Found Clauses → Result (Turn (Found Clauses)) ReadError
clause_turn h rec cs = match_after (after_mark marks.Case cs.2)
    (λ rest. case_at h rec cs rest)
    (match_after (after_mark marks.Default cs.2)
    (λ rest. default_at rec cs rest)
    (Ok (reading.Stop cs)))

unfoldable pub clauses_at : ℕ → (List Tok → Reads Statement) → List Tok → Reads Clauses
clauses_at h rec ts = loop (clause_turn h rec) (closed, 0, ts)

-- after `select`
unfoldable pub select_at : ℕ → (List Tok → Reads Statement) → Place → List Tok → Reads Statement
select_at h rec p ts = need marks.LeftBrace ts >>= λ a. clauses_at h rec a.1 >>= λ cs. need marks.RightBrace cs.2 >>= λ r. Ok (Select p cs.0, cs.1 + 1, r.1)

abbrev pub placed : Place → Found Act → Found Statement
placed p a = (Does p a.0, a.1, a.2)

-- after a label and its colon
unfoldable pub labelled_at : (List Tok → Reads Statement) → Place → List ℕ → List Tok → Reads Statement
labelled_at rec p x ts = if done_at ts then Ok (EmptyLabel p x, 1, ts) else (rec ts >>= λ s. Ok (Label p x s.0, s.1 + 1, s.2))

-- a simple statement that begins with this expression, as a statement
unfoldable pub plain_after : ℕ → Place → Found Tree → Reads Statement
plain_after h p e = simple_after h true e >>= λ s. Ok (placed p (Plain s.0, s.1, s.2))

-- after this name at the beginning of a statement
unfoldable pub name_open : ℕ → (List Tok → Reads Statement) → Place → Found Tree → List ℕ → Reads Statement
name_open h rec p e x = match_after (after_mark marks.Colon e.2) (λ rest. labelled_at rec p x rest) (plain_after h p e)

unfoldable pub open_after : ℕ → (List Tok → Reads Statement) → Place → Found Tree → Reads Statement
open_after h rec p e = match_after (bare e.0) (λ x. name_open h rec p e x) (plain_after h p e)

-- a statement that begins with no keyword
unfoldable pub open_at : ℕ → (List Tok → Reads Statement) → Place → List Tok → Reads Statement
open_at h rec p ts = expr_at h 1 ts >>= λ e. open_after h rec p e

-- a block where a statement stands
unfoldable pub braced_at : (List Tok → Reads Statement) → Place → List Tok → Reads Statement
braced_at rec p ts = block_at rec ts >>= λ b. Ok (Block p b.0.0, b.1 + 1, b.2)

-- a statement after its keyword; its parts are of height at most h
unfoldable pub keyed_at : ℕ → (List Tok → Reads Statement) → Place → Keyword → List Tok → List Tok → Reads Statement
keyed_at h rec p keywords.Var from ts = var_at (suc h) ts >>= λ a. Ok (placed p a)
keyed_at h rec p keywords.Go from ts = go_at (suc h) ts >>= λ a. Ok (placed p a)
keyed_at h rec p keywords.Return from ts = return_at (suc h) ts >>= λ a. Ok (placed p a)
keyed_at h rec p keywords.Break from ts = jump_at Break ts >>= λ a. Ok (placed p a)
keyed_at h rec p keywords.Continue from ts = jump_at Continue ts >>= λ a. Ok (placed p a)
keyed_at h rec p keywords.Block from ts = braced_at rec p from
keyed_at h rec p keywords.If from ts = if_at h rec p ts
keyed_at h rec p keywords.For from ts = for_at h rec p ts
keyed_at h rec p keywords.Select from ts = select_at h rec p ts

-- a statement of height at most h + 1, whose parts the recursion reads
unfoldable pub tier_at : ℕ → (List Tok → Reads Statement) → List Tok → Reads Statement
tier_at h rec ts = place_at ts >>= λ p. match_after (operator_at keyword_of ts)
    (λ k. keyed_at h rec p k.0 ts k.1)
    (open_at (suc h) rec p ts)

-- a statement of height at most h
unfoldable pub statement_at : ℕ → List Tok → Reads Statement
statement_at zero ts = Err High
statement_at (suc h) ts = tier_at h (statement_at h) ts
