-- What the checker finds of each form of statement, in the order of the code. It is a stepping stone of the proofs: no public
-- clause speaks of it.
use Rattle.std.specs.Prelude.{ℕ, List, [], ◌∷◌, Option, Some, None, Vec}
use Rattle.std.proofs.Common.{Global}
use Rattle.gr_scan.specs.declared.token.Place.{Place}
use Rattle.gr_tree.specs.Statements as statements
use Rattle.gr_tree.specs.Statements.{Statement, Statements, Clauses, optional, comm_of, row_statements}
use Rattle.gr_tree.specs.declared.stmt.Clause as code_clause
use Rattle.gr_tree.specs.declared.stmt.Clause.TheVariants as clauses
use Rattle.gr_types.specs.declared.headings.IfParts as code_if
use Rattle.gr_types.specs.declared.headings.LoopParts as code_loop
use Rattle.gr_types.specs.declared.headings.RangeParts as code_range
use Rattle.gr_types.specs.declared.headings.ForParts as code_for
use Rattle.gr_types.specs.declared.headings.ForParts.TheVariants as heads
use Rattle.gr_program.specs.declared.program.Stmt as checked_stmt
use Rattle.gr_program.specs.declared.program.Case as code_case
use Rattle.gr_program.specs.Programs.{Expr, Opening, Stmt, Does, Block, If, For, Range, Select, Stmts, stop, then, joined, Cases, default_case}
use Rattle.gr_program.specs.Views.{expr_of, opening_of, stmt_of, stmts_of, case_on}
use Rattle.gr_typing.specs.Scopes.{Scope, entered, left}
use Rattle.gr_typing.specs.Contexts.{Loop, Choice, Context, functions, inside}
use Rattle.gr_typing.specs.Statements.{defaults, at_most_one}
use Rattle.gr_exprs.specs.Finding.{◌>>=◌, where_true}
use Rattle.gr_types.specs.FindingStatements.{Checked, alone, act_in, if_head_in, for_parts, range_parts, comm_in, statement_in, body_in, clauses_in}

-- what stands between `if` or `for` and a block
abbrev pub IfTest : Type 0
IfTest = Option Opening × Expr

abbrev pub if_parts_of : code_if.IfParts → IfTest
if_parts_of p = (optional opening_of p.init, expr_of p.condition)

abbrev pub LoopHead : Type 0
LoopHead = Option Opening × (Option Expr × Option Opening)

abbrev pub loop_parts_of : code_loop.LoopParts → LoopHead
loop_parts_of p = (optional opening_of p.init, (optional expr_of p.condition, optional opening_of p.post))

abbrev pub range_parts_of : code_range.RangeParts → Expr × Option ℕ
range_parts_of p = (expr_of p.channel, p.target)

-- the steps of a statement: a label before an empty statement has none
abbrev pub only_stmt : checked_stmt.Stmt → Stmts
only_stmt s = (then) (stmt_of s) stop

abbrev pub made_of : Option checked_stmt.Stmt → Stmts
made_of None = stop
made_of (Some s) = only_stmt s

abbrev pub does_in : Context → Scope → Place → statements.Act → Option Checked
does_in c s place a = act_in c s a >>= λ d. alone (Does place d.0) d.1

abbrev pub block_in : Context → Scope → Statements → Option Checked
block_in c s body = body_in c (entered s) body >>= λ b. alone (Block b.0) (left b.1)

-- an if as far as its block, and what follows
abbrev pub Tested : Type 0
Tested = IfTest × Stmts

abbrev pub tested_of : code_if.IfParts × Vec checked_stmt.Stmt Global → Tested
tested_of t = (if_parts_of t.0, stmts_of t.1.items)

abbrev pub tested_in : Context → Scope → statements.IfHead → Statements → Option (Tested × Scope)
tested_in c s head body =
    if_head_in (functions c) (entered s) head >>= λ h. body_in c (entered h.1) body >>= λ b. Some ((h.0, b.0), left b.1)

abbrev pub if_in : Context → Scope → Place → statements.IfHead → Statements → Option Checked
if_in c s place head body = tested_in c s head body >>= λ t. alone (If place t.0.0.0 t.0.0.1 t.0.1 stop) (left t.1)

abbrev pub else_in : Context → Place → Statements → Tested → Scope → Option Checked
else_in c place otherwise t s = body_in c (entered s) otherwise >>= λ o. alone (If place t.0.0 t.0.1 t.1 o.0) (left (left o.1))

abbrev pub else_if_in : Context → Place → Statement → Tested → Scope → Option Checked
else_if_in c place otherwise t s = statement_in c s None otherwise >>= λ o. alone (If place t.0.0 t.0.1 t.1 o.0) (left o.1)

-- a loop whose heading is known, by what it makes of the statements of its body; the context is that of the body
abbrev pub loop_in : Context → (Stmts → Stmt) → Statements → Scope → Option Checked
loop_in c form body s = body_in c (entered s) body >>= λ b. alone (form b.0) (left (left b.1))

abbrev pub repeats : Place → LoopHead → Stmts → Stmt
repeats place h body = For place h.0 h.1.0 h.1.1 body

abbrev pub ranges : Place → Expr × Option ℕ → Stmts → Stmt
ranges place h body = Range place h.1 h.0 body

abbrev pub repeated_by : Place → code_for.ForParts → Stmts → Stmt
repeated_by place (heads.Loop p) body = repeats place (loop_parts_of p) body
repeated_by place (heads.Range p) body = ranges place (range_parts_of p) body

abbrev pub for_in : Context → Scope → Option (List ℕ) → Place → statements.ForHead → Statements → Option Checked
for_in c s label place (statements.Loop init condition post) body =
    for_parts (functions c) (entered s) init condition post >>= λ h. loop_in (inside (Loop label) c) (repeats place h.0) body h.1
for_in c s label place (statements.Range target e) body =
    range_parts (functions c) s target e >>= λ h. loop_in (inside (Loop label) c) (ranges place h.0) body h.1

abbrev pub select_in : Context → Scope → Option (List ℕ) → Place → Clauses → Option Checked
select_in c s label place all =
    where_true (at_most_one (defaults all)) s >>= λ s. clauses_in (inside (Choice label) c) s all >>= λ k. alone (Select place k.0) k.1

-- a clause, as what it makes of the cases after it
abbrev pub Cased : Type 0
Cased = (Cases → Cases) × Scope

abbrev pub default_in : Context → Scope → Statements → Option Cased
default_in c s body = body_in c (entered s) body >>= λ b. Some (default_case b.0, left b.1)

abbrev pub case_in : Context → Scope → statements.Comm → Statements → Option Cased
case_in c s communication body = comm_in (functions c) (entered s) communication >>= λ h. body_in c h.1 body >>= λ b. Some (h.0 b.0, left b.1)

abbrev pub clause_in : Context → Scope → code_clause.Clause → Option Cased
clause_in c s (clauses.Default' shape body) = default_in c s (row_statements body)
clause_in c s (clauses.Case' communication shape body) = case_in c s (comm_of communication) (row_statements body)

abbrev pub case_before : Context → Clauses → Cased → Option (Cases × Scope)
case_before c others k = clauses_in c k.1 others >>= λ r. Some (k.0 r.0, r.1)

-- steps before what statements give, and clauses before what clauses give
abbrev pub stmts_before : List checked_stmt.Stmt → Option Checked → Option Checked
stmts_before ts o = o >>= λ b. Some (joined (stmts_of ts) b.0, b.1)

abbrev pub with_cases : List code_case.Case → Cases → Cases
with_cases [] rest = rest
with_cases (k ∷ ks) rest = case_on k (with_cases ks rest)

abbrev pub cases_before : List code_case.Case → Option (Cases × Scope) → Option (Cases × Scope)
cases_before ks o = o >>= λ k. Some (with_cases ks k.0, k.1)
