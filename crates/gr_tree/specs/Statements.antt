-- Statements, without where they lie in memory.
use Rattle.std.specs.Prelude.{ℕ, ◌+◌, max, List, [], ◌∷◌, Vec, Box, Option, Some, None}
use Rattle.std.proofs.Common.{Global}
use Rattle.gr_scan.specs.declared.token.Place.{Place}
use Rattle.gr_tree.specs.declared.expr.BinaryOp.{BinaryOp}
use Rattle.gr_tree.specs.declared.stmt.Simple as code_simple
use Rattle.gr_tree.specs.declared.stmt.Simple.TheVariants as simples
use Rattle.gr_tree.specs.declared.stmt.Action as code_action
use Rattle.gr_tree.specs.declared.stmt.Action.TheVariants as actions
use Rattle.gr_tree.specs.declared.stmt.Header.{Header}
use Rattle.gr_tree.specs.declared.stmt.IfHead as code_if
use Rattle.gr_tree.specs.declared.stmt.ForHead as code_for
use Rattle.gr_tree.specs.declared.stmt.ForHead.TheVariants as fors
use Rattle.gr_tree.specs.declared.stmt.RangeTarget as code_target
use Rattle.gr_tree.specs.declared.stmt.RangeTarget.TheVariants as targets
use Rattle.gr_tree.specs.declared.stmt.Communication.{Communication}
use Rattle.gr_tree.specs.declared.stmt.Communication.TheVariants as comms
use Rattle.gr_tree.specs.declared.stmt.Stmt as rows
use Rattle.gr_tree.specs.declared.stmt.Stmt.TheVariants as stmts
use Rattle.gr_tree.specs.declared.stmt.Clause.TheVariants as clauses
use Rattle.gr_tree.specs.Exprs.{WrittenType, type_height, Tree, Trees, height, heights, type_of, tree_of, trees_of, names_of}

-- a simple statement
pub data Simple : Type 0 where
  Eval : (value : Tree) → Simple
  Send : (channel value : Tree) → Simple
  Assign : (names : List (List ℕ)) (values : Trees) → Simple
  Define : (names : List (List ℕ)) (values : Trees) → Simple
  Update : (name : List ℕ) (op : BinaryOp) (value : Tree) → Simple
  Increment : (name : List ℕ) → Simple
  Decrement : (name : List ℕ) → Simple

-- what is done by a statement that has no statements in it
pub data Act : Type 0 where
  Plain : (simple : Simple) → Act
  Var : (names : List (List ℕ)) (type : WrittenType) → Act
  VarValues : (names : List (List ℕ)) (type : Option WrittenType) (values : Trees) → Act
  Go : (function : List ℕ) (arguments : Trees) → Act
  Return : (value : Option Tree) → Act
  Break : (label : Option (List ℕ)) → Act
  Continue : (label : Option (List ℕ)) → Act

-- a simple statement in a heading, and where its first token stands
pub data Heading : Type 0 where
  Heads : (place : Place) (simple : Simple) → Heading

-- what stands between `if` and its block
pub data IfHead : Type 0 where
  Test : (init : Option Heading) (condition : Tree) → IfHead

-- what each value of a range is given to
pub data Target : Type 0 where
  Nothing : Target
  Old : (name : List ℕ) → Target
  New : (name : List ℕ) → Target

-- what stands between `for` and its block
pub data ForHead : Type 0 where
  Loop : (init : Option Heading) (condition : Option Tree) (post : Option Heading) → ForHead
  Range : (target : Target) (channel : Tree) → ForHead

-- what a clause of a select waits for
pub data Comm : Type 0 where
  SendTo : (channel value : Tree) → Comm
  Receive : (value : Tree) → Comm
  AssignTo : (names : List (List ℕ)) (value : Tree) → Comm
  DefineAs : (names : List (List ℕ)) (value : Tree) → Comm

-- a statement and where its first token stands; statements one after another; clauses of a select
mutual
  pub data Statement : Type 0 where
    Does : (place : Place) (act : Act) → Statement
    Block : (place : Place) (body : Statements) → Statement
    If : (place : Place) (head : IfHead) (body : Statements) → Statement
    IfElse : (place : Place) (head : IfHead) (body otherwise : Statements) → Statement
    IfElseIf : (place : Place) (head : IfHead) (body : Statements) (otherwise : Statement) → Statement
    For : (place : Place) (head : ForHead) (body : Statements) → Statement
    Select : (place : Place) (clauses : Clauses) → Statement
    Label : (place : Place) (name : List ℕ) (statement : Statement) → Statement
    EmptyLabel : (place : Place) (name : List ℕ) → Statement

  pub data Statements : Type 0 where
    end : Statements
    then : (first : Statement) (others : Statements) → Statements

  pub data Clauses : Type 0 where
    closed : Clauses
    default : (body : Statements) (others : Clauses) → Clauses
    case : (communication : Comm) (body : Statements) (others : Clauses) → Clauses

-- How many levels a statement has: one more than its highest part. The statements in the body of an if, a for or a select
-- are its parts, and names are none.
abbrev pub simple_height : Simple → ℕ
simple_height (Eval value) = height value + 1
simple_height (Send channel value) = max (height channel) (height value) + 1
simple_height (Assign names values) = heights values + 1
simple_height (Define names values) = heights values + 1
simple_height (Update name op value) = height value + 1
simple_height (Increment name) = 1
simple_height (Decrement name) = 1

-- the height of what may be missing
abbrev pub part_height : {A : Type 0} → (A → ℕ) → Option A → ℕ
part_height of None = 0
part_height of (Some part) = of part

-- a call is an expression, and `go` is one level more
abbrev pub act_height : Act → ℕ
act_height (Plain simple) = simple_height simple
act_height (Var names type) = type_height type + 1
act_height (VarValues names type values) = max (part_height type_height type) (heights values) + 1
act_height (Go function arguments) = heights arguments + 2
act_height (Return value) = part_height height value + 1
act_height (Break label) = 1
act_height (Continue label) = 1

abbrev pub heading_height : Heading → ℕ
heading_height (Heads place simple) = simple_height simple

abbrev pub if_height : IfHead → ℕ
if_height (Test init condition) = max (part_height heading_height init) (height condition)

abbrev pub for_height : ForHead → ℕ
for_height (Loop init condition post) = max (part_height heading_height init) (max (part_height height condition) (part_height heading_height post))
for_height (Range target channel) = height channel

abbrev pub comm_height : Comm → ℕ
comm_height (SendTo channel value) = max (height channel) (height value)
comm_height (Receive value) = height value
comm_height (AssignTo names value) = height value
comm_height (DefineAs names value) = height value

abbrev mutual
  pub statement_height : Statement → ℕ
  statement_height (Does place act) = act_height act
  statement_height (Block place body) = body_height body + 1
  statement_height (If place head body) = max (if_height head) (body_height body) + 1
  statement_height (IfElse place head body otherwise) = max (if_height head) (max (body_height body) (body_height otherwise)) + 1
  statement_height (IfElseIf place head body otherwise) = max (if_height head) (max (body_height body) (statement_height otherwise)) + 1
  statement_height (For place head body) = max (for_height head) (body_height body) + 1
  statement_height (Select place clauses) = clauses_height clauses + 1
  statement_height (Label place name statement) = statement_height statement + 1
  statement_height (EmptyLabel place name) = 1

  pub body_height : Statements → ℕ
  body_height end = 0
  body_height (then first others) = max (statement_height first) (body_height others)

  pub clauses_height : Clauses → ℕ
  clauses_height closed = 0
  clauses_height (default body others) = max (body_height body) (clauses_height others)
  clauses_height (case communication body others) = max (max (comm_height communication) (body_height body)) (clauses_height others)

-- The pure trees of the code's.
abbrev pub optional : {A B : Type 0} → (A → B) → Option A → Option B
optional view None = None
optional view (Some a) = Some (view a)

abbrev pub name_of : Vec ℕ Global → List ℕ
name_of name = name.items

abbrev pub simple_of : code_simple.Simple → Simple
simple_of (simples.Eval value) = Eval (tree_of value)
simple_of (simples.Send channel value) = Send (tree_of channel) (tree_of value)
simple_of (simples.Assign names values) = Assign (names_of names.items) (trees_of values.items)
simple_of (simples.Define names values) = Define (names_of names.items) (trees_of values.items)
simple_of (simples.Update name op value) = Update name.items op (tree_of value)
simple_of (simples.Increment name) = Increment name.items
simple_of (simples.Decrement name) = Decrement name.items

abbrev pub act_of : code_action.Action → Act
act_of (actions.Simple simple) = Plain (simple_of simple)
act_of (actions.Var names type) = Var (names_of names.items) (type_of type)
act_of (actions.VarValues names type values) = VarValues (names_of names.items) (optional type_of type) (trees_of values.items)
act_of (actions.Go function arguments) = Go function.items (trees_of arguments.items)
act_of (actions.Return value) = Return (optional tree_of value)
act_of (actions.Break label) = Break (optional name_of label)
act_of (actions.Continue label) = Continue (optional name_of label)

abbrev pub heading_of : Box Header Global → Heading
heading_of h = Heads h.value.place (simple_of h.value.simple)

abbrev pub if_of : code_if.IfHead → IfHead
if_of head = Test (optional heading_of head.init) (tree_of head.condition)

abbrev pub target_of : code_target.RangeTarget → Target
target_of targets.Nothing = Nothing
target_of (targets.Assign name) = Old name.items
target_of (targets.Define name) = New name.items

abbrev pub for_of : code_for.ForHead → ForHead
for_of (fors.Loop init condition post) = Loop (optional heading_of init) (optional tree_of condition) (optional heading_of post)
for_of (fors.Range target channel) = Range (target_of target) (tree_of channel)

abbrev pub comm_of : Communication → Comm
comm_of (comms.Send channel value) = SendTo (tree_of channel) (tree_of value)
comm_of (comms.Receive value) = Receive (tree_of value)
comm_of (comms.Assign names value) = AssignTo (names_of names.items) (tree_of value)
comm_of (comms.Define names value) = DefineAs (names_of names.items) (tree_of value)

abbrev mutual
  pub statement_of : rows.Stmt → Statement
  statement_of (stmts.Act place act) = Does place (act_of act)
  statement_of (stmts.Block' place shape body) = Block place (row_statements body)
  statement_of (stmts.If' place head shape body) = If place (if_of head) (row_statements body)
  statement_of (stmts.IfElse' place head shape body s otherwise) = IfElse place (if_of head) (row_statements body) (row_statements otherwise)
  statement_of (stmts.IfElseIf' place head shape body p otherwise) = IfElseIf place (if_of head) (row_statements body) (statement_of otherwise)
  statement_of (stmts.For' place head shape body) = For place (for_of head) (row_statements body)
  statement_of (stmts.Select' place shape all) = Select place (row_clauses all)
  statement_of (stmts.Label' place name p statement) = Label place name.items (statement_of statement)
  statement_of (stmts.EmptyLabel place name) = EmptyLabel place name.items

  pub row_statements : {m : _} → rows.Row_of-Stmt m → Statements
  row_statements rows.end_of-Stmt = end
  row_statements (rows.more_of-Stmt s rest) = then (statement_of s) (row_statements rest)

  pub row_clauses : {m : _} → rows.Row_of-Clause m → Clauses
  row_clauses rows.end_of-Clause = closed
  row_clauses (rows.more_of-Clause (clauses.Default' shape body) rest) = default (row_statements body) (row_clauses rest)
  row_clauses (rows.more_of-Clause (clauses.Case' communication shape body) rest) = case (comm_of communication) (row_statements body) (row_clauses rest)

abbrev pub statements_of : List rows.Stmt → Statements
statements_of [] = end
statements_of (s ∷ ss) = then (statement_of s) (statements_of ss)
