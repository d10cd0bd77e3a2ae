-- Checked programs of the whole language: names are resolved to numbers, constants to their values, parentheses and labels are
-- gone.
use Rattle.std.specs.Prelude.{ℕ, ℤ, pos, Bool, false, List, Option}
use Rattle.gr_scan.specs.declared.token.Place.{Place}
use Rattle.gr_tree.specs.declared.expr.UnaryOp.{UnaryOp}
use Rattle.gr_tree.specs.declared.expr.BinaryOp.{BinaryOp}
use Rattle.gr_program.specs.Types.{Ty, IntType, BoolType, UnitType, ChanType}

-- a value as it stands in a program
pub data Literal : Type 0 where
  Number : (n : ℤ) → Literal
  Truth : (b : Bool) → Literal
  Empty : Literal
  Nil : Literal

-- Go: The zero value
abbrev pub zero_of : Ty → Literal
zero_of IntType = Number (pos 0)
zero_of BoolType = Truth false
zero_of UnitType = Empty
zero_of (ChanType direction element) = Nil

-- An expression. A variable and a function have numbers; a receive has the zero value of its channel's elements, which a
-- closed channel gives.
mutual
  pub data Expr : Type 0 where
    Literally : (value : Literal) → Expr
    Variable : (number : ℕ) → Expr
    Unary : (op : UnaryOp) (operand : Expr) → Expr
    Binary : (op : BinaryOp) (left right : Expr) → Expr
    Receive : (channel : Expr) (zero : Literal) → Expr
    Call : (function : ℕ) (arguments : Exprs) → Expr
    Len : (channel : Expr) → Expr
    Cap : (channel : Expr) → Expr
    Make : Expr
    MakeSized : (size : Expr) → Expr

  pub data Exprs : Type 0 where
    none : Exprs
    more : (first : Expr) (others : Exprs) → Exprs

-- what `println` prints
pub data Printed : Type 0 where
  PrintExpr : (value : Expr) → Printed
  PrintText : (bytes : List ℕ) → Printed

-- What is done by a statement that has no statements in it. A target is a variable, or none for the blank identifier. `break`
-- and `continue` say how many for and select statements around them lie further inside than theirs.
pub data Act : Type 0 where
  Assign : (targets : List (Option ℕ)) (values : Exprs) → Act
  AssignReceive : (value ok : Option ℕ) (channel : Expr) (zero : Literal) → Act
  Update : (variable : ℕ) (op : BinaryOp) (value : Expr) → Act
  Eval : (value : Expr) → Act
  Close : (channel : Expr) → Act
  Print : (values : List Printed) → Act
  Send : (channel value : Expr) → Act
  Go : (function : ℕ) (arguments : Exprs) → Act
  Return : (value : Option Expr) → Act
  Break : (depth : ℕ) → Act
  Continue : (depth : ℕ) → Act

-- a statement of a heading, and where its first token stands
pub data Opening : Type 0 where
  Opens : (place : Place) (act : Act) → Opening

-- a statement, and where its first token stands, so that no two of a program stand at one place; statements; clauses of a select
mutual
  pub data Stmt : Type 0 where
    Does : (place : Place) (act : Act) → Stmt
    Block : (body : Stmts) → Stmt
    If : (place : Place) (init : Option Opening) (condition : Expr) (body otherwise : Stmts) → Stmt
    For : (place : Place) (init : Option Opening) (condition : Option Expr) (post : Option Opening) (body : Stmts) → Stmt
    Range : (place : Place) (target : Option ℕ) (channel : Expr) (body : Stmts) → Stmt
    Select : (place : Place) (cases : Cases) → Stmt

  pub data Stmts : Type 0 where
    stop : Stmts
    then : (first : Stmt) (others : Stmts) → Stmts

  pub data Cases : Type 0 where
    no_case : Cases
    default_case : (body : Stmts) (others : Cases) → Cases
    send_case : (channel value : Expr) (body : Stmts) (others : Cases) → Cases
    receive_case : (targets : List (Option ℕ)) (channel : Expr) (zero : Literal) (body : Stmts) (others : Cases) → Cases

abbrev pub joined : Stmts → Stmts → Stmts
joined stop rest = rest
joined (then s ss) rest = then s (joined ss rest)

-- a parameter: its variable, none for the blank identifier, and its type
pub data Parameter : Type 0 where
  Takes : (variable : Option ℕ) (type : Ty) → Parameter

-- a variable: its name and its type
pub data Declared : Type 0 where
  Named : (name : List ℕ) (type : Ty) → Declared

-- a function: its name, parameters and result, its variables by number, its body, and where its closing brace stands
pub data Function : Type 0 where
  FunctionIs : (name : List ℕ) (parameters : List Parameter) (result : Option Ty) (variables : List Declared) (body : Stmts) (closing : Place) → Function

-- a program: its functions by number, and the number of `main`
pub data Program : Type 0 where
  ProgramIs : (functions : List Function) (main : ℕ) → Program
