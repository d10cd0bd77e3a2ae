-- The trees of texts, and what the judgement asks of trees beyond the rules of the language.
use Rattle.std.specs.Prelude.{◌≡◌, ℕ, true, List, [], ◌∷◌, ◌++◌, Option, Some, None}
use Rattle.gr_scan.specs.Tokens.{Tok}
use Rattle.gr_scan.specs.Scan.{IsScan}
use Rattle.gr_tree.specs.declared.expr.BinaryOp.{BinaryOp}
use Rattle.gr_tree.specs.Statements.{Simple, Update, Act, Plain, Heading, Heads, IfHead, Test, ForHead, Loop, Range, Statement, Does, Block, If, IfElse, IfElseIf, For, Select, Label, EmptyLabel, Statements, end, then, Clauses, closed, default, case}
use Rattle.gr_tree.specs.Files.{Function, FunctionOf, FileTree, FileOf}
use Rattle.gr_syntax.specs.FileGrammar.{IsTreeOf}
use Rattle.gr_program.specs.Types.{IntType}
use Rattle.gr_program.specs.Programs.{Stmts}
use Rattle.gr_program.specs.Order.{stands_in_order}
use Rattle.gr_typing.specs.Contexts.{Context}
use Rattle.gr_typing.specs.Scopes.{Scope}
use Rattle.gr_typing.specs.Statements.{IsBody}
use Rattle.gr_typing.specs.Values.{binary_type}

-- the text has tokens that spell the file
abbrev pub IsFileOf : List ℕ → FileTree → Type 0
IsFileOf text file = (ts : List Tok) × IsScan text ts × IsTreeOf file ts

abbrev pub functions_in : FileTree → List Function
functions_in (FileOf place package_name functions) = functions

abbrev pub body_of : Function → Statements
body_of (FunctionOf place name groups result body closing) = body

-- what the simple statements of a body and the third parts of its loops give, in the order of the text
module _ {A : Type 0} (of_simple : Simple → List A) (of_post : Option Heading → List A) where
  abbrev pub of_act : Act → List A
  of_act (Plain simple) = of_simple simple
  of_act _ = []

  abbrev pub of_heading : Option Heading → List A
  of_heading None = []
  of_heading (Some (Heads place simple)) = of_simple simple

  abbrev pub of_if : IfHead → List A
  of_if (Test init condition) = of_heading init

  abbrev pub of_for : ForHead → List A
  of_for (Loop init condition post) = of_heading init ++ of_post post
  of_for (Range target channel) = []

  abbrev mutual
    pub of_statement : Statement → List A
    of_statement (Does place act) = of_act act
    of_statement (Block place body) = of_body body
    of_statement (If place head body) = of_if head ++ of_body body
    of_statement (IfElse place head body otherwise) = of_if head ++ (of_body body ++ of_body otherwise)
    of_statement (IfElseIf place head body otherwise) = of_if head ++ (of_body body ++ of_statement otherwise)
    of_statement (For place head body) = of_for head ++ of_body body
    of_statement (Select place clauses) = of_clauses clauses
    of_statement (Label place name statement) = of_statement statement
    of_statement (EmptyLabel place name) = []

    pub of_body : Statements → List A
    of_body end = []
    of_body (then first others) = of_statement first ++ of_body others

    pub of_clauses : Clauses → List A
    of_clauses closed = []
    of_clauses (default body others) = of_body body ++ of_clauses others
    of_clauses (case communication body others) = of_body body ++ of_clauses others

-- the operators of the statements `x op= e`
abbrev pub simple_updates : Simple → List BinaryOp
simple_updates (Update name op value) = op ∷ []
simple_updates _ = []

abbrev pub updates_in : Statements → List BinaryOp
updates_in body = of_body simple_updates (of_heading simple_updates (λ post. [])) body

-- the third parts of the loops
abbrev pub posts_in : Statements → List (Option Heading)
posts_in body = of_body (λ simple. []) (λ post. post ∷ []) body

-- the operator of whole numbers gives one
abbrev pub GivesNumber : BinaryOp → Type 0
GivesNumber op = binary_type op IntType IntType ≡ Some IntType

-- What the judgement makes of the function's body begins one statement after another, behind the function's start and before
-- its closing brace.
abbrev pub BeginsInOrder : Function → Type 0
BeginsInOrder (FunctionOf place name groups result body closing) =
    (c : Context) (s n : Scope) (stmts : Stmts) → IsBody c s body stmts n → stands_in_order place.start stmts closing.start ≡ true
