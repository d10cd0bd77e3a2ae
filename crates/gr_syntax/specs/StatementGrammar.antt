-- Which tokens a statement spells (Go: Blocks, Statements), with one case for each production.
use Rattle.std.specs.Prelude.{◌≡◌, ℕ, ◌≤◌, Bool, true, false, List, ◌∷◌, length, Option, Some, None}
use Rattle.gr_scan.specs.declared.token.Place.{Place}
use Rattle.gr_scan.specs.declared.token.Mark.{Mark}
use Rattle.gr_scan.specs.declared.token.Mark.TheVariants as marks
use Rattle.gr_scan.specs.Tokens.{Tok, At, Word, Sign}
use Rattle.gr_scan.specs.Tokens as words
use Rattle.gr_tree.specs.declared.expr.UnaryOp.TheVariants as unaries
use Rattle.gr_tree.specs.declared.expr.BinaryOp.{BinaryOp}
use Rattle.gr_tree.specs.declared.expr.BinaryOp.TheVariants as binaries
use Rattle.gr_tree.specs.Exprs.{WrittenType, Tree, Paren, Call, Unary, Trees}
use Rattle.gr_tree.specs.Statements.{Simple, Eval, Send, Assign, Define, Update, Increment, Decrement, Act, Plain, Var, VarValues, Go, Return, Break, Continue, Heading, Heads, IfHead, Test, Nothing, Old, New, ForHead, Loop, Range, Comm, SendTo, Receive, AssignTo, DefineAs, Statement, Does, Block, If, IfElse, IfElseIf, For, Select, Label, EmptyLabel, Statements, end, then, Clauses, closed, default, case}
use Rattle.gr_syntax.specs.Grammar.{SpellsType, SpellsUnary, SpellsExpr, SpellsExprs, SpellsNames}

-- how `x op= e` is written (Go: Assignment statements); comparisons and logical operators have no such form
abbrev pub update_mark : BinaryOp → Option Mark
update_mark binaries.Multiply = Some marks.StarAssign
update_mark binaries.Divide = Some marks.SlashAssign
update_mark binaries.Remainder = Some marks.PercentAssign
update_mark binaries.ShiftLeft = Some marks.ShiftLeftAssign
update_mark binaries.ShiftRight = Some marks.ShiftRightAssign
update_mark binaries.BitAnd = Some marks.AndAssign
update_mark binaries.AndNot = Some marks.AndNotAssign
update_mark binaries.Add = Some marks.PlusAssign
update_mark binaries.Subtract = Some marks.MinusAssign
update_mark binaries.BitOr = Some marks.OrAssign
update_mark binaries.BitXor = Some marks.CaretAssign
update_mark binaries.Equal = None
update_mark binaries.NotEqual = None
update_mark binaries.Less = None
update_mark binaries.LessEqual = None
update_mark binaries.Greater = None
update_mark binaries.GreaterEqual = None
update_mark binaries.LogicalAnd = None
update_mark binaries.LogicalOr = None

-- Simple = Expr | Expr "<-" Expr | Names "=" Exprs | Names ":=" Exprs | name AssignOp Expr | name "++" | name "--" .
pub data SpellsSimple : Simple → List Tok → List Tok → Type 0 where
  eval : {e : Tree} {ts rest : List Tok} → SpellsExpr 1 e ts rest → SpellsSimple (Eval e) ts rest
  send : {p : Place} {c e : Tree} {ts mid rest : List Tok}
      → SpellsExpr 1 c ts (At p (Sign marks.Arrow) ∷ mid)
      → SpellsExpr 1 e mid rest
      → SpellsSimple (Send c e) ts rest
  assign : {p : Place} {xs : List (List ℕ)} {es : Trees} {ts mid rest : List Tok}
      → SpellsNames xs ts (At p (Sign marks.Assign) ∷ mid)
      → SpellsExprs es mid rest
      → SpellsSimple (Assign xs es) ts rest
  define : {p : Place} {xs : List (List ℕ)} {es : Trees} {ts mid rest : List Tok}
      → SpellsNames xs ts (At p (Sign marks.Define) ∷ mid)
      → SpellsExprs es mid rest
      → SpellsSimple (Define xs es) ts rest
  update : {p q : Place} {x : List ℕ} {op : BinaryOp} {m : Mark} {e : Tree} {ts rest : List Tok}
      → update_mark op ≡ Some m
      → SpellsExpr 1 e ts rest
      → SpellsSimple (Update x op e) (At p (words.Name x) ∷ At q (Sign m) ∷ ts) rest
  increment : {p q : Place} {x : List ℕ} {rest : List Tok}
      → SpellsSimple (Increment x) (At p (words.Name x) ∷ At q (Sign marks.PlusPlus) ∷ rest) rest
  decrement : {p q : Place} {x : List ℕ} {rest : List Tok}
      → SpellsSimple (Decrement x) (At p (words.Name x) ∷ At q (Sign marks.MinusMinus) ∷ rest) rest

-- Act = Simple | "var" Names ( Type [ "=" Exprs ] | "=" Exprs ) | "go" Call | "return" [ Expr ] | "break" [ name ]
--     | "continue" [ name ] .
pub data SpellsAct : Act → List Tok → List Tok → Type 0 where
  plain : {s : Simple} {ts rest : List Tok} → SpellsSimple s ts rest → SpellsAct (Plain s) ts rest
  var : {p : Place} {xs : List (List ℕ)} {t : WrittenType} {ts mid rest : List Tok}
      → SpellsNames xs ts mid
      → SpellsType t mid rest
      → SpellsAct (Var xs t) (At p (Sign marks.Var) ∷ ts) rest
  var_typed : {p q : Place} {xs : List (List ℕ)} {t : WrittenType} {es : Trees} {ts mid values rest : List Tok}
      → SpellsNames xs ts mid
      → SpellsType t mid (At q (Sign marks.Assign) ∷ values)
      → SpellsExprs es values rest
      → SpellsAct (VarValues xs (Some t) es) (At p (Sign marks.Var) ∷ ts) rest
  var_values : {p q : Place} {xs : List (List ℕ)} {es : Trees} {ts values rest : List Tok}
      → SpellsNames xs ts (At q (Sign marks.Assign) ∷ values)
      → SpellsExprs es values rest
      → SpellsAct (VarValues xs None es) (At p (Sign marks.Var) ∷ ts) rest
  go : {p : Place} {f : List ℕ} {es : Trees} {ts rest : List Tok}
      → SpellsUnary (Call f es) ts rest
      → SpellsAct (Go f es) (At p (Sign marks.Go) ∷ ts) rest
  return_none : {p : Place} {rest : List Tok} → SpellsAct (Return None) (At p (Sign marks.Return) ∷ rest) rest
  return : {p : Place} {e : Tree} {ts rest : List Tok}
      → SpellsExpr 1 e ts rest
      → SpellsAct (Return (Some e)) (At p (Sign marks.Return) ∷ ts) rest
  break_none : {p : Place} {rest : List Tok} → SpellsAct (Break None) (At p (Sign marks.Break) ∷ rest) rest
  break : {p q : Place} {x : List ℕ} {rest : List Tok}
      → SpellsAct (Break (Some x)) (At p (Sign marks.Break) ∷ At q (words.Name x) ∷ rest) rest
  continue_none : {p : Place} {rest : List Tok} → SpellsAct (Continue None) (At p (Sign marks.Continue) ∷ rest) rest
  continue : {p q : Place} {x : List ℕ} {rest : List Tok}
      → SpellsAct (Continue (Some x)) (At p (Sign marks.Continue) ∷ At q (words.Name x) ∷ rest) rest

-- a simple statement in a heading stands where its first token does
pub data SpellsHeading : Heading → List Tok → List Tok → Type 0 where
  heads : {p : Place} {w : Word} {s : Simple} {ts rest : List Tok}
      → SpellsSimple s (At p w ∷ ts) rest
      → SpellsHeading (Heads p s) (At p w ∷ ts) rest

-- [ X ]
pub data SpellsPart {A : Type 0} (Spells : A → List Tok → List Tok → Type 0) : Option A → List Tok → List Tok → Type 0 where
  missing : {ts : List Tok} → SpellsPart Spells None ts ts
  there : {a : A} {ts rest : List Tok} → Spells a ts rest → SpellsPart Spells (Some a) ts rest

-- IfHead = [ [ Simple ] ";" ] Expr .
pub data SpellsIfHead : IfHead → List Tok → List Tok → Type 0 where
  test : {e : Tree} {ts rest : List Tok} → SpellsExpr 1 e ts rest → SpellsIfHead (Test None e) ts rest
  part_test : {p : Place} {h : Option Heading} {e : Tree} {ts mid rest : List Tok}
      → SpellsPart SpellsHeading h ts (At p (Sign marks.Semicolon) ∷ mid)
      → SpellsExpr 1 e mid rest
      → SpellsIfHead (Test h e) ts rest

abbrev pub defines : Heading → Bool
defines (Heads place (Define names values)) = true
defines (Heads place simple) = false

-- the third part of a for has no ":="
pub data SpellsPost : Heading → List Tok → List Tok → Type 0 where
  post : {h : Heading} {ts rest : List Tok} → defines h ≡ false → SpellsHeading h ts rest → SpellsPost h ts rest

-- ForHead = [ Expr ] | [ Simple ] ";" [ Expr ] ";" [ Simple ] | [ name ( "=" | ":=" ) ] "range" Expr .
pub data SpellsForHead : ForHead → List Tok → List Tok → Type 0 where
  while : {c : Option Tree} {ts rest : List Tok}
      → SpellsPart (SpellsExpr 1) c ts rest
      → SpellsForHead (Loop None c None) ts rest
  parts : {p q : Place} {i s : Option Heading} {c : Option Tree} {ts conditions posts rest : List Tok}
      → SpellsPart SpellsHeading i ts (At p (Sign marks.Semicolon) ∷ conditions)
      → SpellsPart (SpellsExpr 1) c conditions (At q (Sign marks.Semicolon) ∷ posts)
      → SpellsPart SpellsPost s posts rest
      → SpellsForHead (Loop i c s) ts rest
  range : {p : Place} {e : Tree} {ts rest : List Tok}
      → SpellsExpr 1 e ts rest
      → SpellsForHead (Range Nothing e) (At p (Sign marks.Range) ∷ ts) rest
  range_old : {p q r : Place} {x : List ℕ} {e : Tree} {ts rest : List Tok}
      → SpellsExpr 1 e ts rest
      → SpellsForHead (Range (Old x) e) (At p (words.Name x) ∷ At q (Sign marks.Assign) ∷ At r (Sign marks.Range) ∷ ts) rest
  range_new : {p q r : Place} {x : List ℕ} {e : Tree} {ts rest : List Tok}
      → SpellsExpr 1 e ts rest
      → SpellsForHead (Range (New x) e) (At p (words.Name x) ∷ At q (Sign marks.Define) ∷ At r (Sign marks.Range) ∷ ts) rest

-- Recv = "<-" Unary | "(" Recv ")" .
pub data SpellsReceive : Tree → List Tok → List Tok → Type 0 where
  receive : {p : Place} {e : Tree} {ts rest : List Tok}
      → SpellsUnary e ts rest
      → SpellsReceive (Unary unaries.Receive e) (At p (Sign marks.Arrow) ∷ ts) rest
  receive_paren : {p q : Place} {e : Tree} {ts rest : List Tok}
      → SpellsReceive e ts (At q (Sign marks.RightParen) ∷ rest)
      → SpellsReceive (Paren e) (At p (Sign marks.LeftParen) ∷ ts) rest

-- Comm = Expr "<-" Expr | [ name [ "," name ] ( "=" | ":=" ) ] Recv .
pub data SpellsComm : Comm → List Tok → List Tok → Type 0 where
  send_case : {p : Place} {c e : Tree} {ts mid rest : List Tok}
      → SpellsExpr 1 c ts (At p (Sign marks.Arrow) ∷ mid)
      → SpellsExpr 1 e mid rest
      → SpellsComm (SendTo c e) ts rest
  receive_case : {e : Tree} {ts rest : List Tok} → SpellsReceive e ts rest → SpellsComm (Receive e) ts rest
  assign_case : {p : Place} {xs : List (List ℕ)} {e : Tree} {ts mid rest : List Tok}
      → SpellsNames xs ts (At p (Sign marks.Assign) ∷ mid)
      → length xs ≤ 2
      → SpellsReceive e mid rest
      → SpellsComm (AssignTo xs e) ts rest
  define_case : {p : Place} {xs : List (List ℕ)} {e : Tree} {ts mid rest : List Tok}
      → SpellsNames xs ts (At p (Sign marks.Define) ∷ mid)
      → length xs ≤ 2
      → SpellsReceive e mid rest
      → SpellsComm (DefineAs xs e) ts rest

mutual
  -- Stmt = Act | Block | If | "for" ForHead Block | "select" "{" Clauses "}" | name ":" [ Stmt ] .
  -- A statement stands where its first token does.
  pub data SpellsStatement : Statement → List Tok → List Tok → Type 0 where
    does : {p : Place} {w : Word} {a : Act} {ts rest : List Tok}
        → SpellsAct a (At p w ∷ ts) rest
        → SpellsStatement (Does p a) (At p w ∷ ts) rest
    block : {p q : Place} {w : Word} {ss : Statements} {ts rest : List Tok}
        → SpellsBlock ss q (At p w ∷ ts) rest
        → SpellsStatement (Block p ss) (At p w ∷ ts) rest
    branch : {s : Statement} {ts rest : List Tok} → SpellsIf s ts rest → SpellsStatement s ts rest
    for : {p q : Place} {h : ForHead} {ss : Statements} {ts mid rest : List Tok}
        → SpellsForHead h ts mid
        → SpellsBlock ss q mid rest
        → SpellsStatement (For p h ss) (At p (Sign marks.For) ∷ ts) rest
    select : {p q r : Place} {cs : Clauses} {ts rest : List Tok}
        → SpellsClauses cs ts (At r (Sign marks.RightBrace) ∷ rest)
        → SpellsStatement (Select p cs) (At p (Sign marks.Select) ∷ At q (Sign marks.LeftBrace) ∷ ts) rest
    label : {p q : Place} {x : List ℕ} {s : Statement} {ts rest : List Tok}
        → SpellsStatement s ts rest
        → SpellsStatement (Label p x s) (At p (words.Name x) ∷ At q (Sign marks.Colon) ∷ ts) rest
    empty_label : {p q : Place} {x : List ℕ} {rest : List Tok}
        → SpellsStatement (EmptyLabel p x) (At p (words.Name x) ∷ At q (Sign marks.Colon) ∷ rest) rest

  -- If = "if" IfHead Block [ "else" ( If | Block ) ] .
  pub data SpellsIf : Statement → List Tok → List Tok → Type 0 where
    if : {p q : Place} {h : IfHead} {ss : Statements} {ts mid rest : List Tok}
        → SpellsIfHead h ts mid
        → SpellsBlock ss q mid rest
        → SpellsIf (If p h ss) (At p (Sign marks.If) ∷ ts) rest
    if_else : {p q r s : Place} {h : IfHead} {ss es : Statements} {ts mid others rest : List Tok}
        → SpellsIfHead h ts mid
        → SpellsBlock ss q mid (At r (Sign marks.Else) ∷ others)
        → SpellsBlock es s others rest
        → SpellsIf (IfElse p h ss es) (At p (Sign marks.If) ∷ ts) rest
    if_else_if : {p q r : Place} {h : IfHead} {ss : Statements} {e : Statement} {ts mid others rest : List Tok}
        → SpellsIfHead h ts mid
        → SpellsBlock ss q mid (At r (Sign marks.Else) ∷ others)
        → SpellsIf e others rest
        → SpellsIf (IfElseIf p h ss e) (At p (Sign marks.If) ∷ ts) rest

  -- List = { [ Stmt ] ";" } [ Stmt ] . The last Stmt lacks its semicolon only directly before "}".
  pub data SpellsList : Statements → List Tok → List Tok → Type 0 where
    ends : {ts : List Tok} → SpellsList end ts ts
    empty : {p : Place} {ss : Statements} {ts rest : List Tok}
        → SpellsList ss ts rest
        → SpellsList ss (At p (Sign marks.Semicolon) ∷ ts) rest
    one : {p : Place} {s : Statement} {ss : Statements} {ts mid rest : List Tok}
        → SpellsStatement s ts (At p (Sign marks.Semicolon) ∷ mid)
        → SpellsList ss mid rest
        → SpellsList (then s ss) ts rest
    final : {p : Place} {s : Statement} {ts rest : List Tok}
        → SpellsStatement s ts (At p (Sign marks.RightBrace) ∷ rest)
        → SpellsList (then s end) ts (At p (Sign marks.RightBrace) ∷ rest)

  -- Block = "{" List "}" ., with the place of its closing brace
  pub data SpellsBlock : Statements → Place → List Tok → List Tok → Type 0 where
    braces : {p q : Place} {ss : Statements} {ts rest : List Tok}
        → SpellsList ss ts (At q (Sign marks.RightBrace) ∷ rest)
        → SpellsBlock ss q (At p (Sign marks.LeftBrace) ∷ ts) rest

  -- Clauses = { ( "case" Comm | "default" ) ":" List } .
  pub data SpellsClauses : Clauses → List Tok → List Tok → Type 0 where
    no_clause : {ts : List Tok} → SpellsClauses closed ts ts
    default_clause : {p q : Place} {ss : Statements} {cs : Clauses} {ts mid rest : List Tok}
        → SpellsList ss ts mid
        → SpellsClauses cs mid rest
        → SpellsClauses (default ss cs) (At p (Sign marks.Default) ∷ At q (Sign marks.Colon) ∷ ts) rest
    case_clause : {p q : Place} {c : Comm} {ss : Statements} {cs : Clauses} {ts body mid rest : List Tok}
        → SpellsComm c ts (At q (Sign marks.Colon) ∷ body)
        → SpellsList ss body mid
        → SpellsClauses cs mid rest
        → SpellsClauses (case c ss cs) (At p (Sign marks.Case) ∷ ts) rest
