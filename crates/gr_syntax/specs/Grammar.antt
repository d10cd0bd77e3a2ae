-- Which tokens an expression or a type spells (Go: Types, Expressions, Operators), with one case for each production.
-- 'SpellsX x ts rest' says that the tokens ts are those of x and then rest.
use Rattle.std.specs.Prelude.{◌≡◌, ℕ, ◌+◌, ◌≤◌, Bool, true, false, List, [], ◌∷◌, Option, Some, None, if◌then◌else◌, nat_eq, codes}
use Rattle.std.specs.Cmp.Lexicographic.{pointwise}
use denote.Enum.Bare.{sameb}
use Rattle.gr_scan.specs.contracts.token.Mark.{the_type}
use Rattle.gr_scan.specs.declared.token.Place.{Place}
use Rattle.gr_scan.specs.declared.token.Mark.{Mark}
use Rattle.gr_scan.specs.declared.token.Mark.TheVariants as marks
use Rattle.gr_scan.specs.Tokens.{Tok, At, Sign}
use Rattle.gr_scan.specs.Tokens as words
use Rattle.gr_tree.specs.declared.expr.UnaryOp.{UnaryOp}
use Rattle.gr_tree.specs.declared.expr.UnaryOp.TheVariants as unaries
use Rattle.gr_tree.specs.declared.expr.BinaryOp.{BinaryOp}
use Rattle.gr_tree.specs.declared.expr.BinaryOp.TheVariants as binaries
use Rattle.gr_tree.specs.declared.expr.Direction.TheVariants as directions
use Rattle.gr_tree.specs.Exprs.{WrittenType, TypeName, UnitType, Chan, ParenType, Tree, Number, Text, Name, UnitValue, Paren, Call, Make, MakeSized, Unary, Binary, Trees, none, more}

-- how strongly an operator binds (Go: Operator precedence)
abbrev pub level : BinaryOp → ℕ
level binaries.Multiply = 5
level binaries.Divide = 5
level binaries.Remainder = 5
level binaries.ShiftLeft = 5
level binaries.ShiftRight = 5
level binaries.BitAnd = 5
level binaries.AndNot = 5
level binaries.Add = 4
level binaries.Subtract = 4
level binaries.BitOr = 4
level binaries.BitXor = 4
level binaries.Equal = 3
level binaries.NotEqual = 3
level binaries.Less = 3
level binaries.LessEqual = 3
level binaries.Greater = 3
level binaries.GreaterEqual = 3
level binaries.LogicalAnd = 2
level binaries.LogicalOr = 1

-- how a binary operator is written
abbrev pub binary_mark : BinaryOp → Mark
binary_mark binaries.Multiply = marks.Star
binary_mark binaries.Divide = marks.Slash
binary_mark binaries.Remainder = marks.Percent
binary_mark binaries.ShiftLeft = marks.ShiftLeft
binary_mark binaries.ShiftRight = marks.ShiftRight
binary_mark binaries.BitAnd = marks.And
binary_mark binaries.AndNot = marks.AndNot
binary_mark binaries.Add = marks.Plus
binary_mark binaries.Subtract = marks.Minus
binary_mark binaries.BitOr = marks.Or
binary_mark binaries.BitXor = marks.Caret
binary_mark binaries.Equal = marks.Equal
binary_mark binaries.NotEqual = marks.NotEqual
binary_mark binaries.Less = marks.Less
binary_mark binaries.LessEqual = marks.LessEqual
binary_mark binaries.Greater = marks.Greater
binary_mark binaries.GreaterEqual = marks.GreaterEqual
binary_mark binaries.LogicalAnd = marks.AndAnd
binary_mark binaries.LogicalOr = marks.OrOr

-- how a unary operator is written
abbrev pub unary_mark : UnaryOp → Mark
unary_mark unaries.Plus = marks.Plus
unary_mark unaries.Negate = marks.Minus
unary_mark unaries.Not = marks.Not
unary_mark unaries.Complement = marks.Caret
unary_mark unaries.Receive = marks.Arrow

-- the tokens after this mark, where it comes first
unfoldable pub after_mark : Mark → List Tok → Option (List Tok)
after_mark m [] = None
after_mark m (At p (words.Name x) ∷ ts) = None
after_mark m (At p (words.Number n) ∷ ts) = None
after_mark m (At p (words.Text s) ∷ ts) = None
after_mark m (At p (Sign k) ∷ ts) = if sameb the_type k m then Some ts else None

-- the name `make`, which takes a type
abbrev pub is_make : List ℕ → Bool
is_make x = pointwise nat_eq x (codes "make")

-- Type = name | "struct" "{" "}" | "chan" [ "<-" ] Type | "<-" "chan" Type | "(" Type ")" .
-- A "<-" after "chan" belongs to that "chan".
pub data SpellsType : WrittenType → List Tok → List Tok → Type 0 where
  type_name : {p : Place} {x : List ℕ} {rest : List Tok} → SpellsType (TypeName x) (At p (words.Name x) ∷ rest) rest
  type_unit : {p q r : Place} {rest : List Tok}
      → SpellsType UnitType (At p (Sign marks.Struct) ∷ At q (Sign marks.LeftBrace) ∷ At r (Sign marks.RightBrace) ∷ rest) rest
  type_chan : {p : Place} {t : WrittenType} {ts rest : List Tok}
      → after_mark marks.Arrow ts ≡ None
      → SpellsType t ts rest
      → SpellsType (Chan directions.Both t) (At p (Sign marks.Chan) ∷ ts) rest
  type_send : {p q : Place} {t : WrittenType} {ts rest : List Tok}
      → SpellsType t ts rest
      → SpellsType (Chan directions.Send t) (At p (Sign marks.Chan) ∷ At q (Sign marks.Arrow) ∷ ts) rest
  type_receive : {p q : Place} {t : WrittenType} {ts rest : List Tok}
      → SpellsType t ts rest
      → SpellsType (Chan directions.Receive t) (At p (Sign marks.Arrow) ∷ At q (Sign marks.Chan) ∷ ts) rest
  type_paren : {p q : Place} {t : WrittenType} {ts rest : List Tok}
      → SpellsType t ts (At q (Sign marks.RightParen) ∷ rest)
      → SpellsType (ParenType t) (At p (Sign marks.LeftParen) ∷ ts) rest

mutual
  -- Unary = number | string | name | Call | "(" Expr ")" | "struct" "{" "}" "{" "}" | "make" "(" Type [ "," Expr ] [ "," ] ")"
  --     | UnaryOp Unary .
  -- Call = name "(" [ Exprs [ "," ] ] ")", the name not "make".
  pub data SpellsUnary : Tree → List Tok → List Tok → Type 0 where
    number : {p : Place} {n : ℕ} {rest : List Tok} → SpellsUnary (Number n) (At p (words.Number n) ∷ rest) rest
    text : {p : Place} {s : List ℕ} {rest : List Tok} → SpellsUnary (Text s) (At p (words.Text s) ∷ rest) rest
    name : {p : Place} {x : List ℕ} {rest : List Tok} → SpellsUnary (Name x) (At p (words.Name x) ∷ rest) rest
    unit : {p q r s t : Place} {rest : List Tok}
        → SpellsUnary UnitValue (At p (Sign marks.Struct) ∷ At q (Sign marks.LeftBrace) ∷ At r (Sign marks.RightBrace) ∷ At s (Sign marks.LeftBrace) ∷ At t (Sign marks.RightBrace) ∷ rest) rest
    paren : {p q : Place} {e : Tree} {ts rest : List Tok}
        → SpellsExpr 1 e ts (At q (Sign marks.RightParen) ∷ rest)
        → SpellsUnary (Paren e) (At p (Sign marks.LeftParen) ∷ ts) rest
    call_none : {p q r : Place} {x : List ℕ} {rest : List Tok}
        → is_make x ≡ false
        → SpellsUnary (Call x none) (At p (words.Name x) ∷ At q (Sign marks.LeftParen) ∷ At r (Sign marks.RightParen) ∷ rest) rest
    call : {p q r : Place} {x : List ℕ} {es : Trees} {ts rest : List Tok}
        → is_make x ≡ false
        → SpellsExprs es ts (At r (Sign marks.RightParen) ∷ rest)
        → SpellsUnary (Call x es) (At p (words.Name x) ∷ At q (Sign marks.LeftParen) ∷ ts) rest
    call_comma : {p q r s : Place} {x : List ℕ} {es : Trees} {ts rest : List Tok}
        → is_make x ≡ false
        → SpellsExprs es ts (At r (Sign marks.Comma) ∷ At s (Sign marks.RightParen) ∷ rest)
        → SpellsUnary (Call x es) (At p (words.Name x) ∷ At q (Sign marks.LeftParen) ∷ ts) rest
    make : {p q r : Place} {x : List ℕ} {t : WrittenType} {ts rest : List Tok}
        → is_make x ≡ true
        → SpellsType t ts (At r (Sign marks.RightParen) ∷ rest)
        → SpellsUnary (Make t) (At p (words.Name x) ∷ At q (Sign marks.LeftParen) ∷ ts) rest
    make_comma : {p q r s : Place} {x : List ℕ} {t : WrittenType} {ts rest : List Tok}
        → is_make x ≡ true
        → SpellsType t ts (At r (Sign marks.Comma) ∷ At s (Sign marks.RightParen) ∷ rest)
        → SpellsUnary (Make t) (At p (words.Name x) ∷ At q (Sign marks.LeftParen) ∷ ts) rest
    make_sized : {p q r s : Place} {x : List ℕ} {t : WrittenType} {e : Tree} {ts mid rest : List Tok}
        → is_make x ≡ true
        → SpellsType t ts (At r (Sign marks.Comma) ∷ mid)
        → SpellsExpr 1 e mid (At s (Sign marks.RightParen) ∷ rest)
        → SpellsUnary (MakeSized t e) (At p (words.Name x) ∷ At q (Sign marks.LeftParen) ∷ ts) rest
    make_sized_comma : {p q r s u : Place} {x : List ℕ} {t : WrittenType} {e : Tree} {ts mid rest : List Tok}
        → is_make x ≡ true
        → SpellsType t ts (At r (Sign marks.Comma) ∷ mid)
        → SpellsExpr 1 e mid (At s (Sign marks.Comma) ∷ At u (Sign marks.RightParen) ∷ rest)
        → SpellsUnary (MakeSized t e) (At p (words.Name x) ∷ At q (Sign marks.LeftParen) ∷ ts) rest
    unary : {p : Place} {op : UnaryOp} {e : Tree} {ts rest : List Tok}
        → SpellsUnary e ts rest
        → SpellsUnary (Unary op e) (At p (Sign (unary_mark op)) ∷ ts) rest

  -- Expr = Unary | Expr BinOp Expr .
  -- Its operators bind at least as strongly as the level; those that bind alike associate to the left.
  pub data SpellsExpr : ℕ → Tree → List Tok → List Tok → Type 0 where
    alone : {l : ℕ} {e : Tree} {ts rest : List Tok} → SpellsUnary e ts rest → SpellsExpr l e ts rest
    binary : {l : ℕ} {p : Place} {op : BinaryOp} {a b : Tree} {ts mid rest : List Tok}
        → l ≤ level op
        → SpellsExpr (level op) a ts (At p (Sign (binary_mark op)) ∷ mid)
        → SpellsExpr (level op + 1) b mid rest
        → SpellsExpr l (Binary op a b) ts rest

  -- Exprs = Expr { "," Expr } .
  pub data SpellsExprs : Trees → List Tok → List Tok → Type 0 where
    last_expr : {e : Tree} {ts rest : List Tok} → SpellsExpr 1 e ts rest → SpellsExprs (more e none) ts rest
    comma_expr : {p : Place} {e : Tree} {es : Trees} {ts mid rest : List Tok}
        → SpellsExpr 1 e ts (At p (Sign marks.Comma) ∷ mid)
        → SpellsExprs es mid rest
        → SpellsExprs (more e es) ts rest

-- Names = name { "," name } .
pub data SpellsNames : List (List ℕ) → List Tok → List Tok → Type 0 where
  last_name : {p : Place} {x : List ℕ} {rest : List Tok} → SpellsNames (x ∷ []) (At p (words.Name x) ∷ rest) rest
  comma_name : {p q : Place} {x : List ℕ} {xs : List (List ℕ)} {ts rest : List Tok}
      → SpellsNames xs ts rest
      → SpellsNames (x ∷ xs) (At p (words.Name x) ∷ At q (Sign marks.Comma) ∷ ts) rest
