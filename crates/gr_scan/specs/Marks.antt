-- The spellings of keywords, operators and punctuation (Go: Keywords, Operators and punctuation).
use Rattle.std.specs.Prelude.{ℕ, Bool, List, [], ◌∷◌, Option, Some, None, is_some, if◌then◌else◌, codes, nat_eq}
use Rattle.std.specs.Cmp.Lexicographic.{pointwise}
use Rattle.gr_scan.specs.declared.token.Mark.{Mark}
use Rattle.gr_scan.specs.declared.token.Mark.TheVariants as marks

-- a spelling, and the mark that it spells
abbrev pub Spelling : Type 0
Spelling = List ℕ × Mark

unfoldable pub keywords : List Spelling
keywords =
    (codes "break", marks.Break) ∷
    (codes "case", marks.Case) ∷
    (codes "chan", marks.Chan) ∷
    (codes "const", marks.Const) ∷
    (codes "continue", marks.Continue) ∷
    (codes "default", marks.Default) ∷
    (codes "defer", marks.Defer) ∷
    (codes "else", marks.Else) ∷
    (codes "fallthrough", marks.Fallthrough) ∷
    (codes "for", marks.For) ∷
    (codes "func", marks.Func) ∷
    (codes "go", marks.Go) ∷
    (codes "goto", marks.Goto) ∷
    (codes "if", marks.If) ∷
    (codes "import", marks.Import) ∷
    (codes "interface", marks.Interface) ∷
    (codes "map", marks.Map) ∷
    (codes "package", marks.Package) ∷
    (codes "range", marks.Range) ∷
    (codes "return", marks.Return) ∷
    (codes "select", marks.Select) ∷
    (codes "struct", marks.Struct) ∷
    (codes "switch", marks.Switch) ∷
    (codes "type", marks.Type) ∷
    (codes "var", marks.Var) ∷ []

-- the longest first
unfoldable pub operators : List Spelling
operators =
    (codes "<<=", marks.ShiftLeftAssign) ∷
    (codes ">>=", marks.ShiftRightAssign) ∷
    (codes "&^=", marks.AndNotAssign) ∷
    (codes "...", marks.Ellipsis) ∷
    (codes "<<", marks.ShiftLeft) ∷
    (codes ">>", marks.ShiftRight) ∷
    (codes "&^", marks.AndNot) ∷
    (codes "+=", marks.PlusAssign) ∷
    (codes "-=", marks.MinusAssign) ∷
    (codes "*=", marks.StarAssign) ∷
    (codes "/=", marks.SlashAssign) ∷
    (codes "%=", marks.PercentAssign) ∷
    (codes "&=", marks.AndAssign) ∷
    (codes "|=", marks.OrAssign) ∷
    (codes "^=", marks.CaretAssign) ∷
    (codes "&&", marks.AndAnd) ∷
    (codes "||", marks.OrOr) ∷
    (codes "<-", marks.Arrow) ∷
    (codes "++", marks.PlusPlus) ∷
    (codes "--", marks.MinusMinus) ∷
    (codes "==", marks.Equal) ∷
    (codes "!=", marks.NotEqual) ∷
    (codes "<=", marks.LessEqual) ∷
    (codes ">=", marks.GreaterEqual) ∷
    (codes ":=", marks.Define) ∷
    (codes "+", marks.Plus) ∷
    (codes "-", marks.Minus) ∷
    (codes "*", marks.Star) ∷
    (codes "/", marks.Slash) ∷
    (codes "%", marks.Percent) ∷
    (codes "&", marks.And) ∷
    (codes "|", marks.Or) ∷
    (codes "^", marks.Caret) ∷
    (codes "<", marks.Less) ∷
    (codes ">", marks.Greater) ∷
    (codes "=", marks.Assign) ∷
    (codes "!", marks.Not) ∷
    (codes "(", marks.LeftParen) ∷
    (codes "[", marks.LeftBracket) ∷
    (codes "{", marks.LeftBrace) ∷
    (codes ",", marks.Comma) ∷
    (codes ".", marks.Dot) ∷
    (codes ")", marks.RightParen) ∷
    (codes "]", marks.RightBracket) ∷
    (codes "}", marks.RightBrace) ∷
    (codes ";", marks.Semicolon) ∷
    (codes ":", marks.Colon) ∷ []

-- the mark that a table gives to a spelling
abbrev pub mark_in : List Spelling → List ℕ → Option Mark
mark_in [] spelling = None
mark_in (entry ∷ table) spelling = if pointwise nat_eq entry.0 spelling then Some entry.1 else mark_in table spelling

-- a keyword of the language
abbrev pub is_keyword : List ℕ → Bool
is_keyword word = is_some (mark_in keywords word)
