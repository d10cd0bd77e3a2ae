-- What an error says of the tokens.
use Rattle.std.specs.Prelude.{◌≡◌, ℕ, ◌<◌, ◌≤◌, Bool, true, false, List, length, Option, Some, None}
use Rattle.std.specs.List.{slice_get}
use Rattle.gr_scan.specs.declared.token.Mark.{Mark}
use Rattle.gr_scan.specs.declared.token.Mark.TheVariants as marks
use Rattle.gr_scan.specs.Tokens.{Tok, At, Sign}
use Rattle.gr_scan.specs.Tokens as words
use Rattle.gr_tree.specs.Files.{FileTree, file_height}
use Rattle.gr_syntax.specs.declared.parse.ParseError.{ParseError}
use Rattle.gr_syntax.specs.declared.parse.ParseError.TheVariants as errors
use Rattle.gr_syntax.specs.FileGrammar.{SpellsFile}

-- the marks of Go that begin what the language leaves out: `var` outside functions, and `func` inside
abbrev pub is_left_out : Mark → Bool
is_left_out marks.Const = true
is_left_out marks.Defer = true
is_left_out marks.Fallthrough = true
is_left_out marks.Func = true
is_left_out marks.Goto = true
is_left_out marks.Import = true
is_left_out marks.Interface = true
is_left_out marks.Map = true
is_left_out marks.Switch = true
is_left_out marks.Type = true
is_left_out marks.Var = true
is_left_out marks.Star = true
is_left_out marks.And = true
is_left_out marks.LeftBracket = true
is_left_out marks.Dot = true
is_left_out marks.Ellipsis = true
is_left_out _ = false

-- whether a token is such a mark; the end is none
abbrev pub left_out : Option Tok → Bool
left_out None = false
left_out (Some (At p (words.Name x))) = false
left_out (Some (At p (words.Number n))) = false
left_out (Some (At p (words.Text s))) = false
left_out (Some (At p (Sign m))) = is_left_out m

-- no tree spells the tokens, however high; the index is that of a token, or the number of tokens
pub record IsNoFile (token : ℕ) (ts : List Tok) : Type 0 where
  pub within : token ≤ length ts
  pub none : (f : FileTree) → SpellsFile f ts → ⊥

-- no tree of at most 200 levels spells the tokens, and they are enough for one of more levels
pub record IsTooHigh (token : ℕ) (ts : List Tok) : Type 0 where
  pub within : token ≤ length ts
  pub long : 200 < length ts
  pub none : (f : FileTree) → SpellsFile f ts → file_height f ≤ 200 → ⊥

-- what each error says; out of memory says nothing
abbrev pub HasNoTree : ParseError → List Tok → Type 0
HasNoTree (errors.NoFile token) ts = IsNoFile token ts × (left_out (slice_get ts token) ≡ false)
HasNoTree (errors.LeftOut token) ts = IsNoFile token ts × (left_out (slice_get ts token) ≡ true)
HasNoTree (errors.TooHigh token) ts = IsTooHigh token ts
HasNoTree errors.Memory ts = Unit {0}
