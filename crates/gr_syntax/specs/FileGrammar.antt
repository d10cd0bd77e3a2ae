-- Which tokens a file spells (Go: Function declarations, Source file organization), with one case for each production.
use Rattle.std.specs.Prelude.{ℕ, ◌≤◌, List, [], ◌∷◌, Option}
use Rattle.gr_scan.specs.declared.token.Place.{Place}
use Rattle.gr_scan.specs.declared.token.Mark.TheVariants as marks
use Rattle.gr_scan.specs.Tokens.{Tok, At, Sign}
use Rattle.gr_scan.specs.Tokens as words
use Rattle.gr_tree.specs.Exprs.{WrittenType}
use Rattle.gr_tree.specs.Statements.{Statements}
use Rattle.gr_tree.specs.Files.{Group, GroupOf, Function, FunctionOf, FileTree, FileOf, file_height}
use Rattle.gr_syntax.specs.Grammar.{SpellsType, SpellsNames}
use Rattle.gr_syntax.specs.StatementGrammar.{SpellsPart, SpellsBlock}

-- Groups = Names Type { "," Names Type } .
pub data SpellsGroups : List Group → List Tok → List Tok → Type 0 where
  last_group : {xs : List (List ℕ)} {t : WrittenType} {ts mid rest : List Tok}
      → SpellsNames xs ts mid
      → SpellsType t mid rest
      → SpellsGroups (GroupOf xs t ∷ []) ts rest
  comma_group : {p : Place} {xs : List (List ℕ)} {t : WrittenType} {gs : List Group} {ts mid others rest : List Tok}
      → SpellsNames xs ts mid
      → SpellsType t mid (At p (Sign marks.Comma) ∷ others)
      → SpellsGroups gs others rest
      → SpellsGroups (GroupOf xs t ∷ gs) ts rest

-- Parameters = "(" [ Groups [ "," ] ] ")" .
pub data SpellsParameters : List Group → List Tok → List Tok → Type 0 where
  no_parameters : {p q : Place} {rest : List Tok}
      → SpellsParameters [] (At p (Sign marks.LeftParen) ∷ At q (Sign marks.RightParen) ∷ rest) rest
  parameters : {p q : Place} {gs : List Group} {ts rest : List Tok}
      → SpellsGroups gs ts (At q (Sign marks.RightParen) ∷ rest)
      → SpellsParameters gs (At p (Sign marks.LeftParen) ∷ ts) rest
  parameters_comma : {p q r : Place} {gs : List Group} {ts rest : List Tok}
      → SpellsGroups gs ts (At q (Sign marks.Comma) ∷ At r (Sign marks.RightParen) ∷ rest)
      → SpellsParameters gs (At p (Sign marks.LeftParen) ∷ ts) rest

-- Func = "func" name Parameters [ Type ] Block .
pub data SpellsFunction : Function → List Tok → List Tok → Type 0 where
  function : {p q closing : Place} {f : List ℕ} {gs : List Group} {t : Option WrittenType} {ss : Statements} {ts results body rest : List Tok}
      → SpellsParameters gs ts results
      → SpellsPart SpellsType t results body
      → SpellsBlock ss closing body rest
      → SpellsFunction (FunctionOf p f gs t ss closing) (At p (Sign marks.Func) ∷ At q (words.Name f) ∷ ts) rest

-- Functions = { Func ";" } .
pub data SpellsFunctions : List Function → List Tok → Type 0 where
  no_function : SpellsFunctions [] []
  one_function : {p : Place} {f : Function} {fs : List Function} {ts mid : List Tok}
      → SpellsFunction f ts (At p (Sign marks.Semicolon) ∷ mid)
      → SpellsFunctions fs mid
      → SpellsFunctions (f ∷ fs) ts

-- File = "package" name ";" Functions .
pub data SpellsFile : FileTree → List Tok → Type 0 where
  file : {p q r : Place} {x : List ℕ} {fs : List Function} {ts : List Tok}
      → SpellsFunctions fs ts
      → SpellsFile (FileOf p x fs) (At p (Sign marks.Package) ∷ At q (words.Name x) ∷ At r (Sign marks.Semicolon) ∷ ts)

-- the tree that the tokens spell, of at most 200 levels
pub record IsTreeOf (f : FileTree) (ts : List Tok) : Type 0 where
  pub spelled : SpellsFile f ts
  pub low : file_height f ≤ 200
