-- The program of a source.
use Rattle.std.specs.Prelude.{ℕ, List}
use Rattle.gr_scan.specs.Tokens.{Tok}
use Rattle.gr_scan.specs.Scan.{IsScan}
use Rattle.gr_tree.specs.Files.{FileTree}
use Rattle.gr_syntax.specs.FileGrammar.{IsTreeOf}
use Rattle.gr_program.specs.Programs.{Program}
use Rattle.gr_typing.specs.FileChecks.{ProgramOf}

-- the text has these tokens, and the tokens this tree
pub record IsFileOf (text : List ℕ) (tree : FileTree) : Type 0 where
  pub tokens : List Tok
  pub scanned : IsScan text tokens
  pub parsed : IsTreeOf tree tokens

-- the text has the tokens of this program, and the tokens its tree
pub record IsProgramOf (text : List ℕ) (p : Program) : Type 0 where
  pub tokens : List Tok
  pub scanned : IsScan text tokens
  pub tree : FileTree
  pub parsed : IsTreeOf tree tokens
  pub rules : ProgramOf tree p
