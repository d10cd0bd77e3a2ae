-- What a refusal to open says of a source, and at which position.
use Rattle.std.specs.Prelude.{◌≡◌, ℕ, List, length, Option, Some, None, option_map, slice_get}
use Rattle.gr_scan.specs.declared.position.Position.{Position}
use Rattle.gr_scan.specs.declared.scan.ScanError.{ScanError}
use Rattle.gr_scan.specs.declared.scan.ScanError.TheVariants as scanning
use Rattle.gr_scan.specs.Tokens.{Tok, At}
use Rattle.gr_scan.specs.Scan.{IsScan}
use Rattle.gr_scan.specs.Faults.{HasFault, place_of}
use Rattle.gr_scan.specs.Positions.{position_of}
use Rattle.gr_tree.specs.Files.{FileTree}
use Rattle.gr_syntax.specs.declared.parse.ParseError.{ParseError}
use Rattle.gr_syntax.specs.declared.parse.ParseError.TheVariants as parsing
use Rattle.gr_syntax.specs.FileGrammar.{IsTreeOf}
use Rattle.gr_syntax.specs.Refused.{HasNoTree}
use Rattle.gr_types.specs.declared.refusal.CheckError.{CheckError}
use Rattle.gr_types.specs.declared.refusal.CheckError.TheVariants as checking
use Rattle.gr_program.specs.Programs.{Program}
use Rattle.gr_session.specs.declared.open.OpenError.{OpenError}
use Rattle.gr_session.specs.declared.open.OpenError.TheVariants.{Scan, Parse, Check, Memory}
use Rattle.gr_session.specs.Source.{IsProgramOf}

-- no program is this text's
abbrev pub NoProgram : List ℕ → Type 0
NoProgram text = (p : Program) → IsProgramOf text p → ⊥

-- the position of a fault of scanning, which names the bytes before it
abbrev pub scan_position : List ℕ → ScanError → Option Position
scan_position text error = option_map (position_of text) (place_of error)

-- how many bytes of the text stand before a token; all of them, where there is none
abbrev pub bytes_before : List ℕ → Option Tok → ℕ
bytes_before text (Some (At place word)) = place.start
bytes_before text None = length text

-- the position of the token of this index; after the last, where the text ends
abbrev pub token_position : List ℕ → List Tok → ℕ → Position
token_position text tokens index = position_of text (bytes_before text (slice_get tokens index))

-- the position of a fault of parsing, which names a token
abbrev pub parse_position : List ℕ → List Tok → ParseError → Option Position
parse_position text tokens (parsing.NoFile index) = Some (token_position text tokens index)
parse_position text tokens (parsing.LeftOut index) = Some (token_position text tokens index)
parse_position text tokens (parsing.TooHigh index) = Some (token_position text tokens index)
parse_position text tokens parsing.Memory = None

-- the position of a fault of checking, which names the bytes before it
abbrev pub check_position : List ℕ → CheckError → Option Position
check_position text (checking.Refused code before) = Some (position_of text before)
check_position text checking.Memory = None

-- the text has this fault at this position, and no program
pub record HasNoWords (error : ScanError) (at : Option Position) (text : List ℕ) : Type 0 where
  pub fault : HasFault error text
  pub place : at ≡ scan_position text error
  pub none : NoProgram text

-- the text has these tokens, which have this fault at this position, and the text has no program
pub record IsNoFile (error : ParseError) (at : Option Position) (text : List ℕ) : Type 0 where
  pub tokens : List Tok
  pub scanned : IsScan text tokens
  pub refused : HasNoTree error tokens
  pub place : at ≡ parse_position text tokens error
  pub none : NoProgram text

-- the text has these tokens, the tokens this tree, which breaks a rule at this position, and the text has no program
pub record BreaksRule (error : CheckError) (at : Option Position) (text : List ℕ) : Type 0 where
  pub tokens : List Tok
  pub scanned : IsScan text tokens
  pub tree : FileTree
  pub parsed : IsTreeOf tree tokens
  pub place : at ≡ check_position text error
  pub none : NoProgram text

-- the text has a program
pub record HasProgram (text : List ℕ) : Type 0 where
  pub program : Program
  pub is_program : IsProgramOf text program

-- What each error says. Out of memory for tokens, for a tree or for a program says nothing, and has no position. Only where
-- there is a program can memory for a session of it run out.
abbrev pub SaysWhy : OpenError → List ℕ → Type 0
SaysWhy (Scan scanning.Memory at) text = at ≡ None
SaysWhy (Scan error at) text = HasNoWords error at text
SaysWhy (Parse parsing.Memory at) text = at ≡ None
SaysWhy (Parse error at) text = IsNoFile error at text
SaysWhy (Check checking.Memory at) text = at ≡ None
SaysWhy (Check error at) text = BreaksRule error at text
SaysWhy Memory text = HasProgram text
