-- Refusals of the stages, as refusals of the source.
use Rattle.std.proofs.Common.{◌≡◌, ℕ, List, [], ◌∷◌, zero, suc, refl, subst}
use Rattle.std.specs.Prelude.{slice_get, option_map}
use Rattle.gr_scan.specs.declared.scan.ScanError.{ScanError}
use Rattle.gr_scan.specs.declared.scan.ScanError.TheVariants as scanning
use Rattle.gr_scan.specs.declared.token.Token.{Token}
use Rattle.gr_scan.specs.Tokens.{Tok, token_of, tokens_of}
use Rattle.gr_scan.specs.Scan.{IsScan, HasNoTokens}
use Rattle.gr_scan.specs.Faults.{HasFault}
use Rattle.gr_syntax.specs.declared.parse.ParseError.{ParseError}
use Rattle.gr_syntax.specs.declared.parse.ParseError.TheVariants as parsing
use Rattle.gr_types.specs.declared.refusal.CheckError.{CheckError}
use Rattle.gr_types.specs.declared.refusal.CheckError.TheVariants as checking
use Rattle.gr_tree.specs.Files.{FileTree}
use Rattle.gr_syntax.specs.FileGrammar.{SpellsFile, IsTreeOf}
use Rattle.gr_syntax.specs.Refused.{HasNoTree}
use Rattle.gr_program.specs.Programs.{Program}
use Rattle.gr_typing.specs.FileChecks.{ProgramOf}
use Rattle.gr_types.specs.Refusals.{HasNoProgram}
use Rattle.gr_session.specs.Source.{IsFileOf, IsProgramOf}
use Rattle.gr_session.specs.declared.open.OpenError.TheVariants.{Scan, Parse, Check}
use Rattle.gr_session.specs.Refused.{NoProgram, SaysWhy, scan_position, parse_position, check_position}

abbrev pub OneList : Type 0
OneList = (text : List ℕ) (a b : List Tok) → IsScan text a → IsScan text b → a ≡ b

abbrev pub OneTree : Type 0
OneTree = (f g : FileTree) (ts : List Tok) → SpellsFile f ts → SpellsFile g ts → f ≡ g

pub scan_refused : (e : ScanError) (text : List ℕ) → HasNoTokens e text → HasFault e text → SaysWhy (Scan e (scan_position text e)) text
scan_refused scanning.Memory text h f = refl
scan_refused _ text h f = record { fault = f; place = refl; none = λ p q. h q.tokens q.scanned }

-- the tree of a program of the text is one of these tokens
same_tokens : OneList → (text : List ℕ) (ts : List Tok) → IsScan text ts → (p : Program) (q : IsProgramOf text p) → IsTreeOf q.tree ts
same_tokens one text ts s p q = subst (λ us. IsTreeOf q.tree us) (one text q.tokens ts q.scanned s) q.parsed

no_tree : OneList → (text : List ℕ) (ts : List Tok) → IsScan text ts → ((f : FileTree) → IsTreeOf f ts → ⊥) → NoProgram text
no_tree one text ts s none = λ p q. none q.tree (same_tokens one text ts s p q)

pub parse_refused : OneList → (e : ParseError) (text : List ℕ) (ts : List Tok) → IsScan text ts → HasNoTree e ts → SaysWhy (Parse e (parse_position text ts e)) text
parse_refused one parsing.Memory text ts s h = refl
parse_refused one (parsing.NoFile token) text ts s h =
    record { tokens = ts; scanned = s; refused = h; place = refl; none = no_tree one text ts s (λ f t. h.0.none f t.spelled) }
parse_refused one (parsing.LeftOut token) text ts s h =
    record { tokens = ts; scanned = s; refused = h; place = refl; none = no_tree one text ts s (λ f t. h.0.none f t.spelled) }
parse_refused one (parsing.TooHigh token) text ts s h =
    record { tokens = ts; scanned = s; refused = h; place = refl; none = no_tree one text ts s (λ f t. h.none f t.spelled t.low) }

-- no program is that of a text whose tree has none
no_program : OneList → OneTree → (text : List ℕ) (ts : List Tok) (f : FileTree) → IsScan text ts → IsTreeOf f ts → ((p : Program) → ProgramOf f p → ⊥) → NoProgram text
no_program one tree text ts f s t h = λ p q.
    let parsed = same_tokens one text ts s p q in
    h p (subst (λ g. ProgramOf g p) (tree q.tree f ts parsed.spelled t.spelled) q.rules)

pub check_refused : OneList → OneTree → (e : CheckError) (text : List ℕ) (f : FileTree) → IsFileOf text f → HasNoProgram e f
    → SaysWhy (Check e (check_position text e)) text
check_refused one tree checking.Memory text f i h = refl
check_refused one tree (checking.Refused code n) text f i h =
    record { tokens = i.tokens; scanned = i.scanned; tree = f; parsed = i.parsed; place = refl; none = no_program one tree text i.tokens f i.scanned i.parsed h }

pub program_is : (text : List ℕ) (f : FileTree) (p : Program) → IsFileOf text f → ProgramOf f p → IsProgramOf text p
program_is text f p i rules = record { tokens = i.tokens; scanned = i.scanned; tree = f; parsed = i.parsed; rules = rules }

-- a token by its index
pub token_there : (tokens : List Token) (i : ℕ) → slice_get (tokens_of tokens) i ≡ option_map token_of (slice_get tokens i)
token_there [] i = refl
token_there (t ∷ ts) zero = refl
token_there (t ∷ ts) (suc i) = token_there ts i
