-- What the turns of the loops over statements give.
use Rattle.std.proofs.Common.{◌≡◌, ℕ, ◌<◌, max, false, List, length, refl, ◌∙◌, arith}
use Rattle.std.specs.Prelude.{None, Ok, Err}
use Rattle.gr_scan.specs.declared.token.Token.{Token}
use Rattle.gr_scan.specs.declared.token.Mark.TheVariants as marks
use Rattle.gr_scan.specs.Tokens.{Tok, tokens_of}
use Rattle.gr_tree.specs.Statements.{Statement, Statements}
use Rattle.gr_syntax.specs.Grammar.{after_mark}
use Rattle.gr_syntax.specs.Reading.{ReadError, Found, loop}
use Rattle.gr_syntax.specs.SimpleReading.{stops_at}
use Rattle.gr_syntax.specs.StatementReading.{past_semicolon, added, list_turn, statement_at}
use Rattle.gr_syntax.proofs.Turns.{tokens_length}
use Rattle.gr_syntax.proofs.SoundStatements.{statement_sound}
use Rattle.gr_syntax.proofs.StatementSizes.{statement_shrunk}
use Rattle.gr_syntax.proofs.StatementLists.{turn_statement}

pub statement_shorter : (h : ℕ) (ts rest : List Token) (s : Statement) (k : ℕ) → statement_at h (tokens_of ts) ≡ Ok (s, k, tokens_of rest) → length rest < length ts
statement_shorter h ts rest s k q = omega (arith, tokens_length ts, tokens_length rest, statement_shrunk (statement_sound h (tokens_of ts) (s, k, tokens_of rest) q).spelled)

-- the turns that read a statement
module _ (h : ℕ) (ss : Found Statements) (m : stops_at ss.2 ≡ false) (k : after_mark marks.Semicolon ss.2 ≡ None) where
  pub list_err : (f : ReadError) → statement_at h ss.2 ≡ Err f → loop (list_turn (statement_at h)) ss ≡ Err f
  list_err f q = turn_statement h ss m k ∙ rw q refl

  pub list_bad : (s : Found Statement) (f : ReadError) → statement_at h ss.2 ≡ Ok s → past_semicolon s.2 ≡ Err f → loop (list_turn (statement_at h)) ss ≡ Err f
  list_bad s f q e = turn_statement h ss m k ∙ rw (q, e) refl

  pub list_go : (s : Found Statement) (rest : List Tok) → statement_at h ss.2 ≡ Ok s → past_semicolon s.2 ≡ Ok rest → loop (list_turn (statement_at h)) ss ≡ loop (list_turn (statement_at h)) (added ss.0 s.0, max ss.1 s.1, rest)
  list_go s rest q e = turn_statement h ss m k ∙ rw (q, e) refl
