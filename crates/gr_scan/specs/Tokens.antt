-- Tokens, without where their letters lie in memory.
use Rattle.std.specs.Prelude.{ℕ, List, [], ◌∷◌}
use Rattle.gr_scan.specs.declared.token.Mark.{Mark}
use Rattle.gr_scan.specs.declared.token.Kind.{Kind}
use Rattle.gr_scan.specs.declared.token.Kind.TheVariants as kinds
use Rattle.gr_scan.specs.declared.token.Place.{Place}
use Rattle.gr_scan.specs.declared.token.Span.{Span}
use Rattle.gr_scan.specs.declared.token.Token.{Token}

-- what a token is: an identifier, a whole number, a string by the bytes that it stands for, or a mark
pub data Word : Type 0 where
  Name : (letters : List ℕ) → Word
  Number : (n : ℕ) → Word
  Text : (bytes : List ℕ) → Word
  Sign : (mark : Mark) → Word

-- a token at its place
pub data Tok : Type 0 where
  At : (place : Place) (word : Word) → Tok

abbrev pub word_of : Kind → Word
word_of (kinds.Name letters) = Name letters.now
word_of (kinds.Number n) = Number n
word_of (kinds.Text bytes) = Text bytes.value.items
word_of (kinds.Mark mark) = Sign mark

abbrev pub place_of_span : Span → Place
place_of_span span = record { start = span.start; end = span.end; line = span.line }

abbrev pub token_of : Token → Tok
token_of token = At (place_of_span token.span) (word_of token.kind)

abbrev pub tokens_of : List Token → List Tok
tokens_of [] = []
tokens_of (t ∷ ts) = token_of t ∷ tokens_of ts
