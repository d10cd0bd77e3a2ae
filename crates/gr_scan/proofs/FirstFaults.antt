-- The first fault of a text.
use Rattle.std.proofs.Common.{◌≡◌, ℕ, ◌<◌, ◌+◌, ◌^◌, Bool, true, false, cond, List, length, take, drop, refl, ap, sym, ◌∙◌, subst}
use Rattle.std.proofs.lemmas.Option.{same_Some}
use Rattle.std.specs.Prelude.{Option, Some, None, Ok, Err, ◌&&◌, nat_le}
use Rattle.gr_scan.specs.declared.token.Place.{Place}
use Rattle.gr_scan.specs.declared.piece.Piece.{Piece}
use Rattle.gr_scan.specs.declared.piece.Piece.TheVariants.{Space, Newline, Comment, GeneralComment, OpenComment, Word, Number, Operator, Fraction, Text}
use Rattle.gr_scan.specs.declared.scan.ScanError.{ScanError}
use Rattle.gr_scan.specs.declared.scan.ScanError.TheVariants as errors
use Rattle.gr_scan.specs.Tokens.{Tok}
use Rattle.gr_scan.specs.Pieces.{IsPiece, NoPiece}
use Rattle.gr_scan.specs.Numbers.{is_number, is_left_out, worth}
use Rattle.gr_scan.specs.Scan.{Item, items_of, number_items, place, mark_size}
use Rattle.gr_scan.specs.Scanning.{Tells, Finds, Puts}
use Rattle.gr_scan.specs.Faults.{piece_fault, stray_fault, FirstFault, stray, here, later, HasFault}
use Rattle.gr_scan.proofs.Basics.{no_value}
use Rattle.gr_scan.proofs.Unique.{one_piece}

-- the first fault of what is left is that of the text
abbrev pub Leads : List ℕ → ℕ → List ℕ → Type 0
Leads text start rest = (e : ScanError) → FirstFault e start rest → FirstFault e (mark_size text) (drop (mark_size text) text)

said : (P : Type 0) (e : ScanError) → Tells e P → P
said P errors.Memory h = absurd h
said P errors.TooLong h = absurd h
said P (errors.Strange at) h = h
said P (errors.Malformed at) h = h
said P (errors.TooGreat at) h = h
said P (errors.MalformedText at) h = h
said P (errors.Unclosed at) h = h
said P (errors.LeftOut at) h = h

pub stray_says : (text : List ℕ) (start : ℕ) (rest : List ℕ) (e : ScanError) → Leads text start rest → 0 < length rest → Tells e (NoPiece rest) → stray_fault start rest ≡ Some e → HasFault e text
stray_says text start rest errors.Memory leads some none is = tt
stray_says text start rest errors.TooLong leads some none is = absurd none
stray_says text start rest (errors.Strange at) leads some none is = leads (errors.Strange at) (stray none some is)
stray_says text start rest (errors.Malformed at) leads some none is = leads (errors.Malformed at) (stray none some is)
stray_says text start rest (errors.TooGreat at) leads some none is = leads (errors.TooGreat at) (stray none some is)
stray_says text start rest (errors.MalformedText at) leads some none is = leads (errors.MalformedText at) (stray none some is)
stray_says text start rest (errors.Unclosed at) leads some none is = leads (errors.Unclosed at) (stray none some is)
stray_says text start rest (errors.LeftOut at) leads some none is = leads (errors.LeftOut at) (stray none some is)

module _ (text : List ℕ) (start line : ℕ) (rest front : List ℕ) (p : Piece) (n : ℕ) where
  found : (e : ScanError) → Leads text start rest → IsPiece p n rest → front ≡ take n rest → piece_fault start p front ≡ Some e → FirstFault e (mark_size text) (drop (mark_size text) text)
  found e leads a f is = leads e (here a (ap (piece_fault start p) (sym f) ∙ is))

  pub piece_says : (e : ScanError) (wanted : Bool) (o : Option (List Item)) (old new : List Tok) → Leads text start rest → IsPiece p n rest → front ≡ take n rest → Puts (Err e) wanted o old new → Finds e (piece_fault start p front) → HasFault e text
  piece_says errors.Memory wanted o old new leads a f puts is = tt
  piece_says errors.TooLong wanted o old new leads a f puts is = absurd puts
  piece_says (errors.Strange at) wanted o old new leads a f puts is = found (errors.Strange at) leads a f is
  piece_says (errors.Malformed at) wanted o old new leads a f puts is = found (errors.Malformed at) leads a f is
  piece_says (errors.TooGreat at) wanted o old new leads a f puts is = found (errors.TooGreat at) leads a f is
  piece_says (errors.MalformedText at) wanted o old new leads a f puts is = found (errors.MalformedText at) leads a f is
  piece_says (errors.Unclosed at) wanted o old new leads a f puts is = found (errors.Unclosed at) leads a f is
  piece_says (errors.LeftOut at) wanted o old new leads a f puts is = found (errors.LeftOut at) leads a f is

-- a piece that gives items has no fault
no_number_fault : (t u : Bool) (w : ℕ) (at : Place) (is : List Item) (great other : Option ScanError) → number_items (cond (t && u) (Some w) None) at ≡ Some is → cond t (cond u None great) other ≡ None
no_number_fault true true w at is great other e = refl
no_number_fault true false w at is great other e = no_value e
no_number_fault false u w at is great other e = no_value e

no_fault : (p : Piece) (s : List ℕ) (start line : ℕ) (is : List Item) → items_of p s start line ≡ Some is → piece_fault start p s ≡ None
no_fault Number s start line is e =
    no_number_fault (is_number s) (nat_le (worth s) (2 ^ 63)) (worth s) (place start (start + length s) line) is (Some (errors.TooGreat start)) (cond (is_left_out s) (Some (errors.LeftOut start)) (Some (errors.Malformed start))) e
no_fault OpenComment s start line is e = no_value e
no_fault Fraction s start line is e = no_value e
no_fault Space s start line is e = refl
no_fault Newline s start line is e = refl
no_fault Comment s start line is e = refl
no_fault GeneralComment s start line is e = refl
no_fault Word s start line is e = refl
no_fault (Operator k) s start line is e = refl
no_fault Text s start line is e = refl

put_items : (b wanted : Bool) (o : Option (List Item)) (old new : List Tok) → Puts (Ok b) wanted o old new → (is : List Item) × (o ≡ Some is)
put_items b wanted (Some is) old new h = (is, refl)
put_items b wanted None old new h = absurd h

-- after a piece of the language
pub leads_on : (text : List ℕ) (start line : ℕ) (rest front others : List ℕ) (p : Piece) (n : ℕ) (b wanted : Bool) (old new : List Tok) → Leads text start rest → IsPiece p n rest → front ≡ take n rest → others ≡ drop n rest → Puts (Ok b) wanted (items_of p front start line) old new → Leads text (start + n) others
leads_on text start line rest front others p n b wanted old new leads a f o puts e first =
    let w = put_items b wanted (items_of p front start line) old new puts in
    let free : piece_fault start p (take n rest) ≡ None = ap (piece_fault start p) (sym f) ∙ no_fault p front start line w.0 w.1 in
    leads e (later a free (subst (λ r. FirstFault e (start + n) r) o first))

-- a text has one first fault
module _ (text : List ℕ) where
  same_fault : (p q : Piece) (n m at : ℕ) (a b : Option ScanError) → IsPiece p n text → IsPiece q m text → piece_fault at p (take n text) ≡ a → piece_fault at q (take m text) ≡ b → a ≡ b
  same_fault p q n m at a b x y e f =
      let w = one_piece text p q n m x y in
      sym e ∙ ap (λ k. piece_fault at k (take n text)) w.0 ∙ ap (λ k. piece_fault at q (take k text)) w.1 ∙ f

pub one_fault : (text : List ℕ) (at : ℕ) (a b : ScanError) → FirstFault a at text → FirstFault b at text → a ≡ b
one_fault text at a b (stray none some e) (stray others more f) = same_Some _ _ (sym e ∙ f)
one_fault text at a b (stray none some e) (here {p = q} {n = m} y f) = absurd (none q m y.fits y.spelled)
one_fault text at a b (stray none some e) (later {p = q} {n = m} y f more) = absurd (none q m y.fits y.spelled)
one_fault text at a b (here {p = p} {n = n} x e) (stray none some f) = absurd (none p n x.fits x.spelled)
one_fault text at a b (later {p = p} {n = n} x e more) (stray none some f) = absurd (none p n x.fits x.spelled)
one_fault text at a b (here {p = p} {n = n} x e) (here {p = q} {n = m} y f) = same_Some _ _ (same_fault text p q n m at (Some a) (Some b) x y e f)
one_fault text at a b (here {p = p} {n = n} x e) (later {p = q} {n = m} y f more) = no_value (sym (same_fault text p q n m at (Some a) None x y e f))
one_fault text at a b (later {p = p} {n = n} x e more) (here {p = q} {n = m} y f) = no_value (same_fault text p q n m at None (Some b) x y e f)
one_fault text at a b (later {p = p} {n = n} x e more) (later {p = q} {n = m} y f others) =
    let w = one_piece text p q n m x y in
    one_fault (drop n text) (at + n) a b more (subst (λ k. FirstFault b (at + k) (drop k text)) (sym w.1) others)
