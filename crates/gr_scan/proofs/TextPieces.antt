-- String literals, the longest that stand there.
use Rattle.std.proofs.Common.{◌≡◌, ℕ, ◌≤◌, true, List, length, take, get_or, refl, sym, ◌∙◌, subst, arith}
use Rattle.std.specs.Prelude.{Some, None}
use Rattle.std.proofs.lemmas.Option.{same_Some}
use Rattle.gr_scan.specs.declared.piece.Piece.{Piece}
use Rattle.gr_scan.specs.declared.piece.Piece.TheVariants as pieces
use Rattle.gr_scan.specs.declared.piece.Class.TheVariants.{Quote}
use Rattle.gr_scan.specs.Pieces.{Spells, IsPiece, NoPiece}
use Rattle.gr_scan.specs.Scanning.{class_of, text_end}
use Rattle.gr_scan.proofs.Basics.{not_here, no_value}
use Rattle.gr_scan.proofs.Literals.{text_found, text_ends}
use Rattle.gr_scan.proofs.Classes.{may, holds_at}
use Rattle.gr_scan.proofs.Fronts.{at}

is_text : (q : Piece) → may q Quote ≡ true → q ≡ pieces.Text
is_text pieces.Text ok = refl
is_text pieces.Space ok = not_here ok
is_text pieces.Newline ok = not_here ok
is_text pieces.Comment ok = not_here ok
is_text pieces.GeneralComment ok = not_here ok
is_text pieces.OpenComment ok = not_here ok
is_text pieces.Word ok = not_here ok
is_text pieces.Number ok = not_here ok
is_text (pieces.Operator k) ok = not_here ok
is_text pieces.Fraction ok = not_here ok

text_there : (text : List ℕ) → class_of (get_or text 0 0) ≡ Quote → (q : Piece) (m : ℕ) → m ≤ length text → Spells q (take m text) → text_end text ≡ Some m
text_there text c q m le sp =
    let w : Spells pieces.Text (take m text) = subst (λ p. Spells p (take m text)) (is_text q (at text q m Quote c le sp)) sp in
    text_ends text m w.0 le w.1

pub text_piece : (text : List ℕ) (n : ℕ) → class_of (get_or text 0 0) ≡ Quote → text_end text ≡ Some n → IsPiece pieces.Text n text
text_piece text n c e =
    let w = text_found text n (holds_at (get_or text 0 0) Quote c) e in
    record {
      fits = w.0;
      spelled = (w.1, w.2);
      longest = λ q m lem sp. omega (arith, same_Some _ _ (sym e ∙ text_there text c q m lem sp));
    }

pub no_text : (text : List ℕ) → class_of (get_or text 0 0) ≡ Quote → text_end text ≡ None → NoPiece text
no_text text c e q m le sp = no_value (sym e ∙ text_there text c q m le sp)
