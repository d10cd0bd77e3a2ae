-- What begins with a point: numbers and operators.
use Rattle.std.proofs.Common.{◌≡◌, ℕ, ◌<◌, ◌≤◌, true, false, List, length, take, get_or, refl, ap, sym, ◌∙◌, arith, inr, ⊎_elim}
use Rattle.std.proofs.lemmas.Bool.{cases_lt}
use Rattle.gr_scan.specs.declared.token.Mark.{Mark}
use Rattle.gr_scan.specs.declared.piece.Piece.{Piece}
use Rattle.gr_scan.specs.declared.piece.Piece.TheVariants as pieces
use Rattle.gr_scan.specs.declared.piece.Class.TheVariants.{Point}
use Rattle.gr_scan.specs.Pieces.{is_digit, Spells, IsPiece}
use Rattle.gr_scan.specs.Scanning.{class_of, OnlyMarks}
use Rattle.gr_scan.proofs.Basics.{not_here}
use Rattle.gr_scan.proofs.Bools.{both}
use Rattle.gr_scan.proofs.Classes.{may, holds_at, operator_follows}
use Rattle.gr_scan.proofs.Fronts.{size, byte, at}
use Rattle.gr_scan.proofs.OperatorPieces.{point_follow}

point_not_digit : {Z : Type 0} (text : List ℕ) (m : ℕ) → 0 < m → class_of (get_or text 0 0) ≡ Point → is_digit (get_or (take m text) 0 0) ≡ true → Z
point_not_digit text m pos c d =
    both (is_digit (get_or (take m text) 0 0)) d (ap is_digit (byte text m 0 pos ∙ holds_at (get_or text 0 0) Point c))

point_longest : (text : List ℕ) → class_of (get_or text 0 0) ≡ Point → is_digit (get_or text 1 0) ≡ true → (q : Piece) (m : ℕ) → may q Point ≡ true → m ≤ length text → Spells q (take m text) → m ≤ 2
point_longest text c digit (pieces.Operator k) m ok le sp = ⊎_elim
    (λ lt. absurd (point_follow (take m text) (operator_follows k (take m text) sp)
    (byte text m 0 (omega arith) ∙ holds_at (get_or text 0 0) Point c)
    (ap is_digit (byte text m 1 (omega arith)) ∙ digit)))
    (λ le. le)
    (cases_lt 2 m)
point_longest text c digit pieces.Fraction m ok le sp = ⊎_elim
    (λ w. point_not_digit text m (omega (arith, w.0, size text m le)) c w.1)
    (λ w. omega (arith, w.0, size text m le))
    sp
point_longest text c digit pieces.Space m ok le sp = not_here ok
point_longest text c digit pieces.Newline m ok le sp = not_here ok
point_longest text c digit pieces.Comment m ok le sp = not_here ok
point_longest text c digit pieces.Word m ok le sp = not_here ok
point_longest text c digit pieces.Number m ok le sp = not_here ok
point_longest text c digit pieces.Text m ok le sp = not_here ok
point_longest text c digit pieces.OpenComment m ok le sp = not_here ok
point_longest text c digit pieces.GeneralComment m ok le sp = not_here ok

pub point_piece : (text : List ℕ) → 1 < length text → class_of (get_or text 0 0) ≡ Point → is_digit (get_or text 1 0) ≡ true → IsPiece pieces.Fraction 2 text
point_piece text long c digit = record {
  fits = omega arith;
  spelled = inr (size text 2 (omega arith), byte text 2 0 (omega arith) ∙ holds_at (get_or text 0 0) Point c, ap is_digit (byte text 2 1 (omega arith)) ∙ digit);
  longest = λ q m lem sp. point_longest text c digit q m (at text q m Point c lem sp) lem sp;
}

point_only_at : (text : List ℕ) → class_of (get_or text 0 0) ≡ Point → is_digit (get_or text 1 0) ≡ false → (q : Piece) (m : ℕ) → may q Point ≡ true → m ≤ length text → Spells q (take m text) → (mark : Mark) × (q ≡ pieces.Operator mark)
point_only_at text c other (pieces.Operator k) m ok le sp = (k, refl)
point_only_at text c other pieces.Fraction m ok le sp = ⊎_elim
    (λ w. point_not_digit text m (omega (arith, w.0, size text m le)) c w.1)
    (λ w. both (is_digit (get_or text 1 0)) (ap is_digit (sym (byte text m 1 (omega (arith, w.0, size text m le)))) ∙ w.2) other)
    sp
point_only_at text c other pieces.Space m ok le sp = not_here ok
point_only_at text c other pieces.Newline m ok le sp = not_here ok
point_only_at text c other pieces.Comment m ok le sp = not_here ok
point_only_at text c other pieces.Word m ok le sp = not_here ok
point_only_at text c other pieces.Number m ok le sp = not_here ok
point_only_at text c other pieces.Text m ok le sp = not_here ok
point_only_at text c other pieces.OpenComment m ok le sp = not_here ok
point_only_at text c other pieces.GeneralComment m ok le sp = not_here ok

pub point_only : (text : List ℕ) → class_of (get_or text 0 0) ≡ Point → is_digit (get_or text 1 0) ≡ false → OnlyMarks text
point_only text c other q m le sp = point_only_at text c other q m (at text q m Point c le sp) le sp
