-- Names and keywords, the longest that stand there.
use Rattle.std.proofs.Common.{◌≡◌, ℕ, ◌<◌, ◌≤◌, true, false, List, length, take, get_or, ap, ◌∙◌, arith}
use Rattle.std.proofs.lemmas.Bool.{or_left}
use Rattle.gr_scan.specs.declared.piece.Piece.{Piece}
use Rattle.gr_scan.specs.declared.piece.Piece.TheVariants as pieces
use Rattle.gr_scan.specs.declared.piece.Class.TheVariants.{Letter}
use Rattle.gr_scan.specs.Pieces.{is_digit, is_letter, is_word, Spells, IsPiece}
use Rattle.gr_scan.specs.Scanning.{class_of}
use Rattle.gr_scan.proofs.Basics.{not_here}
use Rattle.gr_scan.proofs.Classes.{may, holds_at}
use Rattle.gr_scan.proofs.Fronts.{size, byte, at, run_within, run_front}

word_longest : (text : List ℕ) (n : ℕ) → class_of (get_or text 0 0) ≡ Letter → (n < length text → is_word (get_or text n 0) ≡ false) → (q : Piece) (m : ℕ) → may q Letter ≡ true → m ≤ length text → Spells q (take m text) → m ≤ n
word_longest text n c stop pieces.Word m ok le sp = run_within text m m n (omega arith) le stop (λ k lt. sp.2 k (omega (arith, size text m le)))
word_longest text n c stop pieces.Space m ok le sp = not_here ok
word_longest text n c stop pieces.Newline m ok le sp = not_here ok
word_longest text n c stop pieces.Comment m ok le sp = not_here ok
word_longest text n c stop pieces.Number m ok le sp = not_here ok
word_longest text n c stop (pieces.Operator k) m ok le sp = not_here ok
word_longest text n c stop pieces.Fraction m ok le sp = not_here ok
word_longest text n c stop pieces.Text m ok le sp = not_here ok
word_longest text n c stop pieces.OpenComment m ok le sp = not_here ok
word_longest text n c stop pieces.GeneralComment m ok le sp = not_here ok

pub word_piece : (text : List ℕ) (n : ℕ) → 1 ≤ n → n ≤ length text → class_of (get_or text 0 0) ≡ Letter → ((k : ℕ) → 1 ≤ k → k < n → is_word (get_or text k 0) ≡ true) → (n < length text → is_word (get_or text n 0) ≡ false) → IsPiece pieces.Word n text
word_piece text n pos le c all stop =
    let first : is_letter (get_or text 0 0) ≡ true = holds_at (get_or text 0 0) Letter c in
    record {
      fits = le;
      spelled = (
        omega (arith, size text n le),
        ap is_letter (byte text n 0 (omega arith)) ∙ first,
        λ k lt. run_front text n n (omega arith) (or_left (is_letter (get_or text 0 0)) (is_digit (get_or text 0 0)) first) all k (omega (arith, size text n le)),
      );
      longest = λ q m lem sp. word_longest text n c stop q m (at text q m Letter c lem sp) lem sp;
    }
