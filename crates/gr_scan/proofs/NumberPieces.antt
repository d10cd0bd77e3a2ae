-- Numbers that begin with a digit, the longest that stand there.
use Rattle.std.proofs.Common.{◌≡◌, ℕ, ◌<◌, ◌≤◌, ◌+◌, ◌-◌, true, false, List, length, take, get_or, ap, sym, ◌∙◌, arith, inl, ⊎_elim}
use Rattle.std.proofs.lemmas.Bool.{cases_lt, or_right}
use Rattle.gr_scan.specs.declared.piece.Piece.{Piece}
use Rattle.gr_scan.specs.declared.piece.Piece.TheVariants as pieces
use Rattle.gr_scan.specs.declared.piece.Class.TheVariants.{Digit}
use Rattle.gr_scan.specs.Pieces.{is_digit, is_letter, is_word, Spells, IsPiece}
use Rattle.gr_scan.specs.Scanning.{class_of}
use Rattle.gr_scan.proofs.Basics.{not_here}
use Rattle.gr_scan.proofs.Bools.{both}
use Rattle.gr_scan.proofs.Classes.{may, holds_at}
use Rattle.gr_scan.proofs.Fronts.{size, byte, at, run_within, run_front}

digit_not_point : {Z : Type 0} (text : List ℕ) (m : ℕ) → 0 < m → class_of (get_or text 0 0) ≡ Digit → get_or (take m text) 0 0 ≡ 46 → Z
digit_not_point text m pos c e =
    both (is_digit (get_or text 0 0)) (holds_at (get_or text 0 0) Digit c) (ap is_digit (sym (byte text m 0 pos) ∙ e))

-- a number, with a point after it or without
number_longest : (text : List ℕ) (n : ℕ) → 1 ≤ n → class_of (get_or text 0 0) ≡ Digit → (n < length text → is_word (get_or text n 0) ≡ false) → (n < length text → get_or text n 0 ≡ 46 → ⊥) → (q : Piece) (m : ℕ) → may q Digit ≡ true → m ≤ length text → Spells q (take m text) → m ≤ n
number_longest text n pos c stop other pieces.Number m ok le sp =
    run_within text m m n (omega arith) le stop (λ k lt. sp.2 k (omega (arith, size text m le)))
number_longest text n pos c stop other pieces.Fraction m ok le sp = ⊎_elim
    (λ w.
    let long : 1 < m = omega (arith, w.0, size text m le) in
    let most : m - 1 ≤ n = run_within text m (m - 1) n (omega arith) le stop (λ k lt. w.2 k (omega (arith, size text m le))) in
    ⊎_elim
    (λ lt.
    let here : n ≡ m - 1 = omega arith in
    let place : length (take m text) - 1 ≡ n = omega (arith, size text m le) in
    absurd (other (omega arith) (sym (byte text m n (omega arith)) ∙ ap (λ k. get_or (take m text) k 0) (sym place) ∙ w.3)))
    (λ le. le)
    (cases_lt n m))
    (λ w. digit_not_point text m (omega (arith, w.0, size text m le)) c w.1)
    sp
number_longest text n pos c stop other pieces.Space m ok le sp = not_here ok
number_longest text n pos c stop other pieces.Newline m ok le sp = not_here ok
number_longest text n pos c stop other pieces.Comment m ok le sp = not_here ok
number_longest text n pos c stop other pieces.Word m ok le sp = not_here ok
number_longest text n pos c stop other (pieces.Operator k) m ok le sp = not_here ok
number_longest text n pos c stop other pieces.Text m ok le sp = not_here ok
number_longest text n pos c stop other pieces.OpenComment m ok le sp = not_here ok
number_longest text n pos c stop other pieces.GeneralComment m ok le sp = not_here ok

pub number_piece : (text : List ℕ) (n : ℕ) → 1 ≤ n → n ≤ length text → class_of (get_or text 0 0) ≡ Digit → ((k : ℕ) → 1 ≤ k → k < n → is_word (get_or text k 0) ≡ true) → (n < length text → is_word (get_or text n 0) ≡ false) → (n < length text → get_or text n 0 ≡ 46 → ⊥) → IsPiece pieces.Number n text
number_piece text n pos le c all stop other =
    let first : is_digit (get_or text 0 0) ≡ true = holds_at (get_or text 0 0) Digit c in
    record {
      fits = le;
      spelled = (
        omega (arith, size text n le),
        ap is_digit (byte text n 0 (omega arith)) ∙ first,
        λ k lt. run_front text n n (omega arith) (or_right (is_letter (get_or text 0 0)) (is_digit (get_or text 0 0)) first) all k (omega (arith, size text n le)),
      );
      longest = λ q m lem sp. number_longest text n pos c stop other q m (at text q m Digit c lem sp) lem sp;
    }

pointed_longest : (text : List ℕ) (n : ℕ) → 1 ≤ n → class_of (get_or text 0 0) ≡ Digit → (n < length text → is_word (get_or text n 0) ≡ false) → (q : Piece) (m : ℕ) → may q Digit ≡ true → m ≤ length text → Spells q (take m text) → m ≤ n + 1
pointed_longest text n pos c stop pieces.Number m ok le sp =
    let most : m ≤ n = run_within text m m n (omega arith) le stop (λ k lt. sp.2 k (omega (arith, size text m le))) in omega arith
pointed_longest text n pos c stop pieces.Fraction m ok le sp = ⊎_elim
    (λ w.
    let most : m - 1 ≤ n = run_within text m (m - 1) n (omega arith) le stop (λ k lt. w.2 k (omega (arith, size text m le))) in
    omega arith)
    (λ w. digit_not_point text m (omega (arith, w.0, size text m le)) c w.1)
    sp
pointed_longest text n pos c stop pieces.Space m ok le sp = not_here ok
pointed_longest text n pos c stop pieces.Newline m ok le sp = not_here ok
pointed_longest text n pos c stop pieces.Comment m ok le sp = not_here ok
pointed_longest text n pos c stop pieces.Word m ok le sp = not_here ok
pointed_longest text n pos c stop (pieces.Operator k) m ok le sp = not_here ok
pointed_longest text n pos c stop pieces.Text m ok le sp = not_here ok
pointed_longest text n pos c stop pieces.OpenComment m ok le sp = not_here ok
pointed_longest text n pos c stop pieces.GeneralComment m ok le sp = not_here ok

pub pointed_piece : (text : List ℕ) (n : ℕ) → 1 ≤ n → n < length text → class_of (get_or text 0 0) ≡ Digit → ((k : ℕ) → 1 ≤ k → k < n → is_word (get_or text k 0) ≡ true) → (n < length text → is_word (get_or text n 0) ≡ false) → get_or text n 0 ≡ 46 → IsPiece pieces.Fraction (n + 1) text
pointed_piece text n pos lt c all stop point =
    let first : is_digit (get_or text 0 0) ≡ true = holds_at (get_or text 0 0) Digit c in
    let long : length (take (n + 1) text) ≡ n + 1 = size text (n + 1) (omega arith) in
    let place : length (take (n + 1) text) - 1 ≡ n = omega arith in
    record {
      fits = omega arith;
      spelled = inl (
        omega arith,
        ap is_digit (byte text (n + 1) 0 (omega arith)) ∙ first,
        (λ k lt. run_front text (n + 1) n (omega arith) (or_right (is_letter (get_or text 0 0)) (is_digit (get_or text 0 0)) first) all k (omega arith)),
        ap (λ k. get_or (take (n + 1) text) k 0) place ∙ byte text (n + 1) n (omega arith) ∙ point,
      );
      longest = λ q m lem sp. pointed_longest text n pos c stop q m (at text q m Digit c lem sp) lem sp;
    }
