-- Comments, the longest that stand there.
use Rattle.std.proofs.Common.{◌≡◌, ℕ, zero, suc, ◌<◌, ◌≤◌, ◌+◌, ◌-◌, true, List, length, take, get_or, refl, ap, sym, ◌∙◌, subst, arith, ⊎_elim}
use Rattle.std.proofs.lemmas.Bool.{cases_lt}
use Rattle.gr_scan.specs.declared.token.Mark.{Mark}
use Rattle.gr_scan.specs.declared.piece.Piece.{Piece}
use Rattle.gr_scan.specs.declared.piece.Piece.TheVariants as pieces
use Rattle.gr_scan.specs.declared.piece.Class.TheVariants.{Slash}
use Rattle.gr_scan.specs.Pieces.{Closes, Spells, IsPiece}
use Rattle.gr_scan.specs.Scanning.{class_of, IsFirstEnd}
use Rattle.gr_scan.proofs.Basics.{not_here}
use Rattle.gr_scan.proofs.Classes.{may, holds_at, spells_length, operator_follows}
use Rattle.gr_scan.proofs.Fronts.{size, byte, at, front_two}
use Rattle.gr_scan.proofs.OperatorPieces.{slash_facts}

-- an operator that begins with a slash has two bytes at most
slash_mark : (text : List ℕ) (k : Mark) (m : ℕ) → class_of (get_or text 0 0) ≡ Slash → m ≤ length text → Spells (pieces.Operator k) (take m text) → m ≤ 2
slash_mark text k m c le sp =
    let pos : 0 < m = omega (arith, spells_length (pieces.Operator k) (take m text) sp, size text m le) in
    let first : get_or (take m text) 0 0 ≡ 47 = byte text m 0 pos ∙ holds_at (get_or text 0 0) Slash c in
    omega (arith, (slash_facts (take m text) (operator_follows k (take m text) sp) first).0, size text m le)

comment_longest : (text : List ℕ) (n : ℕ) → 2 ≤ n → class_of (get_or text 0 0) ≡ Slash → get_or text 1 0 ≡ 47 → (n < length text → get_or text n 0 ≡ 10) → (q : Piece) (m : ℕ) → may q Slash ≡ true → m ≤ length text → Spells q (take m text) → m ≤ n
comment_longest text n two c second stop pieces.Comment m ok le sp = ⊎_elim
    (λ lt. absurd (sp.3 n (omega (arith, size text m le)) (byte text m n lt ∙ stop (omega arith))))
    (λ le. le)
    (cases_lt n m)
comment_longest text n two c second stop (pieces.Operator k) m ok le sp = omega (arith, slash_mark text k m c le sp)
comment_longest text n two c second stop pieces.GeneralComment m ok le sp =
    let e = byte text m 1 (omega (arith, sp.0, size text m le)) in absurd (omega (arith, e, sp.2, second))
comment_longest text n two c second stop pieces.OpenComment m ok le sp = omega (arith, ap length sp, size text m le)
comment_longest text n two c second stop pieces.Space m ok le sp = not_here ok
comment_longest text n two c second stop pieces.Newline m ok le sp = not_here ok
comment_longest text n two c second stop pieces.Word m ok le sp = not_here ok
comment_longest text n two c second stop pieces.Number m ok le sp = not_here ok
comment_longest text n two c second stop pieces.Fraction m ok le sp = not_here ok
comment_longest text n two c second stop pieces.Text m ok le sp = not_here ok

comment_inside : (text : List ℕ) (n : ℕ) → n ≤ length text → get_or text 0 0 ≡ 47 → get_or text 1 0 ≡ 47 → ((k : ℕ) → 2 ≤ k → k < n → get_or text k 0 ≡ 10 → ⊥) → (k : ℕ) → k < n → get_or (take n text) k 0 ≡ 10 → ⊥
comment_inside text n le a b all zero lt e = omega (arith, a, byte text n 0 lt)
comment_inside text n le a b all (suc zero) lt e = omega (arith, b, byte text n 1 lt)
comment_inside text n le a b all (suc (suc k)) lt e = all (suc (suc k)) (omega arith) lt (sym (byte text n (suc (suc k)) lt) ∙ e)

pub comment_piece : (text : List ℕ) (n : ℕ) → 2 ≤ n → n ≤ length text → class_of (get_or text 0 0) ≡ Slash → get_or text 1 0 ≡ 47 → ((k : ℕ) → 2 ≤ k → k < n → get_or text k 0 ≡ 10 → ⊥) → (n < length text → get_or text n 0 ≡ 10) → IsPiece pieces.Comment n text
comment_piece text n two le c second all stop =
    let first : get_or text 0 0 ≡ 47 = holds_at (get_or text 0 0) Slash c in
    record {
      fits = le;
      spelled = (
        omega (arith, size text n le),
        byte text n 0 (omega arith) ∙ first,
        byte text n 1 (omega arith) ∙ second,
        λ k lt. comment_inside text n le first second all k (omega (arith, size text n le)),
      );
      longest = λ q m lem sp. comment_longest text n two c second stop q m (at text q m Slash c lem sp) lem sp;
    }

closes_front : (text : List ℕ) (m k : ℕ) → k + 1 < m → Closes text k → Closes (take m text) k
closes_front text m k lt w = (byte text m k (omega arith) ∙ w.0, byte text m (k + 1) lt ∙ w.1)

closes_whole : (text : List ℕ) (m k : ℕ) → k + 1 < m → Closes (take m text) k → Closes text k
closes_whole text m k lt w = (sym (byte text m k (omega arith)) ∙ w.0, sym (byte text m (k + 1) lt) ∙ w.1)

general_longest : (text : List ℕ) (n : ℕ) → class_of (get_or text 0 0) ≡ Slash → get_or text 1 0 ≡ 42 → IsFirstEnd n text → (q : Piece) (m : ℕ) → may q Slash ≡ true → m ≤ length text → Spells q (take m text) → m ≤ n
general_longest text n c second f pieces.Comment m ok le sp =
    let e = byte text m 1 (omega (arith, sp.0, size text m le)) in absurd (omega (arith, e, sp.2, second))
general_longest text n c second f (pieces.Operator k) m ok le sp = omega (arith, slash_mark text k m c le sp, f.0)
general_longest text n c second f pieces.GeneralComment m ok le sp = ⊎_elim
    (λ lt. absurd (sp.4 (n - 2) (omega (arith, f.0)) (omega (arith, f.0, size text m le)) (closes_front text m (n - 2) (omega (arith, f.0)) f.2)))
    (λ le. le)
    (cases_lt n m)
general_longest text n c second f pieces.OpenComment m ok le sp = omega (arith, ap length sp, size text m le, f.0)
general_longest text n c second f pieces.Space m ok le sp = not_here ok
general_longest text n c second f pieces.Newline m ok le sp = not_here ok
general_longest text n c second f pieces.Word m ok le sp = not_here ok
general_longest text n c second f pieces.Number m ok le sp = not_here ok
general_longest text n c second f pieces.Fraction m ok le sp = not_here ok
general_longest text n c second f pieces.Text m ok le sp = not_here ok

pub general_piece : (text : List ℕ) (n : ℕ) → class_of (get_or text 0 0) ≡ Slash → get_or text 1 0 ≡ 42 → IsFirstEnd n text → IsPiece pieces.GeneralComment n text
general_piece text n c second f =
    let long : length (take n text) ≡ n = size text n f.1 in
    record {
      fits = f.1;
      spelled = (
        omega (arith, f.0),
        byte text n 0 (omega (arith, f.0)) ∙ holds_at (get_or text 0 0) Slash c,
        byte text n 1 (omega (arith, f.0)) ∙ second,
        subst (λ k. Closes (take n text) (k - 2)) (sym long) (closes_front text n (n - 2) (omega (arith, f.0)) f.2),
        λ k low high w. f.3 k low (omega arith) (closes_whole text n k (omega arith) w),
      );
      longest = λ q m lem sp. general_longest text n c second f q m (at text q m Slash c lem sp) lem sp;
    }

open_longest : (text : List ℕ) → class_of (get_or text 0 0) ≡ Slash → get_or text 1 0 ≡ 42 → ((k : ℕ) → 2 ≤ k → Closes text k → ⊥) → (q : Piece) (m : ℕ) → may q Slash ≡ true → m ≤ length text → Spells q (take m text) → m ≤ 2
open_longest text c second none pieces.Comment m ok le sp =
    let e = byte text m 1 (omega (arith, sp.0, size text m le)) in absurd (omega (arith, e, sp.2, second))
open_longest text c second none (pieces.Operator k) m ok le sp = slash_mark text k m c le sp
open_longest text c second none pieces.GeneralComment m ok le sp =
    absurd (none (length (take m text) - 2) (omega (arith, sp.0)) (closes_whole text m (length (take m text) - 2) (omega (arith, sp.0, size text m le)) sp.3))
open_longest text c second none pieces.OpenComment m ok le sp = omega (arith, ap length sp, size text m le)
open_longest text c second none pieces.Space m ok le sp = not_here ok
open_longest text c second none pieces.Newline m ok le sp = not_here ok
open_longest text c second none pieces.Word m ok le sp = not_here ok
open_longest text c second none pieces.Number m ok le sp = not_here ok
open_longest text c second none pieces.Fraction m ok le sp = not_here ok
open_longest text c second none pieces.Text m ok le sp = not_here ok

pub open_piece : (text : List ℕ) → 1 < length text → class_of (get_or text 0 0) ≡ Slash → get_or text 1 0 ≡ 42 → ((k : ℕ) → 2 ≤ k → Closes text k → ⊥) → IsPiece pieces.OpenComment 2 text
open_piece text long c second none = record {
  fits = omega arith;
  spelled = front_two text long ∙ rw (holds_at (get_or text 0 0) Slash c, second) refl;
  longest = λ q m lem sp. open_longest text c second none q m (at text q m Slash c lem sp) lem sp;
}
