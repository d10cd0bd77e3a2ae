-- The kind of a piece is a function of its spelling.
use Rattle.std.proofs.Common.{◌≡◌, ℕ, ◌≤◌, ◌-◌, true, false, cond, List, length, take, get_or, refl, ap, sym, ◌∙◌, subst, arith, ⊎_elim}
use Rattle.std.specs.Prelude.{Option, Some, None, ◌==◌}
use Rattle.std.proofs.lemmas.Bool.Decides.{nat_tests}
use Rattle.std.proofs.lemmas.Option.{same_Some}
use Rattle.gr_scan.specs.declared.token.Mark.{Mark}
use Rattle.gr_scan.specs.declared.piece.Piece.{Piece}
use Rattle.gr_scan.specs.declared.piece.Piece.TheVariants as pieces
use Rattle.gr_scan.specs.declared.piece.Class.{Class}
use Rattle.gr_scan.specs.declared.piece.Class.TheVariants.{Letter, Digit, Space, Newline, Quote, Slash, Point, Other}
use Rattle.gr_scan.specs.Marks.{operators, mark_in}
use Rattle.gr_scan.specs.Pieces.{is_digit, is_letter, is_word, Spells, IsPiece}
use Rattle.gr_scan.specs.Scanning.{class_of}
use Rattle.gr_scan.proofs.Basics.{not_here}
use Rattle.gr_scan.proofs.Classes.{may, may_begin, holds_at, operator_follows, space_class, digit_class}
use Rattle.gr_scan.proofs.Literals.{text_front}
use Rattle.gr_scan.proofs.OperatorPieces.{slash_second, point_second}

abbrev operator_kind : Option Mark → Option Piece
operator_kind (Some mark) = Some (pieces.Operator mark)
operator_kind None = None

-- the kind of a piece that begins with a byte of this class
abbrev kind_at : Class → List ℕ → Option Piece
kind_at Letter s = Some pieces.Word
kind_at Digit s = cond (get_or s (length s - 1) 0 == 46) (Some pieces.Fraction) (Some pieces.Number)
kind_at Space s = Some pieces.Space
kind_at Newline s = Some pieces.Newline
kind_at Quote s = Some pieces.Text
kind_at Slash s = cond (get_or s 1 0 == 47) (Some pieces.Comment) (cond (get_or s 1 0 == 42) (cond (length s == 2) (Some pieces.OpenComment) (Some pieces.GeneralComment)) (operator_kind (mark_in operators s)))
kind_at Point s = cond (is_digit (get_or s 1 0)) (Some pieces.Fraction) (operator_kind (mark_in operators s))
kind_at Other s = operator_kind (mark_in operators s)

not_point : (b : ℕ) → is_word b ≡ true → (b == 46) ≡ false
not_point b e = grind (arith, nat_tests)

operator_kind_is : (k : Mark) (s : List ℕ) (c : Class) → class_of (get_or s 0 0) ≡ c → may (pieces.Operator k) c ≡ true → mark_in operators s ≡ Some k → kind_at c s ≡ Some (pieces.Operator k)
operator_kind_is k s Slash c ok sp =
    let w = slash_second s (operator_follows k s sp) (holds_at (get_or s 0 0) Slash c) in
    rw (w.0, w.1, sp) refl
operator_kind_is k s Point c ok sp =
    let w = point_second s (operator_follows k s sp) (holds_at (get_or s 0 0) Point c) in
    rw (w, sp) refl
operator_kind_is k s Other c ok sp = rw sp refl
operator_kind_is k s Letter c ok sp = not_here ok
operator_kind_is k s Digit c ok sp = not_here ok
operator_kind_is k s Space c ok sp = not_here ok
operator_kind_is k s Newline c ok sp = not_here ok
operator_kind_is k s Quote c ok sp = not_here ok

not_two : (n : ℕ) → 4 ≤ n → (n == 2) ≡ false
not_two n le = grind (arith, nat_tests)

letter_class : (b : ℕ) → is_letter b ≡ true → class_of b ≡ Letter
letter_class b e = rw e refl

at_class : (p : Piece) (s : List ℕ) (c : Class) → class_of (get_or s 0 0) ≡ c → kind_at c s ≡ Some p → kind_at (class_of (get_or s 0 0)) s ≡ Some p
at_class p s c e k = subst (λ x. kind_at x s ≡ Some p) (sym e) k

pub kind_is : (p : Piece) (s : List ℕ) → Spells p s → kind_at (class_of (get_or s 0 0)) s ≡ Some p
kind_is pieces.Space s sp = at_class pieces.Space s Space (space_class (get_or s 0 0) sp.1) refl
kind_is pieces.Newline s sp = at_class pieces.Newline s Newline (ap (λ (x : List ℕ). class_of (get_or x 0 0)) sp) refl
kind_is pieces.Comment s sp = at_class pieces.Comment s Slash (ap class_of sp.1) (rw sp.2 refl)
kind_is pieces.Word s sp = at_class pieces.Word s Letter (letter_class (get_or s 0 0) sp.1) refl
kind_is pieces.Number s sp = at_class pieces.Number s Digit (digit_class (get_or s 0 0) sp.1) (rw (not_point (get_or s (length s - 1) 0) (sp.2 (length s - 1) (omega (arith, sp.0)))) refl)
kind_is (pieces.Operator k) s sp = operator_kind_is k s (class_of (get_or s 0 0)) refl (may_begin (pieces.Operator k) s sp) sp
kind_is pieces.Fraction s sp = ⊎_elim
    (λ w. at_class pieces.Fraction s Digit (digit_class (get_or s 0 0) w.1) (rw w.3 refl))
    (λ w. at_class pieces.Fraction s Point (ap class_of w.1) (rw w.2 refl))
    sp
kind_is pieces.Text s sp = at_class pieces.Text s Quote (ap class_of (text_front s sp.0 sp.1).1) refl
kind_is pieces.GeneralComment s sp = at_class pieces.GeneralComment s Slash (ap class_of sp.1) (rw (sp.2, not_two (length s) sp.0) refl)
kind_is pieces.OpenComment s sp = at_class pieces.OpenComment s Slash (ap (λ (x : List ℕ). class_of (get_or x 0 0)) sp) (rw sp refl)

le_antisymm : (n m : ℕ) → n ≤ m → m ≤ n → n ≡ m
le_antisymm n m a b = omega arith

-- one piece is there
pub one_piece : (text : List ℕ) (p q : Piece) (n m : ℕ) → IsPiece p n text → IsPiece q m text → (p ≡ q) × (n ≡ m)
one_piece text p q n m a b =
    let e : n ≡ m = le_antisymm n m (b.longest p n a.fits a.spelled) (a.longest q m b.fits b.spelled) in
    let s : Spells p (take m text) = subst (λ k. Spells p (take k text)) e a.spelled in
    (same_Some _ _ (sym (kind_is p (take m text) s) ∙ kind_is q (take m text) b.spelled), e)
