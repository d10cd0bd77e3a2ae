-- Operators, the longest that stand there.
use Rattle.std.proofs.Common.{◌≡◌, ℕ, ◌≤◌, Bool, true, false, List, length, take, get_or, refl, sym, subst, arith, inl, inr, ⊎_elim, true≢false}
use Rattle.std.specs.Prelude.{Some, None, ◌==◌, ◌&&◌, ◌||◌, not, nat_le}
use Rattle.std.proofs.lemmas.Bool.{and_parts, or_cases, cases_Bool}
use Rattle.gr_scan.specs.declared.token.Mark.{Mark}
use Rattle.gr_scan.specs.declared.piece.Piece.{Piece}
use Rattle.gr_scan.specs.declared.piece.Piece.TheVariants as pieces
use Rattle.gr_scan.specs.declared.piece.Class.TheVariants.{Other}
use Rattle.gr_scan.specs.Marks.{operators}
use Rattle.gr_scan.specs.Pieces.{is_digit, Spells, IsPiece, NoPiece}
use Rattle.gr_scan.specs.Scanning.{first_prefix, class_of, OnlyMarks}
use Rattle.gr_scan.proofs.Basics.{not_here}
use Rattle.gr_scan.proofs.Tables.{operators_descend, prefix_none, prefix_longest, prefix_some}
use Rattle.gr_scan.proofs.Classes.{may, follows_so}
use Rattle.gr_scan.proofs.Fronts.{at}

pub mark_piece : (text : List ℕ) (k : Mark) (n : ℕ) → OnlyMarks text → first_prefix operators text ≡ Some (k, n) → IsPiece (pieces.Operator k) n text
mark_piece text k n only e =
    let w = prefix_some operators text k n e in
    record {
      fits = w.0;
      spelled = w.1;
      longest = λ q m lem sp.
          let o = only q m lem sp in
          prefix_longest operators text k o.0 n m operators_descend e lem (subst (λ p. Spells p (take m text)) o.1 sp);
    }

pub no_mark : (text : List ℕ) → OnlyMarks text → first_prefix operators text ≡ None → NoPiece text
no_mark text only e q m lem sp =
    let o = only q m lem sp in
    prefix_none operators text o.0 m e lem (subst (λ p. Spells p (take m text)) o.1 sp)

le_two : (n : ℕ) → nat_le n 2 ≡ true → n ≤ 2
le_two n e = grind arith

not_true : (t : Bool) → not t ≡ true → t ≡ true → ⊥
not_true true e f = true≢false (sym e)
not_true false e f = true≢false (sym f)

not_is : (t : Bool) → not t ≡ true → t ≡ false
not_is true e = absurd (true≢false (sym e))
not_is false e = refl

-- what follows in an operator that begins with a slash or a point
pub slash_facts : (s : List ℕ) → follows_so s ≡ true → get_or s 0 0 ≡ 47 → (length s ≤ 2) × ((get_or s 1 0 == 47) ≡ false) × ((get_or s 1 0 == 42) ≡ false)
slash_facts s f e =
    let w = and_parts (not (get_or s 0 0 == 47) || (nat_le (length s) 2 && not (get_or s 1 0 == 47) && not (get_or s 1 0 == 42))) (not (get_or s 0 0 == 46) || not (is_digit (get_or s 1 0))) f in
    ⊎_elim
    (λ a. absurd (not_true (get_or s 0 0 == 47) a (rw e refl)))
    (λ a.
    let b = and_parts (nat_le (length s) 2 && not (get_or s 1 0 == 47)) (not (get_or s 1 0 == 42)) a in
    let d = and_parts (nat_le (length s) 2) (not (get_or s 1 0 == 47)) b.0 in
    (le_two (length s) d.0, not_is (get_or s 1 0 == 47) d.1, not_is (get_or s 1 0 == 42) b.1))
    (or_cases (not (get_or s 0 0 == 47)) (nat_le (length s) 2 && not (get_or s 1 0 == 47) && not (get_or s 1 0 == 42)) w.0)

pub slash_second : (s : List ℕ) → follows_so s ≡ true → get_or s 0 0 ≡ 47 → ((get_or s 1 0 == 47) ≡ false) × ((get_or s 1 0 == 42) ≡ false)
slash_second s f e = let w = slash_facts s f e in (w.1, w.2)

pub point_follow : (s : List ℕ) → follows_so s ≡ true → get_or s 0 0 ≡ 46 → is_digit (get_or s 1 0) ≡ true → ⊥
point_follow s f e d =
    let w = and_parts (not (get_or s 0 0 == 47) || (nat_le (length s) 2 && not (get_or s 1 0 == 47) && not (get_or s 1 0 == 42))) (not (get_or s 0 0 == 46) || not (is_digit (get_or s 1 0))) f in
    ⊎_elim
    (λ a. not_true (get_or s 0 0 == 46) a (rw e refl))
    (λ a. not_true (is_digit (get_or s 1 0)) a d)
    (or_cases (not (get_or s 0 0 == 46)) (not (is_digit (get_or s 1 0))) w.1)

pub point_second : (s : List ℕ) → follows_so s ≡ true → get_or s 0 0 ≡ 46 → is_digit (get_or s 1 0) ≡ false
point_second s f e = elim (cases_Bool (is_digit (get_or s 1 0))) [ inl t ↦ absurd (point_follow s f e t) | inr t ↦ t ]

-- any other byte
other_only_at : (q : Piece) → may q Other ≡ true → (mark : Mark) × (q ≡ pieces.Operator mark)
other_only_at (pieces.Operator k) ok = (k, refl)
other_only_at pieces.Space ok = not_here ok
other_only_at pieces.Newline ok = not_here ok
other_only_at pieces.Comment ok = not_here ok
other_only_at pieces.Word ok = not_here ok
other_only_at pieces.Number ok = not_here ok
other_only_at pieces.Fraction ok = not_here ok
other_only_at pieces.Text ok = not_here ok
other_only_at pieces.OpenComment ok = not_here ok
other_only_at pieces.GeneralComment ok = not_here ok

pub other_only : (text : List ℕ) → class_of (get_or text 0 0) ≡ Other → OnlyMarks text
other_only text c q m le sp = other_only_at q (at text q m Other c le sp)
