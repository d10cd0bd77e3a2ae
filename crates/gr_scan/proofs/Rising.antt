-- The tokens of a text stand one after another.
use Rattle.std.proofs.Common.{◌≡◌, ℕ, ◌+◌, ◌<◌, ◌≤◌, ◌==◌, Bool, true, false, cond, List, [], ◌∷◌, ◌++◌, length, take, refl, sym, subst, arith}
use Rattle.std.specs.Prelude.{Option, Some, None}
use Rattle.std.proofs.lemmas.Option.{same_Some}
use Rattle.gr_scan.specs.declared.token.Place.{Place}
use Rattle.gr_scan.specs.declared.piece.Piece.{Piece}
use Rattle.gr_scan.specs.declared.piece.Piece.TheVariants as pieces
use Rattle.gr_scan.specs.Numbers.{number_of}
use Rattle.gr_scan.specs.Strings.{text_of}
use Rattle.gr_scan.specs.Tokens.{Tok, At}
use Rattle.gr_scan.specs.Pieces.{Cut, end, piece}
use Rattle.gr_scan.specs.Rising.{RiseFrom}
use Rattle.gr_scan.specs.Scan.{Item, LineEnd, It, number_items, text_items, newlines, items_of, line_after, both_items, all_items, ends, with_semicolons, mark_size, IsScan}
use Rattle.gr_scan.proofs.Classes.{spells_length}

-- the tokens may begin earlier
pub rise_earlier : (m n : ℕ) → m ≤ n → (ts : List Tok) → RiseFrom n ts → RiseFrom m ts
rise_earlier m n le [] r = tt
rise_earlier m n le (At p w ∷ ts) r = let at : n ≤ p.start = r.0 in (omega arith, r.1)

-- where an item starts, and items that rise
abbrev starts : Item → ℕ
starts (LineEnd at line) = at
starts (It (At p w)) = p.start

abbrev ItemsRise : ℕ → List Item → Type 0
ItemsRise n [] = Unit {0}
ItemsRise n (i ∷ is) = (n ≤ starts i) × ItemsRise (starts i + 1) is

items_earlier : (m n : ℕ) → m ≤ n → (is : List Item) → ItemsRise n is → ItemsRise m is
items_earlier m n le [] r = tt
items_earlier m n le (i ∷ is) r = let at : n ≤ starts i = r.0 in (omega arith, r.1)

-- a piece has one item at most, which begins where it does
abbrev OneAt : ℕ → List Item → Type 0
OneAt n [] = Unit {0}
OneAt n (i ∷ is) = (starts i ≡ n) × (is ≡ [])

one_is : (n : ℕ) (is js : List Item) → OneAt n is → Some is ≡ Some js → OneAt n js
one_is n is js one e = subst (OneAt n) (same_Some is js e) one

number_one : (o : Option ℕ) (at : Place) (is : List Item) → number_items o at ≡ Some is → OneAt at.start is
number_one None at is e = absurd cc
number_one (Some n) at is e = one_is at.start _ is (refl, refl) e

text_one : (o : Option (List ℕ)) (at : Place) (is : List Item) → text_items o at ≡ Some is → OneAt at.start is
text_one None at is e = absurd cc
text_one (Some bytes) at is e = one_is at.start _ is (refl, refl) e

comment_one : (b : Bool) (start line : ℕ) → OneAt start (cond b [] (LineEnd start line ∷ []))
comment_one true start line = tt
comment_one false start line = (refl, refl)

one_item : (p : Piece) (s : List ℕ) (start line : ℕ) (is : List Item) → items_of p s start line ≡ Some is → OneAt start is
one_item pieces.Space s start line is e = one_is start [] is tt e
one_item pieces.Newline s start line is e = one_is start (LineEnd start line ∷ []) is (refl, refl) e
one_item pieces.Comment s start line is e = one_is start [] is tt e
one_item pieces.GeneralComment s start line is e = one_is start _ is (comment_one (newlines s == 0) start line) e
one_item pieces.OpenComment s start line is e = absurd cc
one_item pieces.Word s start line is e = one_is start _ is (refl, refl) e
one_item pieces.Number s start line is e = number_one (number_of s) _ is e
one_item (pieces.Operator mark) s start line is e = one_is start _ is (refl, refl) e
one_item pieces.Fraction s start line is e = absurd cc
one_item pieces.Text s start line is e = text_one (text_of s) _ is e

both_rise : (n m : ℕ) (is js : List Item) → OneAt n is → n < m → ItemsRise m js → ItemsRise n (is ++ js)
both_rise n m [] js one less r = items_earlier n m (omega arith) js r
both_rise n m (i ∷ is) js one less r =
    let at : starts i ≡ n = one.0 in
    rw one.1 (omega (arith, at), items_earlier (starts i + 1) m (omega (arith, at)) js r)

parts_of : (a b : Option (List Item)) (ks : List Item) → both_items a b ≡ Some ks
    → (is : List Item) × (js : List Item) × (a ≡ Some is) × (b ≡ Some js) × (is ++ js ≡ ks)
parts_of None b ks e = absurd cc
parts_of (Some is) None ks e = absurd cc
parts_of (Some is) (Some js) ks e = (is, js, refl, refl, same_Some (is ++ js) ks e)

items_rise : {ps : List (Piece × List ℕ)} {text : List ℕ} (start line : ℕ) (ks : List Item) → Cut ps text
    → all_items start line ps ≡ Some ks → ItemsRise start ks
items_rise start line ks end e = subst (ItemsRise start) (same_Some (LineEnd start line ∷ []) ks e) (omega arith, tt)
items_rise start line ks (piece {p = p} {n = n} {ps = ps} {text = text} a cut) e =
    let s = take n text in
    let w = parts_of (items_of p s start line) (all_items (start + length s) (line_after p s line) ps) ks e in
    let more = items_rise (start + length s) (line_after p s line) w.1 cut w.3 in
    let filled = spells_length p s a.spelled in
    subst (ItemsRise start) w.4 (both_rise start (start + length s) w.0 w.1 (one_item p s start line w.0 w.2) (omega (arith, filled)) more)

-- semicolons stand at the ends of lines
semicolons_rise : (n : ℕ) (wanted : Bool) (is : List Item) → ItemsRise n is → RiseFrom n (with_semicolons wanted is)
semicolons_rise n wanted [] r = tt
semicolons_rise n true (LineEnd at line ∷ is) r = (r.0, semicolons_rise (at + 1) false is r.1)
semicolons_rise n false (LineEnd at line ∷ is) r =
    let le : n ≤ at = r.0 in
    rise_earlier n (at + 1) (omega arith) _ (semicolons_rise (at + 1) false is r.1)
semicolons_rise n wanted (It (At p w) ∷ is) r = (r.0, semicolons_rise (p.start + 1) (ends (At p w)) is r.1)

pub tokens_rise : (text : List ℕ) (ts : List Tok) → IsScan text ts → RiseFrom 0 ts
tokens_rise text ts s =
    let rise = semicolons_rise (mark_size text) false s.items (items_rise (mark_size text) 1 s.items s.cut s.are) in
    subst (RiseFrom 0) (sym s.tokens) (rise_earlier 0 (mark_size text) (omega arith) _ rise)
