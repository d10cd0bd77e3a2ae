-- The front of a text.
use Rattle.std.proofs.Common.{◌≡◌, ℕ, zero, suc, ◌<◌, ◌≤◌, true, false, List, [], ◌∷◌, length, take, get_or, refl, ap, sym, ◌∙◌, subst, arith, ⊎_elim, get_or-take, length-take}
use Rattle.std.proofs.lemmas.Bool.{cases_lt}
use Rattle.std.proofs.lemmas.List.{get_or_past}
use Rattle.gr_scan.specs.declared.piece.Piece.{Piece}
use Rattle.gr_scan.specs.declared.piece.Class.{Class}
use Rattle.gr_scan.specs.Pieces.{is_digit, is_word, IsRun, Spells}
use Rattle.gr_scan.specs.Scanning.{class_of}
use Rattle.gr_scan.proofs.Bools.{both}
use Rattle.gr_scan.proofs.Classes.{may, may_begin, spells_length}

pub size : (text : List ℕ) (m : ℕ) → m ≤ length text → length (take m text) ≡ m
size text m le = omega (arith, length-take m text)

pub byte : (text : List ℕ) (m i : ℕ) → i < m → get_or (take m text) i 0 ≡ get_or text i 0
byte text m i lt = rw get_or-take refl

-- the class of the first byte tells which pieces may stand there
pub at : (text : List ℕ) (q : Piece) (m : ℕ) (c : Class) → class_of (get_or text 0 0) ≡ c → m ≤ length text → Spells q (take m text) → may q c ≡ true
at text q m c e le sp =
    let pos : 0 < m = omega (arith, spells_length q (take m text) sp, size text m le) in
    let first : get_or (take m text) 0 0 ≡ get_or text 0 0 = byte text m 0 pos in
    subst (λ k. may q k ≡ true) (ap class_of first ∙ e) (may_begin q (take m text) sp)

-- a run of bytes of names stops where another byte stands
pub run_within : (text : List ℕ) (m j n : ℕ) → j ≤ m → m ≤ length text → (n < length text → is_word (get_or text n 0) ≡ false) → IsRun j (take m text) → j ≤ n
run_within text m j n jm le stop run = ⊎_elim
    (λ lt. both (is_word (get_or text n 0)) (ap is_word (sym (byte text m n (omega arith))) ∙ run n lt) (stop (omega arith)))
    (λ le. le)
    (cases_lt n j)

pub run_front : (text : List ℕ) (m n : ℕ) → n ≤ m → is_word (get_or text 0 0) ≡ true → ((k : ℕ) → 1 ≤ k → k < n → is_word (get_or text k 0) ≡ true) → IsRun n (take m text)
run_front text m n le first all zero lt = ap is_word (byte text m 0 (omega arith)) ∙ first
run_front text m n le first all (suc k) lt = ap is_word (byte text m (suc k) (omega arith)) ∙ all (suc k) (omega arith) lt

pub front_one : (text : List ℕ) → 0 < length text → take 1 text ≡ get_or text 0 0 ∷ []
front_one [] pos = absurd (omega arith)
front_one (x ∷ xs) pos = refl

pub front_two : (text : List ℕ) → 1 < length text → take 2 text ≡ get_or text 0 0 ∷ get_or text 1 0 ∷ []
front_two [] pos = absurd (omega arith)
front_two (x ∷ []) pos = absurd (omega arith)
front_two (x ∷ y ∷ xs) pos = refl

-- a byte is inside a text if it is not 0
pub there : (text : List ℕ) (i : ℕ) (b : ℕ) → get_or text i 0 ≡ b → 0 < b → i < length text
there text i b e pos = ⊎_elim
    (λ lt. lt)
    (λ le. absurd (omega (arith, e, get_or_past text i 0 le)))
    (cases_lt i (length text))

pub digit_there : (text : List ℕ) (i : ℕ) → is_digit (get_or text i 0) ≡ true → i < length text
digit_there text i d = ⊎_elim
    (λ lt. lt)
    (λ le. both (is_digit (get_or text i 0)) d (ap is_digit (get_or_past text i 0 le)))
    (cases_lt i (length text))
