-- Lines that are cut off bytes one after another.
use Rattle.std.proofs.Common.{◌≡◌, ◌≢◌, ℕ, ◌==◌, ◌<◌, false, List, [], ◌∷◌, ◌++◌, length, refl, sym, ap, ◌∙◌, append_assoc, arith}
use Rattle.gr_serve.specs.Lines.{lines_of, whole_lines}
use Rattle.gr_lines.specs.Bytes.{Plain}

pub not_newline : (b : ℕ) → b ≢ 10 → (b == 10) ≡ false
not_newline b n = grind (arith, n)

-- each line with a newline after it
abbrev pub text_of : List (List ℕ) → List ℕ
text_of [] = []
text_of (l ∷ ls) = l ++ 10 ∷ text_of ls

abbrev pub AllPlain : List (List ℕ) → Type 0
AllPlain [] = Unit {0}
AllPlain (l ∷ ls) = Plain l × AllPlain ls

pub AllPlain-append : (ls ms : List (List ℕ)) → AllPlain ls → AllPlain ms → AllPlain (ls ++ ms)
AllPlain-append [] ms p q = q
AllPlain-append (l ∷ ls) ms p q = (p.0, AllPlain-append ls ms p.1 q)

pub text_of-snoc : (ls : List (List ℕ)) (l : List ℕ) → text_of (ls ++ l ∷ []) ≡ text_of ls ++ (l ++ 10 ∷ [])
text_of-snoc [] l = refl
text_of-snoc (k ∷ ls) l = ap (λ t. k ++ 10 ∷ t) (text_of-snoc ls l) ∙ sym (append_assoc k (10 ∷ text_of ls) (l ++ 10 ∷ []))

pub lines-line : (l rest : List ℕ) → Plain l → lines_of (l ++ 10 ∷ rest) ≡ l ∷ lines_of rest
lines-line [] rest p = refl
lines-line (b ∷ l) rest p = rw (not_newline b p.0, lines-line l rest p.1) refl

pub lines-last : (l : List ℕ) → Plain l → 0 < length l → lines_of l ≡ l ∷ []
lines-last [] p h = absurd (omega arith)
lines-last (b ∷ []) p h = rw (not_newline b p.0) refl
lines-last (b ∷ c ∷ l) p h = rw (not_newline b p.0, lines-last (c ∷ l) p.1 (omega arith)) refl

pub whole-line : (l rest : List ℕ) → Plain l → whole_lines (l ++ 10 ∷ rest) ≡ l ∷ whole_lines rest
whole-line [] rest p = refl
whole-line (b ∷ l) rest p = rw (not_newline b p.0, whole-line l rest p.1) refl

pub whole-last : (l : List ℕ) → Plain l → whole_lines l ≡ []
whole-last [] p = refl
whole-last (b ∷ l) p = rw (not_newline b p.0, whole-last l p.1) refl

pub lines-text : (ls : List (List ℕ)) (rest : List ℕ) → AllPlain ls → lines_of (text_of ls ++ rest) ≡ ls ++ lines_of rest
lines-text [] rest p = refl
lines-text (l ∷ ls) rest p =
    ap lines_of (append_assoc l (10 ∷ text_of ls) rest) ∙ lines-line l (text_of ls ++ rest) p.0 ∙ ap (λ t. l ∷ t) (lines-text ls rest p.1)

pub whole-text : (ls : List (List ℕ)) (rest : List ℕ) → AllPlain ls → whole_lines (text_of ls ++ rest) ≡ ls ++ whole_lines rest
whole-text [] rest p = refl
whole-text (l ∷ ls) rest p =
    ap whole_lines (append_assoc l (10 ∷ text_of ls) rest) ∙ whole-line l (text_of ls ++ rest) p.0 ∙ ap (λ t. l ∷ t) (whole-text ls rest p.1)
