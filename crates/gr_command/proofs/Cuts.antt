-- The first word of a text.
use Rattle.std.proofs.Common.{◌≡◌, ℕ, true, false, List, [], ◌∷◌, ◌++◌, length, refl, sym, ap, ◌∙◌, ◌<◌, arith}
use Rattle.gr_command.specs.Words.{is_gap, pieces, words_of, is_some_word}
use Rattle.gr_command.specs.Words.{NoGap, BeginsWord, BeginsGap}

pub words-gap : (b : ℕ) (bs : List ℕ) → is_gap b ≡ true → words_of (b ∷ bs) ≡ words_of bs
words-gap b bs h = rw h refl

pub after_gap : (r : List ℕ) → BeginsGap r → (ps : List (List ℕ)) × (pieces r ≡ [] ∷ ps)
after_gap [] h = ([], refl)
after_gap (b ∷ bs) h = (pieces bs, rw h refl)

pub word_piece : (w r : List ℕ) (ps : List (List ℕ)) → NoGap w → pieces r ≡ [] ∷ ps → pieces (w ++ r) ≡ w ∷ ps
word_piece [] r ps n h = h
word_piece (b ∷ w) r ps n h = rw (n.0, word_piece w r ps n.1 h) refl

pub first_word : (w r : List ℕ) → NoGap w → BeginsGap r → is_some_word w ≡ true → words_of (w ++ r) ≡ w ∷ words_of r
first_word w r n g s = let a = after_gap r g in rw (word_piece w r a.0 n a.1, a.1, s) refl

pub NoGap-append : (xs ys : List ℕ) → NoGap xs → NoGap ys → NoGap (xs ++ ys)
NoGap-append [] ys p q = q
NoGap-append (x ∷ xs) ys p q = (p.0, NoGap-append xs ys p.1 q)

-- the first word of a text that begins with one
pub word_first : (text w r : List ℕ) → BeginsWord text → 0 < length text → text ≡ w ++ r → NoGap w → BeginsGap r → words_of text ≡ w ∷ words_of r
word_first [] w r b full e n g = absurd (omega arith)
word_first (t ∷ ts) [] [] b full e n g = cc
word_first (t ∷ ts) [] (x ∷ r) b full e n g = absurd (let h : t ≡ x = cc in let k : is_gap t ≡ true = rw h g in let bad : true ≡ false = sym k ∙ b in cc)
word_first (t ∷ ts) (x ∷ w) r b full e n g = ap words_of e ∙ first_word (x ∷ w) r n g refl
