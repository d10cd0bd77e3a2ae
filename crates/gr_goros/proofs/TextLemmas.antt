-- Lines that are printed and taken back.
use Rattle.std.proofs.Common.{◌≡◌, ℕ, zero, suc, List, [], ◌∷◌, ◌++◌, ◌-◌, length, take, refl, ap, ◌∙◌, arith, sym, get_or, ◌<◌, ◌+◌}
use Rattle.std.specs.Prelude.{Vec}
use Rattle.gr_goros.specs.Undoing.{front}
use Rattle.gr_goros.specs.Views.{lines_of}

pub lines_last : {A : Type 0} → (ls : List (Vec ℕ A)) (l : Vec ℕ A) → lines_of (ls ++ l ∷ []) ≡ lines_of ls ++ l.items ∷ []
lines_last [] l = refl
lines_last (x ∷ ls) l = ap (λ r. x.items ∷ r) (lines_last ls l)

take_all : {A : Type 0} → (xs ys : List A) → take (length xs) (xs ++ ys) ≡ xs
take_all [] ys = refl
take_all (x ∷ xs) ys = ap (λ r. x ∷ r) (take_all xs ys)

last_length : {A : Type 0} → (xs : List A) (x : A) → length (xs ++ x ∷ []) ≡ suc (length xs)
last_length [] x = refl
last_length (y ∷ xs) x = ap suc (last_length xs x)

pub last_counts : {A : Type 0} → (xs : List A) (x : A) → 0 < length (xs ++ x ∷ [])
last_counts xs x = omega (arith, last_length xs x)

pub front_last : {A : Type 0} → (xs : List A) (x : A) → front (xs ++ x ∷ []) ≡ xs
front_last xs x =
    let e : length (xs ++ x ∷ []) - 1 ≡ length xs = omega (arith, last_length xs x) in
    ap (λ n. take n (xs ++ x ∷ [])) e ∙ take_all xs (x ∷ [])

lines_take : {A : Type 0} → (n : ℕ) (ls : List (Vec ℕ A)) → lines_of (take n ls) ≡ take n (lines_of ls)
lines_take zero ls = refl
lines_take (suc n) [] = refl
lines_take (suc n) (l ∷ ls) = ap (λ r. l.items ∷ r) (lines_take n ls)

pub lines_length : {A : Type 0} → (ls : List (Vec ℕ A)) → length (lines_of ls) ≡ length ls
lines_length [] = refl
lines_length (l ∷ ls) = ap suc (lines_length ls)

pub lines_front : {A : Type 0} → (n : ℕ) (ls new : List (Vec ℕ A)) → n ≡ length ls → new ≡ take (n - 1) ls → lines_of new ≡ front (lines_of ls)
lines_front n ls new e h =
    let m : n - 1 ≡ length (lines_of ls) - 1 = omega (arith, e, lines_length ls) in
    ap lines_of h ∙ lines_take (n - 1) ls ∙ ap (λ n. take n (lines_of ls)) m

pub next_line : {A : Type 0} → (ls : List (Vec ℕ A)) (i : ℕ) (l : Vec ℕ A) → i < length ls → l ≡ get_or ls i l
    → lines_of (take (i + 1) ls) ≡ lines_of (take i ls) ++ l.items ∷ []
next_line [] i l h e = absurd (omega (arith, h))
next_line (x ∷ ls) zero l h e = ap (λ l. l.items ∷ []) (sym e)
next_line (x ∷ ls) (suc i) l h e =
    let one : suc i + 1 ≡ suc (i + 1) = omega arith in rw one (ap (λ r. x.items ∷ r) (next_line ls i l (omega (arith, h)) e))

-- one more line is copied
pub lines_more : {A : Type 0} → (ls copies new : List (Vec ℕ A)) (i : ℕ) (l r : Vec ℕ A) → i < length ls → l ≡ get_or ls i l → r.items ≡ l.items
    → new ≡ copies ++ r ∷ [] → lines_of copies ≡ lines_of (take i ls) → lines_of new ≡ lines_of (take (i + 1) ls)
lines_more ls copies new i l r h e s n c =
    ap lines_of n ∙ lines_last copies r ∙ ap (λ xs. xs ++ r.items ∷ []) c ∙ ap (λ x. lines_of (take i ls) ++ x ∷ []) s ∙ sym (next_line ls i l h e)
