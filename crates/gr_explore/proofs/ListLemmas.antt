-- Lists of events with one event more, and lists the other way round.
use Rattle.std.proofs.Common.{◌≡◌, ◌≤◌, ◌-◌, ◌+◌, ℕ, zero, suc, List, [], ◌∷◌, ◌++◌, take, drop, length, refl, sym, ◌∙◌, ap, arith}
use Rattle.gr_schedules.specs.Schedules.{newest_first}
use Rattle.gr_schedules.proofs.ScheduleLemmas.{newest_push}

take_front : {A : Type 0} (n : ℕ) (xs ys : List A) → n ≤ length xs → take n (xs ++ ys) ≡ take n xs
take_front zero xs ys h = refl
take_front (suc n) [] ys h = absurd (omega (arith, h))
take_front (suc n) (x ∷ xs) ys h = ap (λ zs. x ∷ zs) (take_front n xs ys (omega (arith, h)))

drop_front : {A : Type 0} (n : ℕ) (xs ys : List A) → n ≤ length xs → drop n (xs ++ ys) ≡ drop n xs ++ ys
drop_front zero xs ys h = refl
drop_front (suc n) [] ys h = absurd (omega (arith, h))
drop_front (suc n) (x ∷ xs) ys h = drop_front n xs ys (omega (arith, h))

-- one event more
pub record OneMore {A : Type 0} (old new : List A) (e : A) (base : ℕ) : Type 0 where
  pub before : take base new ≡ take base old
  pub since : newest_first (drop base new) [] ≡ e ∷ newest_first (drop base old) []
  pub within : base ≤ length new

pub one_more : {A : Type 0} (old new : List A) (e : A) (base : ℕ) → base ≤ length old → new ≡ old ++ e ∷ [] → OneMore old new e base
one_more old new e base h is = record {
  before = ap (take base) is ∙ take_front base old (e ∷ []) h;
  since = ap (λ xs. newest_first xs []) (ap (drop base) is ∙ drop_front base old (e ∷ []) h) ∙ newest_push (drop base old) e;
  within = let l = ap length is in let m = length_more old e in omega (arith, h, l, m);
}
  where
    length_more : {A : Type 0} (xs : List A) (x : A) → length xs ≤ length (xs ++ x ∷ [])
    length_more [] x = omega arith
    length_more (y ∷ xs) x = let l = length_more xs x in omega (arith, l)

length_newest : {A : Type 0} (xs done : List A) → length (newest_first xs done) ≡ length xs + length done
length_newest [] done = omega arith
length_newest (x ∷ xs) done = let l = length_newest xs (x ∷ done) in omega (arith, l)

length_dropped : {A : Type 0} (n : ℕ) (xs : List A) → length (drop n xs) ≡ length xs - n
length_dropped zero xs = omega arith
length_dropped (suc n) [] = omega arith
length_dropped (suc n) (x ∷ xs) = let l = length_dropped n xs in omega (arith, l)

-- how many there are since
pub count_since : {A : Type 0} (n : ℕ) (xs : List A) → length (newest_first (drop n xs) []) ≡ length xs - n
count_since n xs = let l = length_newest (drop n xs) [] in let d = length_dropped n xs in omega (arith, l, d)

-- the other way round and back
back_again : {A : Type 0} (xs ys zs : List A) → newest_first (newest_first xs ys) zs ≡ newest_first ys (xs ++ zs)
back_again [] ys zs = refl
back_again (x ∷ xs) ys zs = back_again xs (x ∷ ys) zs

no_more : {A : Type 0} (xs : List A) → xs ++ [] ≡ xs
no_more [] = refl
no_more (x ∷ xs) = ap (λ ys. x ∷ ys) (no_more xs)

pub same_newest : {A : Type 0} (xs ys : List A) → newest_first xs [] ≡ newest_first ys [] → xs ≡ ys
same_newest xs ys e = sym (no_more xs) ∙ sym (back_again xs [] []) ∙ ap (λ zs. newest_first zs []) e ∙ back_again ys [] [] ∙ no_more ys
