-- Lists that are copied item by item: what was copied is the first items.
use Rattle.std.proofs.Common.{◌≡◌, ℕ, zero, suc, ◌+◌, ◌<◌, List, [], ◌∷◌, ◌++◌, length, take, slice_get, map, Some, None, refl, sym, ap, ◌∙◌, arith}
use Rattle.std.specs.Prelude.{slice_index_or}
use Rattle.std.specs.Option.{unwrap_or}
use Rattle.std.proofs.lemmas.Option.{slice_get-get_or}

-- what is there is one thing
pub some_inj : {A : Type 0} {x y : A} → Some x ≡ Some y → x ≡ y
some_inj {A} {x} h = ap (λ o. unwrap_or o x) h

-- an item that is there has a place in the list
pub is_within : {A : Type 0} → (xs : List A) (n : ℕ) (x : A) → Some x ≡ slice_get xs n → n < length xs
is_within [] n x h = cc
is_within (y ∷ xs) zero x h = omega arith
is_within (y ∷ xs) (suc n) x h = let m = is_within xs n x h in omega arith

-- the item at an index is there
pub is_there : {A : Type 0} → (xs : List A) (n : ℕ) (x : A) → n < length xs → x ≡ slice_index_or xs n x → Some x ≡ slice_get xs n
is_there xs n x within is = ap Some is ∙ sym (slice_get-get_or xs n x within)

-- one item more
take_next : {A : Type 0} → (xs : List A) (n : ℕ) (x : A) → Some x ≡ slice_get xs n → take (n + 1) xs ≡ take n xs ++ x ∷ []
take_next [] n x h = cc
take_next (y ∷ xs) zero x h = ap (λ z. z ∷ []) (some_inj (sym h))
take_next (y ∷ xs) (suc n) x h =
    let one : suc n + 1 ≡ suc (n + 1) = omega arith in rw one (ap (λ l. y ∷ l) (take_next xs n x h))

-- all of them
take_end : {A : Type 0} → (xs : List A) (n : ℕ) → None ≡ slice_get xs n → take n xs ≡ xs
take_end [] zero h = refl
take_end [] (suc n) h = refl
take_end (y ∷ xs) zero h = cc
take_end (y ∷ xs) (suc n) h = ap (λ l. y ∷ l) (take_end xs n h)

-- what is made of a list with one item more
pub map_last : {A B : Type 0} → (f : A → B) (xs : List A) (x : A) → map f (xs ++ x ∷ []) ≡ map f xs ++ f x ∷ []
map_last f [] x = refl
map_last f (y ∷ xs) x = ap (λ l. f y ∷ l) (map_last f xs x)

-- one item more is copied, and all are
pub copied_next : {A : Type 0} → (xs ys new : List A) (n m k : ℕ) (x y : A) → Some x ≡ slice_get xs n → n ≡ m → y ≡ x → new ≡ ys ++ y ∷ []
    → k ≡ m + 1 → ys ≡ take m xs → new ≡ take k xs
copied_next xs ys new n m k x y there at is more after so_far =
    more ∙ ap (λ l. l ++ y ∷ []) so_far ∙ ap (λ z. take m xs ++ z ∷ []) is ∙ sym (take_next xs m x (there ∙ ap (slice_get xs) at))
    ∙ ap (λ i. take i xs) (sym after)

pub copied_end : {A : Type 0} → (xs ys : List A) (n m : ℕ) → None ≡ slice_get xs n → n ≡ m → ys ≡ take m xs → ys ≡ xs
copied_end xs ys n m end at so_far = so_far ∙ take_end xs m (end ∙ ap (slice_get xs) at)

-- what is shown of one item more, and of all
pub shown_next : {A B C : Type 0} → (f : A → C) (g : B → C) (xs : List A) (ys new : List B) (n m k : ℕ) (x : A) (y : B) → Some x ≡ slice_get xs n
    → n ≡ m → g y ≡ f x → new ≡ ys ++ y ∷ [] → k ≡ m + 1 → map g ys ≡ map f (take m xs) → map g new ≡ map f (take k xs)
shown_next f g xs ys new n m k x y there at is more after so_far =
    ap (map g) more ∙ map_last g ys y ∙ ap (λ l. l ++ g y ∷ []) so_far ∙ ap (λ z. map f (take m xs) ++ z ∷ []) is
    ∙ sym (map_last f (take m xs) x) ∙ ap (map f) (sym (take_next xs m x (there ∙ ap (slice_get xs) at))) ∙ ap (λ i. map f (take i xs)) (sym after)

pub shown_end : {A B C : Type 0} → (f : A → C) (g : B → C) (xs : List A) (ys : List B) (n m : ℕ) → None ≡ slice_get xs n → n ≡ m
    → map g ys ≡ map f (take m xs) → map g ys ≡ map f xs
shown_end f g xs ys n m end at so_far = so_far ∙ ap (map f) (take_end xs m (end ∙ ap (slice_get xs) at))

-- what is shown of one item more, by its index
pub shown_at : {A B C : Type 0} → (f : A → C) (g : B → C) (xs : List A) (ys new : List B) (n : ℕ) (x : A) (y : B) → n < length xs
    → x ≡ slice_index_or xs n x → g y ≡ f x → new ≡ ys ++ y ∷ [] → map g ys ≡ map f (take n xs) → map g new ≡ map f (take (n + 1) xs)
shown_at f g xs ys new n x y within at is more so_far =
    shown_next f g xs ys new n n (n + 1) x y (is_there xs n x within at) refl is more refl so_far
