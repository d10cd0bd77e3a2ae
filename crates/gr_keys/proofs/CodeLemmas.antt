-- Codes of parts make codes of the whole. The crates above use these lemmas too.
use Rattle.std.proofs.Common.{◌≡◌, ℕ, pos, negsuc, zero, suc, nat_lt, ◌^◌, ◌<◌, Bool, true, false, List, [], ◌∷◌, ◌++◌, map, length, Some, None, option_map, if◌then◌else◌, refl, sym, ◌∙◌, ap, append_assoc, arith, ltb-true}
use Rattle.std.specs.Int.{from_le_bytes, to_le_bytes, w64}
use Rattle.std.proofs.lemmas.Nat.{from_le_bytes-to_le_bytes_8}
use Rattle.gr_keys.specs.Codes.{IsCode, IsCodeOf, ones, wide_code, number_code, bit_code, integer_code, option_code, list_code, pair_code}

pub heads : (a b : ℕ) (xs ys : List ℕ) → a ∷ xs ≡ b ∷ ys → (a ≡ b) × (xs ≡ ys)
heads a b xs ys e = (cc, cc)

-- codes that begin with other marks
pub other_marks : {P : Type 0} (a b : ℕ) (xs ys : List ℕ) → (a ≡ b → ⊥) → a ∷ xs ≡ b ∷ ys → P
other_marks a b xs ys n e = absurd (n (heads a b xs ys e).0)

zero_one : {P : Type 0} {xs ys : List ℕ} → 0 ∷ xs ≡ 1 ∷ ys → P
zero_one {P} {xs} {ys} e = other_marks 0 1 xs ys (λ h. cc) e

one_zero : {P : Type 0} {xs ys : List ℕ} → 1 ∷ xs ≡ 0 ∷ ys → P
one_zero {P} {xs} {ys} e = other_marks 1 0 xs ys (λ h. cc) e

pub bits : IsCode bit_code
bits false false xs ys e = (refl, (heads _ _ _ _ e).1)
bits true true xs ys e = (refl, (heads _ _ _ _ e).1)
bits false true xs ys e = zero_one e
bits true false xs ys e = one_zero e

-- codes of one length
same_length : (a b xs ys : List ℕ) → length a ≡ length b → a ++ xs ≡ b ++ ys → (a ≡ b) × (xs ≡ ys)
same_length [] [] xs ys l e = (refl, e)
same_length [] (y ∷ b) xs ys l e = absurd (omega (arith, l))
same_length (x ∷ a) [] xs ys l e = absurd (omega (arith, l))
same_length (x ∷ a) (y ∷ b) xs ys l e =
    let h = heads _ _ _ _ e in
    let w = same_length a b xs ys (omega (arith, l)) h.1 in
    (λ i. h.0 i ∷ w.0 i, w.1)

as_ones : IsCode ones
as_ones zero zero xs ys e = (refl, (heads _ _ _ _ e).1)
as_ones (suc n) (suc m) xs ys e = let w = as_ones n m xs ys (heads _ _ _ _ e).1 in (ap suc w.0, w.1)
as_ones zero (suc m) xs ys e = zero_one e
as_ones (suc n) zero xs ys e = one_zero e

-- what is to be shown of two numbers
abbrev Told : ℕ → ℕ → List ℕ → List ℕ → Type 0
Told n m xs ys = (n ≡ m) × (xs ≡ ys)

wide : (n m : ℕ) (xs ys : List ℕ) (a b : Bool) → nat_lt n (2 ^ 64) ≡ a → nat_lt m (2 ^ 64) ≡ b → wide_code a n ++ xs ≡ wide_code b m ++ ys → Told n m xs ys
wide n m xs ys true true h g e =
    let w = same_length (to_le_bytes w64 n) (to_le_bytes w64 m) xs ys refl (heads _ _ _ _ e).1 in
    (sym (from_le_bytes-to_le_bytes_8 n (ltb-true n (2 ^ 64) h)) ∙ ap (from_le_bytes w64) w.0 ∙ from_le_bytes-to_le_bytes_8 m (ltb-true m (2 ^ 64) g), w.1)
wide n m xs ys false false h g e = as_ones n m xs ys (heads _ _ _ _ e).1
wide n m xs ys true false h g e = other_marks 255 254 _ _ (λ q. omega (arith, q)) e
wide n m xs ys false true h g e = other_marks 254 255 _ _ (λ q. omega (arith, q)) e

-- the first byte of a longer code
wide_mark : (n m : ℕ) (xs ys : List ℕ) (b : Bool) → n < 254 → n ∷ xs ≡ wide_code b m ++ ys → ⊥
wide_mark n m xs ys true l e = let h : n ≡ 255 = (heads _ _ _ _ e).0 in omega (arith, l, h)
wide_mark n m xs ys false l e = let h : n ≡ 254 = (heads _ _ _ _ e).0 in omega (arith, l, h)

numbers_by : (n m : ℕ) (xs ys : List ℕ) (a b : Bool) → nat_lt n 254 ≡ a → nat_lt m 254 ≡ b
    → (if a then n ∷ [] else wide_code (nat_lt n (2 ^ 64)) n) ++ xs ≡ (if b then m ∷ [] else wide_code (nat_lt m (2 ^ 64)) m) ++ ys → Told n m xs ys
numbers_by n m xs ys true true h g e = heads _ _ _ _ e
numbers_by n m xs ys false false h g e = wide n m xs ys (nat_lt n (2 ^ 64)) (nat_lt m (2 ^ 64)) refl refl e
numbers_by n m xs ys true false h g e = absurd (wide_mark n m xs ys (nat_lt m (2 ^ 64)) (ltb-true n 254 h) e)
numbers_by n m xs ys false true h g e = absurd (wide_mark m n ys xs (nat_lt n (2 ^ 64)) (ltb-true m 254 g) (sym e))

pub numbers : IsCode number_code
numbers n m xs ys e = numbers_by n m xs ys (nat_lt n 254) (nat_lt m 254) refl refl e

pub integers : IsCode integer_code
integers (pos n) (pos m) xs ys e = let w = numbers n m xs ys (heads _ _ _ _ e).1 in (ap pos w.0, w.1)
integers (negsuc n) (negsuc m) xs ys e = let w = numbers n m xs ys (heads _ _ _ _ e).1 in (ap negsuc w.0, w.1)
integers (pos n) (negsuc m) xs ys e = zero_one e
integers (negsuc n) (pos m) xs ys e = one_zero e

module _ {A B : Type 0} (f : A → List ℕ) (g : B → List ℕ) (is_f : IsCode f) (is_g : IsCode g) where
  pub pairs : IsCode (pair_code f g)
  pairs x y xs ys e =
      let a = is_f x.0 y.0 (g x.1 ++ xs) (g y.1 ++ ys) (sym (append_assoc (f x.0) (g x.1) xs) ∙ e ∙ append_assoc (f y.0) (g y.1) ys) in
      let b = is_g x.1 y.1 xs ys a.1 in
      (λ i. (a.0 i, b.0 i), b.1)

module _ {A : Type 0} (code : A → List ℕ) (is_code : IsCode code) where
  pub options : IsCode (option_code code)
  options None None xs ys e = (refl, (heads _ _ _ _ e).1)
  options None (Some y) xs ys e = zero_one e
  options (Some x) None xs ys e = one_zero e
  options (Some x) (Some y) xs ys e = let w = is_code x y xs ys (heads _ _ _ _ e).1 in (ap Some w.0, w.1)

  pub lists : IsCode (list_code code)
  lists [] [] xs ys e = (refl, (heads _ _ _ _ e).1)
  lists [] (y ∷ bs) xs ys e = zero_one e
  lists (x ∷ as') [] xs ys e = one_zero e
  lists (x ∷ as') (y ∷ bs) xs ys e =
      let rest = (heads _ _ _ _ e).1 in
      let w = is_code x y (list_code code as' ++ xs) (list_code code bs ++ ys)
      (sym (append_assoc (code x) (list_code code as') xs) ∙ rest ∙ append_assoc (code y) (list_code code bs) ys) in
      let v = lists as' bs xs ys w.1 in
      (λ i. w.0 i ∷ v.0 i, v.1)

-- the code of what a value is seen as, where the value can be told from that
pub seen_as : {A B : Type 0} (code : B → List ℕ) (view : A → B) (back : B → A) → ((x : A) → back (view x) ≡ x) → IsCode code → IsCode (λ x. code (view x))
seen_as code view back told is x y xs ys e = let w = is (view x) (view y) xs ys e in (sym (told x) ∙ ap back w.0 ∙ told y, w.1)

-- the code of what a value is seen as, and what can be told from that
pub told_as : {A B C : Type 0} (code : B → List ℕ) (view : A → B) (told : B → C) → IsCode code → IsCodeOf (λ x. told (view x)) (λ x. code (view x))
told_as code view told is x y xs ys e = let w = is (view x) (view y) xs ys e in (ap told w.0, w.1)

-- what codes of the parts tell, a code of the whole tells
module _ {A B C D : Type 0} (f : A → List ℕ) (g : B → List ℕ) (a : A → C) (b : B → D) (is_f : IsCodeOf a f) (is_g : IsCodeOf b g) where
  pub pairs_told : IsCodeOf {B = C × D} (λ (p : A × B). (a p.0, b p.1)) (pair_code f g)
  pairs_told x y xs ys e =
      let v = is_f x.0 y.0 (g x.1 ++ xs) (g y.1 ++ ys) (sym (append_assoc (f x.0) (g x.1) xs) ∙ e ∙ append_assoc (f y.0) (g y.1) ys) in
      let w = is_g x.1 y.1 xs ys v.1 in
      (λ i. (v.0 i, w.0 i), w.1)

module _ {A B : Type 0} (code : A → List ℕ) (view : A → B) (is_code : IsCodeOf view code) where
  pub options_told : IsCodeOf (option_map view) (option_code code)
  options_told None None xs ys e = (refl, (heads _ _ _ _ e).1)
  options_told None (Some y) xs ys e = zero_one e
  options_told (Some x) None xs ys e = one_zero e
  options_told (Some x) (Some y) xs ys e = let w = is_code x y xs ys (heads _ _ _ _ e).1 in (ap Some w.0, w.1)

  pub lists_told : IsCodeOf (map view) (list_code code)
  lists_told [] [] xs ys e = (refl, (heads _ _ _ _ e).1)
  lists_told [] (y ∷ bs) xs ys e = zero_one e
  lists_told (x ∷ as') [] xs ys e = one_zero e
  lists_told (x ∷ as') (y ∷ bs) xs ys e =
      let rest = (heads _ _ _ _ e).1 in
      let w = is_code x y (list_code code as' ++ xs) (list_code code bs ++ ys)
      (sym (append_assoc (code x) (list_code code as') xs) ∙ rest ∙ append_assoc (code y) (list_code code bs) ys) in
      let v = lists_told as' bs xs ys w.1 in
      (λ i. w.0 i ∷ v.0 i, v.1)

-- another way to write a code
pub written_as : {A : Type 0} (f g : A → List ℕ) → ((x : A) → f x ≡ g x) → IsCode f → IsCode g
written_as f g same is x y xs ys e = is x y xs ys (ap (λ a. a ++ xs) (same x) ∙ e ∙ sym (ap (λ a. a ++ ys) (same y)))
