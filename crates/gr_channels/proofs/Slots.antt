-- Which number stands in which slot.
use Rattle.std.proofs.Common.{◌≡◌, ◌⊎◌, ℕ, zero, suc, ◌+◌, ◌-◌, ◌*◌, ◌/◌, ◌%◌, ◌<◌, ◌≤◌, List, [], ◌∷◌, ◌++◌, length, take, Some, None, refl, ap, sym, ◌∙◌, subst, arith, inl, inr, mul-le-mul_right, div-add-mod', eq-eqb, add-zero, mod-lt}
use Rattle.std.specs.Prelude.{slice_get, slice_index_or}
use Rattle.std.proofs.Math.Nat.{add-mod_right}
use Rattle.std.proofs.lemmas.Option.{slice_get_within}
use Rattle.std.proofs.lemmas.Bool.Decides.{eqb_tells}
use Rattle.gr_channels.specs.Changes.{front, last_or}
use Rattle.gr_channels.specs.Objects.{slot_from}

pub le_or_more : (a b : ℕ) → (a ≤ b) ⊎ (b + 1 ≤ a)
le_or_more a b = grind arith

-- two products by one number are equal or at least that number apart
closer : (c p q d : ℕ) → q * c ≡ p * c + d → 0 < d → d < c → ⊥
closer c p q d e some less =
    elim (le_or_more q p) [
      | inl h ↦ omega (arith, mul-le-mul_right c h)
      | inr h ↦ let up : (p + 1) * c ≤ q * c = mul-le-mul_right c h in omega (arith, up)
    ]

-- two numbers that are closer than the capacity have slots of their own
pub apart : (c n d : ℕ) → 0 < d → d < c → (n + d) % c ≡ n % c → ⊥
apart c n d some less same =
    let before = div-add-mod' n c in
    let after = div-add-mod' (n + d) c in
    closer c (n / c) ((n + d) / c) d (omega (arith, before, after, same)) some less

-- none of the numbers belongs into the slot
pub slot_none : {X : Type 0} → (c i n : ℕ) (xs : List X) → ((d : ℕ) → d < length xs → (n + d) % c ≡ i → ⊥) → slot_from c i n xs ≡ None
slot_none c i n [] strange = refl
slot_none c i n (x ∷ xs) strange =
    elim (eqb_tells (n % c) i) [
      | inl h ↦ absurd (strange 0 (omega arith) (ap (λ k. k % c) (add-zero n) ∙ h.1))
      | inr h ↦ rw (h.0) (slot_none c i (n + 1) xs (λ d less same.
          let shift : n + (d + 1) ≡ n + 1 + d = omega arith in
          strange (d + 1) (omega arith) (ap (λ k. k % c) shift ∙ same)))
    ]

-- the slot of the number after the last one is empty where there is room
pub slot_after : {X : Type 0} → (c n : ℕ) (xs : List X) → length xs < c → slot_from c ((n + length xs) % c) n xs ≡ None
slot_after c n xs room =
    slot_none c _ n xs (λ d less same.
    let gap : n + d + (length xs - d) ≡ n + length xs = omega arith in
    apart c (n + d) (length xs - d) (omega arith) (omega arith) (ap (λ k. k % c) gap ∙ sym same))

-- the slot of the number before the first one is empty where there is room
pub slot_before : {X : Type 0} → (c n : ℕ) (xs : List X) → length xs < c → slot_from c (n % c) (n + 1) xs ≡ None
slot_before c n xs room =
    slot_none c _ (n + 1) xs (λ d less same.
    let gap : n + (d + 1) ≡ n + 1 + d = omega arith in
    apart c n (d + 1) (omega arith) (omega arith) (ap (λ k. k % c) gap ∙ same))

-- the first number stands in its own slot
pub slot_first : {X : Type 0} → (c n : ℕ) (x : X) (xs : List X) → slot_from c (n % c) n (x ∷ xs) ≡ Some (n, x)
slot_first c n x xs = rw (eq-eqb (n % c) (n % c) refl) refl

-- a slot that is not the first number's has none of it
pub slot_rest : {X : Type 0} → (c i n : ℕ) (x : X) (xs : List X) → (n % c ≡ i → ⊥) → slot_from c i n (x ∷ xs) ≡ slot_from c i (n + 1) xs
slot_rest c i n x xs other =
    elim (eqb_tells (n % c) i) [ inl h ↦ absurd (other (h.1)) | inr h ↦ rw (h.0) refl ]

pub some_is_not_none : {X : Type 0} {x : X} → Some x ≡ None → ⊥
some_is_not_none e = cc

pub some_inside : {X : Type 0} {p q : X} → Some p ≡ Some q → p ≡ q
some_inside e = cc

-- what a slot holds is the item of that number
pub slot_found : {X : Type 0} → (c i n : ℕ) (xs : List X) (k : ℕ) (v : X) → slot_from c i n xs ≡ Some (k, v) → (n ≤ k) × (slice_get xs (k - n) ≡ Some v) × (k % c ≡ i)
slot_found c i n [] k v e = cc
slot_found {X = X} c i n (x ∷ xs) k v e =
    elim (eqb_tells (n % c) i) [
      | inl h ↦
          let first : Some (n, x) ≡ Some (k, v) = rw (h.0) at e in
          let pair : (n, x) ≡ (k, v) = some_inside first in
          let same : n ≡ k = ap (λ (p : ℕ × X). p.0) pair in
          let value : x ≡ v = ap (λ (p : ℕ × X). p.1) pair in
          let none : k - n ≡ 0 = omega arith in
          (omega arith, rw (none, value) refl, ap (λ m. m % c) (sym same) ∙ h.1)
      | inr h ↦
          let later = slot_found c i (n + 1) xs k v (rw (h.0) at e) in
          let one : k - n ≡ suc (k - (n + 1)) = omega (arith, later.0) in
          (omega (arith, later.0), rw one (later.1), later.2)
    ]

-- an item stands in the slot of its number
pub slot_held : {X : Type 0} → (c i n : ℕ) (xs : List X) (d : ℕ) (v : X) → length xs ≤ c → slice_get xs d ≡ Some v → (n + d) % c ≡ i → slot_from c i n xs ≡ Some (n + d, v)
slot_held c i n [] d v most e own = cc
slot_held c i n (x ∷ xs) zero v most e own =
    let value : x ≡ v = some_inside e in
    let here : n % c ≡ i = ap (λ k. k % c) (sym (add-zero n)) ∙ own in
    rw (eq-eqb (n % c) i here, value, add-zero) refl
slot_held c i n (x ∷ xs) (suc d) v most e own =
    let within : d < length xs = slice_get_within xs d v e in
    let shift : n + suc d ≡ n + 1 + d = omega arith in
    let other : n % c ≡ i → ⊥ = λ h. apart c n (suc d) (omega arith) (omega arith) (own ∙ sym h) in
    slot_rest c i n x xs other ∙ slot_held c i (n + 1) xs d v (omega arith) e (ap (λ k. k % c) (sym shift) ∙ own) ∙ ap (λ k. Some (k, v)) (sym shift)

-- lists that fill the same slots are the same
pub slots_same : {X : Type 0} → (c n : ℕ) (xs ys : List X) → length xs ≡ length ys → length xs ≤ c → ((i : ℕ) → i < c → slot_from c i n xs ≡ slot_from c i n ys) → xs ≡ ys
slots_same c n [] [] long most same = refl
slots_same c n [] (y ∷ ys) long most same = absurd (omega arith)
slots_same c n (x ∷ xs) [] long most same = absurd (omega arith)
slots_same {X = X} c n (x ∷ xs) (y ∷ ys) long most same =
    let below : n % c < c = mod-lt n (omega arith) in
    let pair : (n, x) ≡ (n, y) = some_inside (sym (slot_first c n x xs) ∙ same (n % c) below ∙ slot_first c n y ys) in
    let value : x ≡ y = ap (λ (p : ℕ × X). p.1) pair in
    let rest : xs ≡ ys = slots_same c (n + 1) xs ys (omega arith) (omega arith) (λ i less.
    elim (eqb_tells (n % c) i) [
      | inl h ↦ subst (λ k. slot_from c k (n + 1) xs ≡ slot_from c k (n + 1) ys) (h.1) (slot_before c n xs (omega arith) ∙ sym (slot_before c n ys (omega arith)))
      | inr h ↦ sym (slot_rest c i n x xs (h.1)) ∙ same i less ∙ slot_rest c i n y ys (h.1)
    ]) in
    cc

-- one more item changes its own slot alone
pub slot_snoc : {X : Type 0} → (c i n : ℕ) (xs : List X) (v : X) → ((n + length xs) % c ≡ i → ⊥) → slot_from c i n (xs ++ v ∷ []) ≡ slot_from c i n xs
slot_snoc c i n [] v other = slot_rest c i n v [] (λ h. other (ap (λ k. k % c) (add-zero n) ∙ h))
slot_snoc c i n (x ∷ xs) v other =
    let more : slot_from c i (n + 1) (xs ++ v ∷ []) ≡ slot_from c i (n + 1) xs =
    slot_snoc c i (n + 1) xs v (λ h. let shift : n + suc (length xs) ≡ n + 1 + length xs = omega arith in other (ap (λ k. k % c) shift ∙ h)) in
    elim (eqb_tells (n % c) i) [ inl h ↦ rw (h.0) refl | inr h ↦ rw (h.0) more ]

split_last : {X : Type 0} → (n : ℕ) (xs : List X) → length xs ≡ suc n → (x : X) × (xs ≡ take n xs ++ x ∷ []) × (slice_get xs n ≡ Some x) × ((d : X) → slice_index_or xs n d ≡ x) × (length (take n xs) ≡ n)
split_last n [] long = absurd (omega arith)
split_last zero (x ∷ []) long = (x, refl, refl, λ d. refl, refl)
split_last zero (x ∷ y ∷ ys) long = absurd (omega arith)
split_last (suc n) (x ∷ xs) long =
    let rest = split_last n xs (omega arith) in
    (rest.0, ap (λ l. x ∷ l) (rest.1), rest.2, rest.3, ap suc (rest.4))

-- a list that has an element is a front and a last one
pub front_last : {X : Type 0} → (xs : List X) → 0 < length xs → (x : X) × (xs ≡ front xs ++ x ∷ []) × (slice_get xs (length xs - 1) ≡ Some x) × ((d : X) → last_or xs d ≡ x) × (length (front xs) + 1 ≡ length xs)
front_last xs some =
    let long : length xs ≡ suc (length xs - 1) = omega arith in
    let parts = split_last (length xs - 1) xs long in
    (parts.0, parts.1, parts.2, parts.3, omega (arith, parts.4))

-- another slot has none of the last one
pub slot_front : {X : Type 0} → (c i n : ℕ) (xs : List X) → 0 < length xs → ((n + (length xs - 1)) % c ≡ i → ⊥) → slot_from c i n (front xs) ≡ slot_from c i n xs
slot_front c i n xs some other =
    let parts = front_last xs some in
    let long : length (front xs) ≡ length xs - 1 = omega (arith, parts.4) in
    sym (ap (slot_from c i n) (parts.1) ∙ slot_snoc c i n (front xs) (parts.0) (λ h. other (ap (λ k. (n + k) % c) (sym long) ∙ h)))

-- the last one's slot has nothing of the rest
pub slot_front_own : {X : Type 0} → (c n : ℕ) (xs : List X) → 0 < length xs → length xs ≤ c → slot_from c ((n + (length xs - 1)) % c) n (front xs) ≡ None
slot_front_own c n xs some most =
    let parts = front_last xs some in
    let long : length (front xs) ≡ length xs - 1 = omega (arith, parts.4) in
    subst (λ k. slot_from c ((n + k) % c) n (front xs) ≡ None) long (slot_after c n (front xs) (omega (arith, parts.4)))

-- the last one stands in its own slot
pub slot_last : {X : Type 0} → (c n : ℕ) (xs : List X) → 0 < length xs → length xs ≤ c → (x : X) × (slot_from c ((n + (length xs - 1)) % c) n xs ≡ Some (n + (length xs - 1), x)) × ((d : X) → last_or xs d ≡ x)
slot_last c n xs some most =
    let parts = front_last xs some in
    (parts.0, slot_held c _ n xs (length xs - 1) (parts.0) most (parts.2) refl, parts.3)

-- in a full buffer no slot of one of its numbers is empty: also that of the number before the first one
pub slot_full : {X : Type 0} → (c n : ℕ) (xs : List X) → length xs ≤ c → 0 < c → slot_from c (n % c) (n + 1) xs ≡ None → length xs < c
slot_full c n xs most some none =
    elim (le_or_more c (length xs)) [
      | inl h ↦
          let held = slot_last c (n + 1) xs (omega arith) most in
          let round : n + 1 + (length xs - 1) ≡ n + c = omega arith in
          let own : (n + 1 + (length xs - 1)) % c ≡ n % c = ap (λ k. k % c) round ∙ add-mod_right n c in
          absurd (some_is_not_none (sym (subst (λ k. slot_from c k (n + 1) xs ≡ Some (n + 1 + (length xs - 1), held.0)) own (held.1)) ∙ none))
      | inr h ↦ omega arith
    ]
