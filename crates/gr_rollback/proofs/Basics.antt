-- Facts of options, truth values and lists.
use Rattle.std.proofs.Common.{◌≡◌, ℕ, zero, suc, ◌+◌, ◌-◌, ◌≤◌, ◌<◌, Bool, true, false, ◌||◌, List, [], ◌∷◌, ◌++◌, length, Some, None, refl, ap, sym, ◌∙◌, arith}
use Rattle.std.specs.Prelude.{slice_get}

pub some_inj : {A : Type 0} {x y : A} → Some x ≡ Some y → x ≡ y
some_inj {A} {x} h = ap (λ o. elim o [ Some z ↦ z | None ↦ x ]) h

pub or_left : (a b : Bool) → a ≡ true → (a || b) ≡ true
or_left true b e = refl
or_left false b e = cc

pub or_right : (a b : Bool) → b ≡ true → (a || b) ≡ true
or_right true b e = refl
or_right false b e = e

pub true_not_false : {b : Bool} → b ≡ true → b ≡ false → ⊥
true_not_false e f = cc

pub neither : (a b : Bool) → (a || b) ≡ false → (a ≡ false) × (b ≡ false)
neither true b e = cc
neither false b e = (refl, e)

-- two lists with one item more at the end
not_empty : {A : Type 0} (xs : List A) (x : A) → [] ≡ xs ++ x ∷ [] → ⊥
not_empty [] x e = cc
not_empty (y ∷ xs) x e = cc

pub head_same : {A : Type 0} {x y : A} {xs ys : List A} → x ∷ xs ≡ y ∷ ys → x ≡ y
head_same e = cc

tail_same : {A : Type 0} {x y : A} {xs ys : List A} → x ∷ xs ≡ y ∷ ys → xs ≡ ys
tail_same e = cc

pub ends_same : {A : Type 0} (xs ys : List A) (x y : A) → xs ++ x ∷ [] ≡ ys ++ y ∷ [] → (xs ≡ ys) × (x ≡ y)
ends_same [] [] x y e = (refl, head_same e)
ends_same [] (z ∷ ys) x y e = absurd (not_empty ys y (tail_same e))
ends_same (z ∷ xs) [] x y e = absurd (not_empty xs x (sym (tail_same e)))
ends_same (z ∷ xs) (v ∷ ys) x y e =
    let rest = ends_same xs ys x y (tail_same e) in
    (ap (λ zs. z ∷ zs) rest.0 ∙ ap (λ u. u ∷ ys) (head_same e), rest.1)

pub not_nothing : {A : Type 0} (xs : List A) (x : A) → xs ++ x ∷ [] ≡ [] → ⊥
not_nothing xs x e = not_empty xs x (sym e)

-- the last item of a list
pub record EndsIn {A : Type 0} (xs : List A) (x : A) : Type 0 where
  pub rest : List A
  pub whole : xs ≡ rest ++ x ∷ []

last_at : {A : Type 0} (xs : List A) (k : ℕ) (x : A) → k + 1 ≡ length xs → Some x ≡ slice_get xs k → EndsIn xs x
last_at [] k x long e = absurd (omega arith)
last_at (y ∷ []) zero x long e = record { rest = []; whole = ap (λ z. z ∷ []) (sym (some_inj e)) }
last_at (y ∷ []) (suc k) x long e = absurd (omega arith)
last_at (y ∷ z ∷ zs) zero x long e = absurd (omega arith)
last_at (y ∷ z ∷ zs) (suc k) x long e =
    let further = last_at (z ∷ zs) k x (omega arith) e in
    record { rest = y ∷ further.rest; whole = ap (λ l. y ∷ l) further.whole }

none_at : {A : Type 0} (xs : List A) (k : ℕ) → k < length xs → None ≡ slice_get xs k → ⊥
none_at [] k within e = omega arith
none_at (x ∷ xs) zero within e = cc
none_at (x ∷ xs) (suc k) within e = none_at xs k (omega arith) e

none_past : {A : Type 0} (xs : List A) (k : ℕ) → length xs ≤ k → None ≡ slice_get xs k
none_past [] k past = refl
none_past (x ∷ xs) zero past = absurd (omega arith)
none_past (x ∷ xs) (suc k) past = none_past xs k (omega arith)

pub last_item : {A : Type 0} (xs : List A) (x : A) → Some x ≡ slice_get xs (length xs - 1) → EndsIn xs x
last_item {A} [] x e = absurd (let f : Some x ≡ None = e ∙ sym (none_past {A = A} [] (length {A = A} [] - 1) (omega arith)) in cc)
last_item (y ∷ ys) x e = last_at (y ∷ ys) (length (y ∷ ys) - 1) x (omega arith) e

pub no_item : {A : Type 0} (xs : List A) → None ≡ slice_get xs (length xs - 1) → xs ≡ []
no_item [] e = refl
no_item (y ∷ ys) e = absurd (none_at (y ∷ ys) (length (y ∷ ys) - 1) (omega arith) e)

pub last_same : {A : Type 0} (xs front : List A) (r x : A) → xs ≡ front ++ r ∷ [] → Some x ≡ slice_get xs (length xs - 1) → x ≡ r
last_same xs front r x whole there =
    let end = last_item xs x there in
    (ends_same end.rest front x r (sym end.whole ∙ whole)).1
