-- Membership in lists, tests, and lists without one of their elements.
use Rattle.std.proofs.Common.{◌≡◌, Bool, true, false, ◌||◌, List, [], ◌∷◌, ◌++◌, ◌⊎◌, refl, sym, ◌∙◌, ap, subst, map, Some, None, inl, inr}
use Rattle.gr_causal.specs.Sequences.{In, Distinct, Before, Rearranges}

pub or_false : (a b : Bool) → (a || b) ≡ false → (a ≡ false) × (b ≡ false)
or_false true b e = (e, absurd (let P : true ≡ false = e in cc))
or_false false b e = (refl, e)

pub or_true : (a b : Bool) → (a || b) ≡ true → (a ≡ true) ⊎ (b ≡ true)
or_true true b e = inl refl
or_true false b e = inr e

pub or_right : (a b : Bool) → b ≡ true → (a || b) ≡ true
or_right true b e = refl
or_right false b e = e

pub or_left : (a b : Bool) → a ≡ true → (a || b) ≡ true
or_left true b e = refl
or_left false b e = absurd (let P : false ≡ true = e in cc)

pub true_or_false : (b : Bool) → (b ≡ true) ⊎ (b ≡ false)
true_or_false true = inl refl
true_or_false false = inr refl

pub In-append_cases : {A : Type 0} (x : A) (xs ys : List A) → In x (xs ++ ys) → In x xs ⊎ In x ys
In-append_cases x [] ys h = inr h
In-append_cases x (y ∷ xs) ys (inl e) = inl (inl e)
In-append_cases x (y ∷ xs) ys (inr h) = elim (In-append_cases x xs ys h) [ inl a ↦ inl (inr a) | inr b ↦ inr b ]

pub In-append_left : {A : Type 0} (x : A) (xs ys : List A) → In x xs → In x (xs ++ ys)
In-append_left x [] ys h = elim h [ ]
In-append_left x (y ∷ xs) ys (inl e) = inl e
In-append_left x (y ∷ xs) ys (inr h) = inr (In-append_left x xs ys h)

pub In-append_right : {A : Type 0} (x : A) (xs ys : List A) → In x ys → In x (xs ++ ys)
In-append_right x [] ys h = h
In-append_right x (y ∷ xs) ys h = inr (In-append_right x xs ys h)

pub Before-right : {A : Type 0} (xs : List A) (a b : A) → Before xs a b → In b xs
Before-right [] a b h = elim h [ ]
Before-right (x ∷ xs) a b (inl h) = inr h.1
Before-right (x ∷ xs) a b (inr h) = inr (Before-right xs a b h)

pub Before-left : {A : Type 0} (xs : List A) (a b : A) → Before xs a b → In a xs
Before-left [] a b h = elim h [ ]
Before-left (x ∷ xs) a b (inl h) = inl h.0
Before-left (x ∷ xs) a b (inr h) = inr (Before-left xs a b h)

pub some_is : {A : Type 0} (a b : A) → Some a ≡ Some b → a ≡ b
some_is a b e = cc

pub none_not : {A : Type 0} (a : A) → None ≡ Some a → ⊥
none_not a e = cc

pub cons_is : {A : Type 0} (a b : A) (xs ys : List A) → a ∷ xs ≡ b ∷ ys → (a ≡ b) × (xs ≡ ys)
cons_is a b xs ys e = (cc, cc)

pub In-map : {A B : Type 0} (f : A → B) (x : A) (xs : List A) → In x xs → In (f x) (map f xs)
In-map f x [] h = elim h [ ]
In-map f x (y ∷ xs) (inl e) = inl (ap f e)
In-map f x (y ∷ xs) (inr h) = inr (In-map f x xs h)

pub In-of_map : {A B : Type 0} (f : A → B) (b : B) (xs : List A) → In b (map f xs) → (x : A) × In x xs × (b ≡ f x)
In-of_map f b [] h = elim h [ ]
In-of_map f b (y ∷ xs) (inl e) = (y, inl refl, e)
In-of_map f b (y ∷ xs) (inr h) = let w = In-of_map f b xs h in (w.0, inr w.1, w.2)

pub Distinct-by_name : {A B : Type 0} (f : A → B) (xs : List A) → Distinct (map f xs) → Distinct xs
Distinct-by_name f [] d = tt
Distinct-by_name f (x ∷ xs) d = (λ h. d.0 (In-map f x xs h), Distinct-by_name f xs d.1)

-- of two elements only one stands before the other
pub Before-one_way : {A : Type 0} (xs : List A) (a b : A) → Distinct xs → Before xs a b → Before xs b a → ⊥
Before-one_way [] a b d h k = elim h [ ]
Before-one_way (x ∷ xs) a b d (inl h) (inl k) = d.0 (subst (λ z. In z xs) k.0 h.1)
Before-one_way (x ∷ xs) a b d (inl h) (inr k) = d.0 (subst (λ z. In z xs) h.0 (Before-right xs b a k))
Before-one_way (x ∷ xs) a b d (inr h) (inl k) = d.0 (subst (λ z. In z xs) k.0 (Before-right xs a b h))
Before-one_way (x ∷ xs) a b d (inr h) (inr k) = Before-one_way xs a b d.1 h k

-- of two elements one stands before the other, or they are one
pub either : {A : Type 0} (xs : List A) (a b : A) → In a xs → In b xs → (a ≡ b) ⊎ (Before xs a b ⊎ Before xs b a)
either [] a b h k = elim h [ ]
either (x ∷ xs) a b (inl h) (inl k) = inl (h ∙ sym k)
either (x ∷ xs) a b (inl h) (inr k) = inr (inl (inl (h, k)))
either (x ∷ xs) a b (inr h) (inl k) = inr (inr (inl (k, h)))
either (x ∷ xs) a b (inr h) (inr k) = elim (either xs a b h k) [ inl e ↦ inl e | inr w ↦ elim w [ inl i ↦ inr (inl (inr i)) | inr i ↦ inr (inr (inr i)) ] ]

-- the list without one occurrence of x
pub data Picks {A : Type 0} (x : A) : List A → List A → Type 0 where
  first : {L : List A} → Picks x (x ∷ L) L
  later : {y : A} {L R : List A} → Picks x L R → Picks x (y ∷ L) (y ∷ R)

module _ {A : Type 0} where
  pub picked : (x : A) (L : List A) → In x L → (R : List A) × Picks x L R
  picked x [] h = elim h [ ]
  picked x (y ∷ L) (inl e) = (L, subst (λ z. Picks x (z ∷ L) L) e first)
  picked x (y ∷ L) (inr h) = let p = picked x L h in (y ∷ p.0, later p.1)

  pub In-picked : (x r : A) (L R : List A) → Picks x L R → In r R → In r L
  In-picked x r L R first h = inr h
  In-picked x r L R (later p) (inl e) = inl e
  In-picked x r L R (later {L = L'} {R = R'} p) (inr h) = inr (In-picked x r L' R' p h)

  pub picked_cases : (x r : A) (L R : List A) → Picks x L R → In r L → (r ≡ x) ⊎ In r R
  picked_cases x r L R first h = h
  picked_cases x r L R (later p) (inl e) = inr (inl e)
  picked_cases x r L R (later {L = L'} {R = R'} p) (inr h) = elim (picked_cases x r L' R' p h) [ inl e ↦ inl e | inr i ↦ inr (inr i) ]

  pub In-itself : (x : A) (L R : List A) → Picks x L R → In x L
  In-itself x L R first = inl refl
  In-itself x L R (later {L = L'} {R = R'} p) = inr (In-itself x L' R' p)

  pub Before-picked : (x a b : A) (L R : List A) → Picks x L R → Before R a b → Before L a b
  Before-picked x a b L R first h = inr h
  Before-picked x a b L R (later {L = L'} {R = R'} p) (inl h) = inl (h.0, In-picked x b L' R' p h.1)
  Before-picked x a b L R (later {L = L'} {R = R'} p) (inr h) = inr (Before-picked x a b L' R' p h)

  pub Distinct-picked : (x : A) (L R : List A) → Picks x L R → Distinct L → Distinct R × (In x R → ⊥)
  Distinct-picked x L R first d = (d.1, d.0)
  Distinct-picked x L R (later {y = y} {L = L'} {R = R'} p) d =
      let i = Distinct-picked x L' R' p d.1 in
      ((λ h. d.0 (In-picked x y L' R' p h), i.0), elim [ inl e ↦ d.0 (subst (λ z. In z L') e (In-itself x L' R' p)) | inr h ↦ i.1 h ])

  -- elements that stand in order still do, where x is neither
  pub Before-kept : (x a b : A) (L R : List A) → Picks x L R → (a ≡ x → ⊥) → (b ≡ x → ⊥) → Before L a b → Before R a b
  Before-kept x a b L R first m n (inl h) = absurd (m h.0)
  Before-kept x a b L R first m n (inr h) = h
  Before-kept x a b L R (later {L = L'} {R = R'} p) m n (inl h) = inl (h.0, elim (picked_cases x b L' R' p h.1) [ inl e ↦ absurd (n e) | inr i ↦ i ])
  Before-kept x a b L R (later {L = L'} {R = R'} p) m n (inr h) = inr (Before-kept x a b L' R' p m n h)

  -- of a rearrangement that begins with x, the rest is one of the rest
  pub rest_rearranged : (L : List A) (x : A) (N R : List A) → Picks x L R → Distinct L → Rearranges L (x ∷ N) → Rearranges R N
  rest_rearranged L x N R p d o =
      let e = Distinct-picked x L R p d in record {
        once = o.once.1;
        all = λ r. (
          λ i. elim ((o.all r).0 (In-picked x r L R p i)) [ inl e' ↦ absurd (e.1 (subst (λ z. In z R) e' i)) | inr j ↦ j ],
          λ i. elim (picked_cases x r L R p ((o.all r).1 (inr i))) [ inl e' ↦ absurd (o.once.0 (subst (λ z. In z N) e' i)) | inr j ↦ j ],
        );
      }

  -- a rearrangement of the rest, with x in front of it, is one of all
  pub front_rearranged : (L : List A) (x : A) (N R : List A) → Picks x L R → Distinct L → Rearranges R N → Rearranges L (x ∷ N)
  front_rearranged L x N R p d o =
      let e = Distinct-picked x L R p d in record {
        once = (λ h. e.1 ((o.all x).1 h), o.once);
        all = λ r. (
          λ h. elim (picked_cases x r L R p h) [ inl q ↦ inl q | inr i ↦ inr ((o.all r).0 i) ],
          elim [ inl q ↦ subst (λ z. In z L) (sym q) (In-itself x L R p) | inr i ↦ In-picked x r L R p ((o.all r).1 i) ],
        );
      }
