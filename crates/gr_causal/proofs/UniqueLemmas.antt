-- A part of a log in log order is determined by its members, and the least closed part by where it begins.
use Rattle.std.proofs.Common.{◌≡◌, Bool, true, false, List, [], ◌∷◌, map, ◌↔◌, refl, sym, ◌∙◌, ap, ap₂, subst, inl, inr}
use Rattle.std.specs.List.{list_any}
use Rattle.gr_causal.specs.Sequences.{In, Distinct, Before}
use Rattle.gr_causal.specs.Dependence.{IsLeastClosed, AreTheOthers}
use Rattle.gr_causal.proofs.ListLemmas.{or_true, or_left, or_right, In-map, Distinct-by_name, Before-one_way}
use Rattle.gr_causal.proofs.PartLemmas.{Distinct-in_order}

module _ {A : Type 0} (L : List A) (d : Distinct L) where
  abbrev InOrder : List A → Type 0
  InOrder ds = (a b : A) → Before ds a b → Before L a b

  -- parts in log order that have the same members are the same list
  pub same_part : (ds es : List A) → InOrder ds → InOrder es → ((r : A) → In r ds ↔ In r es) → ds ≡ es
  same_part [] [] o q h = refl
  same_part [] (y ∷ es) o q h = absurd ((h y).1 (inl refl))
  same_part (x ∷ ds) [] o q h = absurd ((h x).0 (inl refl))
  same_part (x ∷ ds) (y ∷ es) o q h =
      let first : x ≡ y = elim ((h x).0 (inl refl)) [
        | inl e ↦ e
        | inr i ↦ elim ((h y).1 (inl refl)) [ inl e ↦ sym e | inr j ↦ absurd (Before-one_way L x y d (o x y (inl (refl, j))) (q y x (inl (refl, i)))) ]
      ] in
      let dx = Distinct-in_order (x ∷ ds) L d o in
      let dy = Distinct-in_order (y ∷ es) L d q in
      ap₂ (λ a b. a ∷ b) first (same_part ds es (λ a b k. o a b (inr k)) (λ a b k. q a b (inr k)) (λ r. (
        λ i. elim ((h r).0 (inr i)) [ inl e ↦ absurd (dx.0 (subst (λ z. In z ds) (e ∙ sym first) i)) | inr j ↦ j ],
        λ i. elim ((h r).1 (inr i)) [ inl e ↦ absurd (dy.0 (subst (λ z. In z es) (e ∙ first) i)) | inr j ↦ j ],
      )))

  pub same_others : (ds ks ls : List A) → AreTheOthers L ds ks → AreTheOthers L ds ls → ks ≡ ls
  same_others ds ks ls o q = same_part ks ls o.in_order q.in_order (λ r. (
    λ h. elim (q.each r (o.others r h).0) [ inl i ↦ absurd ((o.others r h).1 i) | inr i ↦ i ],
    λ h. elim (o.each r (q.others r h).0) [ inl i ↦ absurd ((q.others r h).1 i) | inr i ↦ i ],
  ))

module _ {A N : Type 0} (name : A → N) (same : N → N → Bool) (is : (m n : N) → same m n ≡ true → m ≡ n) (self : (n : N) → same n n ≡ true) (L : List A) (d : Distinct (map name L)) where
  one_named : (K : List A) → Distinct (map name K) → (x y : A) → In x K → In y K → name x ≡ name y → x ≡ y
  one_named [] d x y h k e = elim h [ ]
  one_named (r ∷ K) d x y (inl h) (inl k) e = h ∙ sym k
  one_named (r ∷ K) d x y (inl h) (inr k) e = absurd (d.0 (subst (λ m. In m (map name K)) (sym e ∙ ap name h) (In-map name y K k)))
  one_named (r ∷ K) d x y (inr h) (inl k) e = absurd (d.0 (subst (λ m. In m (map name K)) (e ∙ ap name k) (In-map name x K h)))
  one_named (r ∷ K) d x y (inr h) (inr k) e = one_named K d.1 x y h k e

  -- whether a step has the name of a member
  abbrev among : List A → A → Bool
  among es r = list_any (λ e. same (name r) (name e)) es

  among_true : (es : List A) (r : A) → In r es → among es r ≡ true
  among_true [] r h = elim h [ ]
  among_true (e ∷ es) r (inl q) = or_left (same (name r) (name e)) (among es r) (ap (λ z. same (name r) (name z)) (sym q) ∙ self (name r))
  among_true (e ∷ es) r (inr h) = or_right (same (name r) (name e)) (among es r) (among_true es r h)

  named_in : (es : List A) (r : A) → among es r ≡ true → (e : A) × In e es × (name r ≡ name e)
  named_in [] r h = absurd (let q : false ≡ true = h in cc)
  named_in (e ∷ es) r h = elim (or_true (same (name r) (name e)) (among es r) h) [
    | inl q ↦ (e, inl refl, is (name r) (name e) q)
    | inr q ↦ let w = named_in es r q in (w.0, inr w.1, w.2)
  ]

  module _ (R : A → A → Type 0) (within : (a b : A) → R a b → In a L × In b L) (x : A) where
    -- what is in one least closed part is in the other
    in_other : (ds es : List A) → IsLeastClosed R L x ds → IsLeastClosed R L x es → (r : A) → In r ds → In r es
    in_other ds es f g r h =
        let there : (a : A) → In a L → among es a ≡ true → In a es = λ a i t.
        let w = named_in es a t in
        subst (λ z. In z es) (sym (one_named L d a w.0 i (g.part.within_log w.0 w.1) w.2)) w.1 in
        there r (f.part.within_log r h) (f.least (among es) (among_true es x g.has) (λ a b k t. let i = within a b k in among_true es b (g.part.closed a b k (there a i.0 t))) r h)

    pub same_least : (ds es : List A) → IsLeastClosed R L x ds → IsLeastClosed R L x es → ds ≡ es
    same_least ds es f g = same_part L (Distinct-by_name name L d) ds es f.part.in_order g.part.in_order (λ r. (in_other ds es f g r, in_other es ds g f r))
