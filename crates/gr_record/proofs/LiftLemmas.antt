-- A part of the images of a list, and the others, are those of a part of the list, where no image stands twice.
use Rattle.std.proofs.Common.{◌≡◌, List, [], ◌∷◌, ◌++◌, map, refl, sym, ap, ap₂, subst, ◌∙◌, inl, inr}
use Rattle.gr_causal.specs.Dependence.{AreTheOthers}
use Rattle.gr_causal.specs.Sequences.{In, Distinct, Before}
use Rattle.gr_causal.proofs.ListLemmas.{cons_is, In-map, In-of_map, Before-left, Before-right}

module _ {A B : Type 0} (f : A → B) where
  abbrev pub Within : List A → List A → Type 0
  Within L xs = (x : A) → In x xs → In x L

  one_image : (L : List A) → Distinct (map f L) → (x y : A) → In x L → In y L → f x ≡ f y → x ≡ y
  one_image [] d x y i j e = absurd i
  one_image (z ∷ L) d x y (inl a) (inl b) e = a ∙ sym b
  one_image (z ∷ L) d x y (inl a) (inr j) e = absurd (d.0 (subst (λ v. In v (map f L)) (sym e ∙ ap f a) (In-map f y L j)))
  one_image (z ∷ L) d x y (inr i) (inl b) e = absurd (d.0 (subst (λ v. In v (map f L)) (e ∙ ap f b) (In-map f x L i)))
  one_image (z ∷ L) d x y (inr i) (inr j) e = one_image L d.1 x y i j e

  of_image : (L K : List A) → Distinct (map f L) → Within L K → (x : A) → In x L → In (f x) (map f K) → In x K
  of_image L K d within x i j =
      let w = In-of_map f (f x) K j in
      subst (λ v. In v K) (sym (one_image L d x w.0 i (within w.0 w.1) w.2)) w.1

  -- images that are some of these come of items that are some of these
  pub lifted : (L : List A) (ys : List B) → ((y : B) → In y ys → In y (map f L)) → (xs : List A) × (map f xs ≡ ys) × Within L xs
  lifted L [] within = ([], refl, λ x i. absurd i)
  lifted L (y ∷ ys) within =
      let w = In-of_map f y L (within y (inl refl)) in
      let rest = lifted L ys (λ z i. within z (inr i)) in (
        w.0 ∷ rest.0,
        ap₂ (λ (v : B) (vs : List B). v ∷ vs) (sym w.2) rest.1,
        λ x i. elim i [ inl e ↦ subst (λ v. In v L) (sym e) w.1 | inr j ↦ rest.2 x j ],
      )

  -- two parts of the images
  pub parts_of : (D : List A) (left gone : List B) → map f D ≡ left ++ gone → (first : List A) × (second : List A) × (D ≡ first ++ second) × (map f second ≡ gone)
  parts_of D [] gone e = ([], D, refl, e)
  parts_of (x ∷ D) (l ∷ left) gone e =
      let rest = parts_of D left gone (cons_is (f x) l (map f D) (left ++ gone) e).1 in
      (x ∷ rest.0, rest.1, ap (λ xs. x ∷ xs) rest.2, rest.3)
  parts_of [] (l ∷ left) gone e = absurd (let no : [] ≡ l ∷ (left ++ gone) = e in cc)

  Before-map : (K : List A) (a b : A) → Before K a b → Before (map f K) (f a) (f b)
  Before-map [] a b h = absurd h
  Before-map (x ∷ K) a b (inl h) = inl (ap f h.0, In-map f b K h.1)
  Before-map (x ∷ K) a b (inr h) = inr (Before-map K a b h)

  behind_first : (x : A) (L : List A) → Distinct (map f (x ∷ L)) → (b : A) → In b (x ∷ L) → In (f b) (map f L) → In b L
  behind_first x L d b (inl e) j = absurd (d.0 (subst (λ v. In v (map f L)) (ap f e) j))
  behind_first x L d b (inr i) j = i

  Before-of_image : (L : List A) → Distinct (map f L) → (a b : A) → In a L → In b L → Before (map f L) (f a) (f b) → Before L a b
  Before-of_image [] d a b i j h = absurd h
  Before-of_image (x ∷ L) d a b i j (inl h) = inl (one_image (x ∷ L) d a x i (inl refl) h.0, behind_first x L d b j h.1)
  Before-of_image (x ∷ L) d a b i j (inr h) = inr (Before-of_image L d.1 a b (behind_first x L d a i (Before-left (map f L) (f a) (f b) h))
      (behind_first x L d b j (Before-right (map f L) (f a) (f b) h)) h)

  Before-of_map : (K : List A) (u v : B) → Before (map f K) u v → (a : A) × (b : A) × Before K a b × (u ≡ f a) × (v ≡ f b)
  Before-of_map [] u v h = absurd h
  Before-of_map (x ∷ K) u v (inl h) = let w = In-of_map f v K h.1 in (x, w.0, inl (refl, w.1), h.0, w.2)
  Before-of_map (x ∷ K) u v (inr h) = let w = Before-of_map K u v h in (w.0, w.1, inr w.2, w.3, w.4)

  pub others_lifted : (L lost rest : List A) → Distinct (map f L) → Within L lost → Within L rest → AreTheOthers (map f L) (map f lost) (map f rest)
      → AreTheOthers L lost rest
  others_lifted L lost rest d first second o = record {
    others = λ x i. (second x i, λ j. (o.others (f x) (In-map f x rest i)).1 (In-map f x lost j));
    each = λ x i. elim (o.each (f x) (In-map f x L i)) [
      | inl j ↦ inl (of_image L lost d first x i j)
      | inr j ↦ inr (of_image L rest d second x i j)
    ];
    in_order = λ a b h. Before-of_image L d a b (second a (Before-left rest a b h)) (second b (Before-right rest a b h))
        (o.in_order (f a) (f b) (Before-map rest a b h));
  }

  pub others_mapped : (L lost rest : List A) → Distinct (map f L) → Within L lost → AreTheOthers L lost rest → AreTheOthers (map f L) (map f lost) (map f rest)
  others_mapped L lost rest d first o = record {
    others = λ u i.
        let w = In-of_map f u rest i in
        let there = (o.others w.0 w.1).0 in (
          subst (λ v. In v (map f L)) (sym w.2) (In-map f w.0 L there),
          λ j. (o.others w.0 w.1).1 (of_image L lost d first w.0 there (subst (λ v. In v (map f lost)) w.2 j)),
        );
    each = λ u i.
        let w = In-of_map f u L i in
        elim (o.each w.0 w.1) [
          | inl j ↦ inl (subst (λ v. In v (map f lost)) (sym w.2) (In-map f w.0 lost j))
          | inr j ↦ inr (subst (λ v. In v (map f rest)) (sym w.2) (In-map f w.0 rest j))
        ];
    in_order = λ u v h.
        let w = Before-of_map rest u v h in
        subst (λ x. Before (map f L) x v) (sym w.3) (subst (λ y. Before (map f L) (f w.0) y) (sym w.4) (Before-map L w.0 w.1 (o.in_order w.0 w.1 w.2)));
  }
