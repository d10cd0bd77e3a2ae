-- Lists of names.
use Rattle.std.proofs.Common.{◌≡◌, ℕ, ◌+◌, ◌<◌, Bool, true, false, List, [], ◌∷◌, ◌++◌, length, drop, get_or, map, refl, ap, sym, ◌∙◌, add-one, drop-cons, nat_eq, Bor, Global}
use Rattle.std.specs.Prelude.{Vec, if◌then◌else◌}
use Rattle.std.specs.Cmp.Lexicographic.{pointwise}
use Rattle.indexmap.specs.IndexSet.{insert_key}
use Rattle.gr_tree.specs.Exprs.{names_of}
use Rattle.gr_typing.specs.Names.{among, is_blank, are_distinct}
use Rattle.gr_types.proofs.LabelNames.{inserted}

pub front_names : (names : List (Vec ℕ Global)) (i : ℕ) (x : Vec ℕ Global) → i < length names → x ≡ get_or names i x → names_of (drop i names) ≡ x.items ∷ names_of (drop (i + 1) names)
front_names names i x lt is =
    let f : drop i names ≡ get_or names i x ∷ drop (i + 1) names = rw (add-one, drop-cons names i x) in
    ap names_of f ∙ ap (λ y. y.items ∷ names_of (drop (i + 1) names)) (sym is)

-- the names before a place, each once
module _ (seen : List (Bor (List ℕ))) (names : List (Vec ℕ Global)) (i : ℕ) (x : Vec ℕ Global) (b : Bool) (lt : i < length names) (is : x ≡ get_or names i x) (named : is_blank x.items ≡ false) (so_far : are_distinct (map (λ k. k.now) seen) (names_of (drop i names)) ≡ b) where
  rest_of : are_distinct (map (λ k. k.now) seen) (x.items ∷ names_of (drop (i + 1) names)) ≡ b
  rest_of = sym (ap (are_distinct (map (λ k. k.now) seen)) (front_names names i x lt is)) ∙ so_far

  pub twice : among (map (λ k. k.now) seen) x.items ≡ true → false ≡ b
  twice t =
      let r : are_distinct (map (λ k. k.now) seen) (x.items ∷ names_of (drop (i + 1) names)) ≡ false = rw (named, t) refl in
      sym r ∙ rest_of

  pub once : (new : List (Bor (List ℕ))) (k : Bor (List ℕ)) → k.now ≡ x.items → among (map (λ k. k.now) seen) x.items ≡ false → new ≡ insert_key (λ a b. pointwise nat_eq a.now b.now) seen k → are_distinct (map (λ k. k.now) new) (names_of (drop (i + 1) names)) ≡ b
  once new k same f e =
      let seen_names = map (λ k. k.now) seen in
      let rest = names_of (drop (i + 1) names) in
      let r : are_distinct seen_names (x.items ∷ rest) ≡ are_distinct (seen_names ++ (x.items ∷ [])) rest = rw (named, f) refl in
      let g : map (λ k. k.now) new ≡ (if among seen_names x.items then seen_names else seen_names ++ (x.items ∷ [])) = ap (map (λ k. k.now)) e ∙ inserted seen k ∙ ap (λ y. if among seen_names y then seen_names else seen_names ++ (y ∷ [])) same in
      let h : map (λ k. k.now) new ≡ seen_names ++ (x.items ∷ []) = g ∙ ap (λ c. if c then seen_names else seen_names ++ (x.items ∷ [])) f in
      ap (λ l. are_distinct l rest) h ∙ sym r ∙ rest_of
