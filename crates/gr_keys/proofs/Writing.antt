-- A list that is written item by item. The crates above use these lemmas too.
use Rattle.std.proofs.Common.{◌≡◌, ℕ, ◌+◌, ◌<◌, ◌≤◌, List, [], ◌∷◌, ◌++◌, length, drop, get_or, Some, None, sym, ◌∙◌, ap, append_assoc, arith, drop_of_length-le, suc, inl, inr}
use Rattle.std.specs.Prelude.{slice_get, Result, Ok, Err, OnOk}
use Rattle.std.proofs.Math.Seq.{drop-cons}
use Rattle.std.proofs.lemmas.Option.{slice_get_within, get_or_from_slice_get, slice_get_cases}
use Rattle.gr_keys.specs.Codes.{list_code}

-- what holds on success lets something else hold
pub on_ok : {A E P Q : Type 0} (r : Result A E) → (P → Q) → OnOk r P → OnOk r Q
on_ok (Ok v) f h = f h
on_ok (Err e) f h = tt

none_some : {A : Type 0} (a : A) → None ≡ Some a → ⊥
none_some a e = cc

module _ {A : Type 0} (code : A → List ℕ) (xs : List A) (i : ℕ) (a old : List ℕ) (so_far : a ++ list_code code (drop i xs) ≡ old) where
  -- one item more is written
  pub next_written : (x : A) (b c : List ℕ) → i < length xs → x ≡ get_or xs i x → b ≡ a ++ 1 ∷ [] → c ≡ b ++ code x → c ++ list_code code (drop (i + 1) xs) ≡ old
  next_written x b c within is e h =
      let one : i + 1 ≡ suc i = omega arith in
      let d : drop i xs ≡ x ∷ drop (i + 1) xs = drop-cons xs i x within ∙ ap (λ y. y ∷ drop (suc i) xs) (sym is) ∙ ap (λ n. x ∷ drop n xs) (sym one) in
      let rest = list_code code (drop (i + 1) xs) in
      ap (λ y. y ++ rest) (h ∙ ap (λ y. y ++ code x) e) ∙ append_assoc (a ++ 1 ∷ []) (code x) rest ∙ append_assoc a (1 ∷ []) (code x ++ rest)
      ∙ ap (λ ys. a ++ list_code code ys) (sym d) ∙ so_far

  pub next_got : (x : A) (b c : List ℕ) → slice_get xs i ≡ Some x → b ≡ a ++ 1 ∷ [] → c ≡ b ++ code x → c ++ list_code code (drop (i + 1) xs) ≡ old
  next_got x b c g e h = next_written x b c (slice_get_within xs i x g) (sym (get_or_from_slice_get xs i x x g)) e h

  -- the end is written
  pub end_written : (b : List ℕ) → length xs ≤ i → b ≡ a ++ 0 ∷ [] → b ≡ old
  end_written b past e = e ∙ ap (λ ys. a ++ list_code code ys) (sym (drop_of_length-le xs past)) ∙ so_far

  pub end_got : (b : List ℕ) → slice_get xs i ≡ None → b ≡ a ++ 0 ∷ [] → b ≡ old
  end_got b g e = elim (slice_get_cases xs i).1 [
    | inl w ↦ absurd (none_some w.0 (sym g ∙ w.2))
    | inr w ↦ end_written b w.0 e
  ]
