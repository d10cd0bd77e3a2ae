-- Where the consequences of a step are marked, no later step that is not marked conflicts with one that is.
use Rattle.std.proofs.Common.{◌≡◌, ℕ, Bool, true, false, List, [], ◌∷◌, ◌++◌, ◌⊎◌, refl, subst, inl, inr}
use Rattle.gr_causal.specs.Dependence.{dependents, kept, AreTheOthers}
use Rattle.gr_causal.specs.Sequences.{In, Distinct, Before}
use Rattle.gr_causal.proofs.DependenceLemmas.{others_are}
use Rattle.gr_causal.proofs.ListLemmas.{true_or_false, Before-right}
use Rattle.gr_causal.proofs.PartLemmas.{last_dependents}
use Rattle.gr_causal.proofs.UniqueLemmas.{same_others}
use Rattle.gr_program.specs.Programs.{Program}
use Rattle.gr_laws.specs.Reached.{Logged}
use Rattle.gr_refine.specs.Contents.{Contents}
use Rattle.gr_record.specs.Conflicts.{conflict_of}
use Rattle.gr_record.specs.declared.record.Record.{Record}
use Rattle.gr_record.specs.Kept.{Kept}
use Rattle.gr_record.specs.Running.{Running}
use Rattle.gr_record.specs.Back.{marked, unmarked, AreFree}
use Rattle.gr_record.proofs.OrderLemmas.{last_once, records_once}

module _ {A : Type 0} where
  In-marked : (marks : List Bool) (xs : List A) (y : A) → In y (marked marks xs) → In y xs
  In-marked marks [] y h = absurd h
  In-marked [] (x ∷ xs) y h = absurd h
  In-marked (true ∷ marks) (x ∷ xs) y (inl e) = inl e
  In-marked (true ∷ marks) (x ∷ xs) y (inr i) = inr (In-marked marks xs y i)
  In-marked (false ∷ marks) (x ∷ xs) y h = inr (In-marked marks xs y h)

  In-unmarked : (marks : List Bool) (xs : List A) (y : A) → In y (unmarked marks xs) → In y xs
  In-unmarked marks [] y h = absurd h
  In-unmarked [] (x ∷ xs) y h = h
  In-unmarked (true ∷ marks) (x ∷ xs) y h = inr (In-unmarked marks xs y h)
  In-unmarked (false ∷ marks) (x ∷ xs) y (inl e) = inl e
  In-unmarked (false ∷ marks) (x ∷ xs) y (inr i) = inr (In-unmarked marks xs y i)

  not_both : (marks : List Bool) (xs : List A) → Distinct xs → (y : A) → In y (marked marks xs) → In y (unmarked marks xs) → ⊥
  not_both marks [] d y h k = absurd h
  not_both [] (x ∷ xs) d y h k = absurd h
  not_both (true ∷ marks) (x ∷ xs) d y (inl e) k = d.0 (subst (λ v. In v xs) e (In-unmarked marks xs y k))
  not_both (true ∷ marks) (x ∷ xs) d y (inr i) k = not_both marks xs d.1 y i k
  not_both (false ∷ marks) (x ∷ xs) d y h (inl e) = d.0 (subst (λ v. In v xs) e (In-marked marks xs y h))
  not_both (false ∷ marks) (x ∷ xs) d y h (inr j) = not_both marks xs d.1 y h j

  marked_or_not : (marks : List Bool) (xs : List A) (y : A) → In y xs → In y (marked marks xs) ⊎ In y (unmarked marks xs)
  marked_or_not marks [] y h = absurd h
  marked_or_not [] (x ∷ xs) y h = inr h
  marked_or_not (true ∷ marks) (x ∷ xs) y (inl e) = inl (inl e)
  marked_or_not (true ∷ marks) (x ∷ xs) y (inr i) = elim (marked_or_not marks xs y i) [ inl j ↦ inl (inr j) | inr j ↦ inr j ]
  marked_or_not (false ∷ marks) (x ∷ xs) y (inl e) = inr (inl e)
  marked_or_not (false ∷ marks) (x ∷ xs) y (inr i) = elim (marked_or_not marks xs y i) [ inl j ↦ inl j | inr j ↦ inr (inr j) ]

  unmarked_in_order : (marks : List Bool) (xs : List A) (a b : A) → Before (unmarked marks xs) a b → Before xs a b
  unmarked_in_order marks [] a b h = absurd h
  unmarked_in_order [] (x ∷ xs) a b h = h
  unmarked_in_order (true ∷ marks) (x ∷ xs) a b h = inr (unmarked_in_order marks xs a b h)
  unmarked_in_order (false ∷ marks) (x ∷ xs) a b (inl h) = inl (h.0, In-unmarked marks xs b h.1)
  unmarked_in_order (false ∷ marks) (x ∷ xs) a b (inr h) = inr (unmarked_in_order marks xs a b h)

  unmarked_are_others : (marks : List Bool) (xs : List A) → Distinct xs → AreTheOthers xs (marked marks xs) (unmarked marks xs)
  unmarked_are_others marks xs once = record {
    others = λ y i. (In-unmarked marks xs y i, λ j. not_both marks xs once y j i);
    each = marked_or_not marks xs;
    in_order = unmarked_in_order marks xs;
  }

  Before-in_tail : (xs ys : List A) (a b : A) → Before ys a b → Before (xs ++ ys) a b
  Before-in_tail [] ys a b h = h
  Before-in_tail (x ∷ xs) ys a b h = inr (Before-in_tail xs ys a b h)

module _ {A : Type 0} (clash : A → A → Bool) where
  -- a later item that conflicts with a marked one is marked
  abbrev Closed : List Bool → List A → Type 0
  Closed marks xs = (a b : A) → Before xs a b → clash a b ≡ true → In a (marked marks xs) → In b (marked marks xs)

  closed_behind : (marks : List Bool) (x : A) (xs : List A) → Distinct (x ∷ xs) → Closed (true ∷ marks) (x ∷ xs) → Closed marks xs
  closed_behind marks x xs d closed a b h c i = elim (closed a b (inr h) c (inr i)) [
    | inl e ↦ absurd (d.0 (subst (λ v. In v xs) e (Before-right xs a b h)))
    | inr j ↦ j
  ]

  free_of_first : (marks : List Bool) (x : A) (xs : List A) → Distinct (x ∷ xs) → Closed (true ∷ marks) (x ∷ xs)
      → (y : A) → In y (unmarked marks xs) → clash x y ≡ false
  free_of_first marks x xs d closed y i = elim (true_or_false (clash x y)) [
    | inl c ↦ elim (closed x y (inl (refl, In-unmarked marks xs y i)) c (inl refl)) [
      | inl e ↦ absurd (d.0 (subst (λ v. In v xs) e (In-unmarked marks xs y i)))
      | inr j ↦ absurd (not_both marks xs d.1 y j i)
    ]
    | inr apart ↦ apart
  ]

  closed_is_free : (marks : List Bool) (xs : List A) → Distinct xs → Closed marks xs → AreFree clash marks xs
  closed_is_free marks [] d closed = tt
  closed_is_free [] (x ∷ xs) d closed = tt
  closed_is_free (true ∷ marks) (x ∷ xs) d closed =
      (free_of_first marks x xs d closed, closed_is_free marks xs d.1 (closed_behind marks x xs d closed))
  closed_is_free (false ∷ marks) (x ∷ xs) d closed = closed_is_free marks xs d.1 (λ a b h c i. closed a b (inr h) c i)

pub consequences_are_free : (p : Program) (s t : Contents) (front tail left : List Record) (log : List (Logged p)) (marks : List Bool) (i : ℕ) → Running p s
    → Kept p s (front ++ tail) log t → dependents conflict_of (front ++ tail) i ≡ left ++ marked marks tail → AreFree conflict_of marks tail
consequences_are_free p s t front tail left log marks i running are e =
    let once = records_once p s t (front ++ tail) log running are in
    let part = last_dependents conflict_of (front ++ tail) left (marked marks tail) i once e in
    closed_is_free conflict_of marks tail (last_once front tail once) (λ a b h c. part.closed a b (Before-in_tail front tail a b h, c))

pub others_of_marked : (p : Program) (s t : Contents) (records : List Record) (log : List (Logged p)) (marks : List Bool) → Running p s
    → Kept p s records log t → AreTheOthers records (marked marks records) (unmarked marks records)
others_of_marked p s t records log marks running are = unmarked_are_others marks records (records_once p s t records log running are)

pub others_stay : (p : Program) (s t : Contents) (records : List Record) (log : List (Logged p)) (marks : List Bool) (i : ℕ) → Running p s
    → Kept p s records log t → dependents conflict_of records i ≡ marked marks records → kept conflict_of records i ≡ unmarked marks records
others_stay p s t records log marks i running are e =
    let once = records_once p s t records log running are in
    same_others records once (marked marks records) (kept conflict_of records i) (unmarked marks records)
    (subst {_, _} (λ ds. AreTheOthers records ds (kept conflict_of records i)) e (others_are conflict_of records i once))
    (unmarked_are_others marks records once)
