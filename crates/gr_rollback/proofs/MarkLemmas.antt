-- Marked items of a list, and the two parts of a list with the marks of each.
use Rattle.std.proofs.Common.{◌≡◌, ℕ, zero, suc, ◌+◌, Bool, true, false, List, [], ◌∷◌, ◌++◌, length, filter, get_or, inl, inr, refl, ap, arith}
use Rattle.std.specs.Prelude.{not, replicate}
use Rattle.std.proofs.lemmas.Bool.{cases_Bool}
use Rattle.gr_causal.specs.Sequences.{In}
use Rattle.gr_step.specs.Back.{marked, unmarked}
use Rattle.gr_rollback.specs.Walks.{count_set, count_unset}

module _ {A : Type 0} where
  -- two parts
  pub marked_parts : (before after : List Bool) (xs ys : List A) → length before ≡ length xs → marked (before ++ after) (xs ++ ys) ≡ marked before xs ++ marked after ys
  marked_parts [] after [] ys e = refl
  marked_parts (true ∷ before) after (x ∷ xs) ys e = ap (λ zs. x ∷ zs) (marked_parts before after xs ys (let f : suc (length before) ≡ suc (length xs) = e in cc))
  marked_parts (false ∷ before) after (x ∷ xs) ys e = marked_parts before after xs ys (let f : suc (length before) ≡ suc (length xs) = e in cc)
  marked_parts [] after (x ∷ xs) ys e = absurd (let f : 0 ≡ suc (length xs) = e in cc)
  marked_parts (m ∷ before) after [] ys e = absurd (let f : suc (length before) ≡ 0 = e in cc)

  -- a first part without marks
  pub none_marked : (xs ys : List A) (marks : List Bool) → marked (replicate (length xs) false ++ marks) (xs ++ ys) ≡ marked marks ys
  none_marked [] ys marks = refl
  none_marked (x ∷ xs) ys marks = none_marked xs ys marks

  pub all_unmarked : (xs ys : List A) (marks : List Bool) → unmarked (replicate (length xs) false ++ marks) (xs ++ ys) ≡ xs ++ unmarked marks ys
  all_unmarked [] ys marks = refl
  all_unmarked (x ∷ xs) ys marks = ap (λ zs. x ∷ zs) (all_unmarked xs ys marks)

  -- what is not marked is in the list
  pub In-unmarked : (marks : List Bool) (xs : List A) (y : A) → In y (unmarked marks xs) → In y xs
  In-unmarked marks [] y h = absurd h
  In-unmarked [] (x ∷ xs) y h = h
  In-unmarked (true ∷ marks) (x ∷ xs) y h = inr (In-unmarked marks xs y h)
  In-unmarked (false ∷ marks) (x ∷ xs) y (inl e) = inl e
  In-unmarked (false ∷ marks) (x ∷ xs) y (inr i) = inr (In-unmarked marks xs y i)

  -- as many as there are
  pub all_counted : (marks : List Bool) (xs : List A) → length (unmarked marks xs) + length (marked marks xs) ≡ length xs
  all_counted marks [] = refl
  all_counted [] (x ∷ xs) = let e : suc (length xs) + 0 ≡ suc (length xs) = omega arith in e
  all_counted (true ∷ marks) (x ∷ xs) = let e = all_counted marks xs in omega (arith, e)
  all_counted (false ∷ marks) (x ∷ xs) = let e = all_counted marks xs in omega (arith, e)

-- the last of the marks
pub record LastMark (marks : List Bool) (k : ℕ) : Type 0 where
  pub front : List Bool
  pub last : Bool
  pub whole : marks ≡ front ++ last ∷ []
  pub count : length front ≡ k

pub last_mark : (marks : List Bool) (k : ℕ) → length marks ≡ suc k → LastMark marks k
last_mark [] k e = absurd (let f : 0 ≡ suc k = e in cc)
last_mark (m ∷ []) zero e = record { front = []; last = m; whole = refl; count = refl }
last_mark (m ∷ []) (suc k) e = absurd (let f : 1 ≡ suc (suc k) = e in omega (arith, f))
last_mark (m ∷ n ∷ marks) zero e = absurd (let f : suc (suc (length marks)) ≡ 1 = e in omega (arith, f))
last_mark (m ∷ n ∷ marks) (suc k) e =
    let rest = last_mark (n ∷ marks) k (let f : suc (suc (length marks)) ≡ suc (suc k) = e in omega (arith, f)) in
    record { front = m ∷ rest.front; last = rest.last; whole = ap (λ ms. m ∷ ms) rest.whole; count = ap suc rest.count }

pub mark_there : (front after : List Bool) (m d : Bool) → get_or (front ++ m ∷ after) (length front) d ≡ m
mark_there [] after m d = refl
mark_there (x ∷ front) after m d = mark_there front after m d

-- how many are set, with one more at the end
count_end : (p : Bool → Bool) (marks : List Bool) (m : Bool) → length (filter p (marks ++ m ∷ [])) ≡ length (filter p marks) + length (filter p (m ∷ []))
count_end p [] m = omega arith
count_end p (x ∷ marks) m = elim (cases_Bool (p x)) [
  | inl t ↦ rw t (let e = count_end p marks m in omega (arith, e))
  | inr f ↦ rw f (count_end p marks m)
]

pub set_at_end : (marks : List Bool) (m : Bool) → count_set (marks ++ m ∷ []) ≡ count_set marks + count_set (m ∷ [])
set_at_end marks m = count_end (λ b. b) marks m

pub unset_at_end : (marks : List Bool) (m : Bool) → count_unset (marks ++ m ∷ []) ≡ count_unset marks + count_unset (m ∷ [])
unset_at_end marks m = count_end not marks m
