-- Cells that are written to and put back.
use Rattle.std.proofs.Common.{◌≡◌, ℕ, ℤ, zero, suc, Bool, List, [], ◌∷◌, ◌++◌, ◌+◌, ◌<◌, length, drop, Option, Some, None, refl, sym, ap, ap₂, ◌∙◌, arith, length-drop, get_or}
use Rattle.std.specs.Prelude.{slice_set, slice_get, slice_index_or}
use Rattle.gr_base.specs.declared.values.Value.{Value}
use Rattle.gr_base.specs.declared.values.Value.TheVariants as values
use Rattle.gr_rules.specs.Outcomes.{Outcome, gives, wrong, ◌>>=◌}
use Rattle.gr_rules.specs.Evaluation.{Variables, held}
use Rattle.gr_rules.specs.Frames.{assigned, written}
use Rattle.gr_goros.specs.Undoing.{each_restored}

-- the last of the cells is put back first
pub restored_last : (ws : List (ℕ × Option Value)) (w : ℕ × Option Value) (cells : Variables)
    → each_restored (ws ++ w ∷ []) cells ≡ each_restored ws (slice_set cells w.0 w.1)
restored_last [] w cells = refl
restored_last (v ∷ ws) w cells = ap (λ held. slice_set held v.0 v.1) (restored_last ws w cells)

-- a cell is put back
pub set_back : (cells : Variables) (k : ℕ) (v w r : Option Value) → w ≡ r → r ≡ slice_index_or cells k r
    → slice_set (slice_set cells k v) k w ≡ cells
set_back [] k v w r e h = refl
set_back (x ∷ cells) zero v w r e h = ap (λ l. l ∷ cells) (e ∙ h)
set_back (x ∷ cells) (suc k) v w r e h = ap (λ l. x ∷ l) (set_back cells k v w r e h)

-- a cell that held a number is put back
pub number_back : (cells : Variables) (k : ℕ) (v : Option Value) (n : ℤ) → held (slice_get cells k) ≡ gives (values.Int n)
    → slice_set (slice_set cells k v) k (Some (values.Int n)) ≡ cells
number_back [] k v n h = refl
number_back (Some x ∷ cells) zero v n h = cc
number_back (None ∷ cells) zero v n h = cc
number_back (x ∷ cells) (suc k) v n h = ap (λ l. x ∷ l) (number_back cells k v n h)

-- a cell that held a truth value is put back
truth_back : (cells : Variables) (k : ℕ) (v : Option Value) (b : Bool) → held (slice_get cells k) ≡ gives (values.Bool b)
    → slice_set (slice_set cells k v) k (Some (values.Bool b)) ≡ cells
truth_back [] k v b h = refl
truth_back (Some x ∷ cells) zero v b h = cc
truth_back (None ∷ cells) zero v b h = cc
truth_back (x ∷ cells) (suc k) v b h = ap (λ l. x ∷ l) (truth_back cells k v b h)

number_here : (x : Option Value) (n : ℤ) → held (Some x) ≡ gives (values.Int n) → Some (values.Int n) ≡ x
number_here (Some x) n h = cc
number_here None n h = cc

truth_here : (x : Option Value) (b : Bool) → held (Some x) ≡ gives (values.Bool b) → Some (values.Bool b) ≡ x
truth_here (Some x) b h = cc
truth_here None b h = cc

not_both : (o : Outcome Value) (n : ℤ) (b : Bool) → o ≡ gives (values.Int n) → o ≡ gives (values.Bool b) → ⊥
not_both o n b h i = absurd (let no : gives (values.Int n) ≡ gives (values.Bool b) = sym h ∙ i in cc)

-- two cells are put back, of which one held a number and the other a truth value
pub two_back : (cells : Variables) (k j : ℕ) (v w : Option Value) (n : ℤ) (b : Bool)
    → held (slice_get cells k) ≡ gives (values.Int n) → held (slice_get cells j) ≡ gives (values.Bool b)
    → slice_set (slice_set (slice_set (slice_set cells k v) j w) j (Some (values.Bool b))) k (Some (values.Int n)) ≡ cells
two_back [] k j v w n b h i = refl
two_back (x ∷ cells) zero zero v w n b h i = absurd (not_both (held (Some x)) n b h i)
two_back (x ∷ cells) zero (suc j) v w n b h i = ap₂ (λ x l. x ∷ l) (number_here x n h) (truth_back cells j w b i)
two_back (x ∷ cells) (suc k) zero v w n b h i = ap₂ (λ x l. x ∷ l) (truth_here x b i) (number_back cells k v n h)
two_back (x ∷ cells) (suc k) (suc j) v w n b h i = ap (λ l. x ∷ l) (two_back cells k j v w n b h i)

-- values that can be assigned are there
none_left : (ts : List (Option ℕ)) (cells : Variables) → 0 < length ts → assigned ts [] cells ≡ wrong
none_left [] cells h = absurd (omega (arith, h))
none_left (None ∷ ts) cells h = refl
none_left (Some k ∷ ts) cells h = refl

is_empty : (vs : List Value) → length vs ≡ 0 → vs ≡ []
is_empty [] e = refl
is_empty (v ∷ vs) e = absurd (omega (arith, e))

pub none_assigned : (ts : List (Option ℕ)) (i : ℕ) (vs : List Value) (cells : Variables) (o : Outcome Variables)
    → i < length ts → length vs ≡ 0 → assigned (drop i ts) vs cells ≡ o → ¬ (o ≡ wrong) → ⊥
none_assigned ts i vs cells o h e is right =
    right (sym is ∙ ap (λ vs. assigned (drop i ts) vs cells) (is_empty vs e) ∙ none_left (drop i ts) cells (simp length-drop (omega (arith, h))))

drop_first : (ts : List (Option ℕ)) (i : ℕ) (t : Option ℕ) → i < length ts → get_or ts i None ≡ t → drop i ts ≡ t ∷ drop (i + 1) ts
drop_first [] i t h e = absurd (omega (arith, h))
drop_first (x ∷ ts) zero t h e = ap (λ t. t ∷ ts) e
drop_first (x ∷ ts) (suc i) t h e =
    let one : suc i + 1 ≡ suc (i + 1) = omega arith in rw one (drop_first ts i t (omega (arith, h)) e)

-- one value is assigned, and then the others
pub one_assigned : (k : ℕ) (ts : List (Option ℕ)) (v : Value) (vs : List Value) (cells : Variables)
    → ¬ (assigned (Some k ∷ ts) (v ∷ vs) cells ≡ wrong)
    → assigned (Some k ∷ ts) (v ∷ vs) cells ≡ assigned ts vs (slice_set cells k (Some v))
one_assigned k ts v vs cells h =
    elim (slice_get cells k) as (λ o. ¬ ((written o k v cells >>= λ held. assigned ts vs held) ≡ wrong)
    → (written o k v cells >>= λ held. assigned ts vs held) ≡ assigned ts vs (slice_set cells k (Some v))) [
      | Some old ↦ λ h. refl
      | None ↦ λ h. absurd (h refl)
    ] h

pub first_assigned : (ts : List (Option ℕ)) (i k : ℕ) (v : Value) (vs us : List Value) (cells next : Variables) (o : Outcome Variables)
    → next ≡ slice_set cells k (Some v) → i < length ts → get_or ts i None ≡ Some k → us ≡ v ∷ vs → assigned (drop i ts) us cells ≡ o → ¬ (o ≡ wrong)
    → assigned (drop (i + 1) ts) vs next ≡ o
first_assigned ts i k v vs us cells next o n h t e is right =
    let rest = drop (i + 1) ts in
    let here : drop i ts ≡ Some k ∷ rest = drop_first ts i (Some k) h t in
    let all : assigned (Some k ∷ rest) (v ∷ vs) cells ≡ o =
    ap (λ ts. assigned ts (v ∷ vs) cells) (sym here) ∙ ap (λ us. assigned (drop i ts) us cells) (sym e) ∙ is in
    ap (assigned rest vs) n ∙ sym (one_assigned k rest v vs cells (λ w. right (sym all ∙ w))) ∙ all

pub blank_assigned : (ts : List (Option ℕ)) (i : ℕ) (v : Value) (vs us : List Value) (cells : Variables) (o : Outcome Variables)
    → i < length ts → get_or ts i None ≡ None → us ≡ v ∷ vs → assigned (drop i ts) us cells ≡ o
    → assigned (drop (i + 1) ts) vs cells ≡ o
blank_assigned ts i v vs us cells o h t e is =
    ap (λ ts. assigned ts (v ∷ vs) cells) (sym (drop_first ts i None h t)) ∙ ap (λ us. assigned (drop i ts) us cells) (sym e) ∙ is
