-- The first place at which a text has a mark.
use Rattle.std.proofs.Common.{◌≡◌, ℕ, ◌+◌, ◌%◌, ◌^◌, ◌<◌, ◌≤◌, ◌==◌, Bool, true, false, cond, ltb, List, [], ◌∷◌, ◌++◌, length, drop, get_or, Some, None, position, codes, decimal, sym, ap, ◌∙◌, refl, inl, inr, arith, ltb-true, ltb-false, eqb-true, drop_of_length-le, lt_of_lt_of_le, lit≤, flat_map}
use Rattle.std.proofs.lemmas.Bool.{cases_Bool}
use Rattle.std.specs.List.{position_or_len, before_first, after_first}
use Rattle.std.proofs.Math.Seq.{take-append_seam, drop-append-add}
use Rattle.std.proofs.lemmas.Bool.Decides.{nat_tests}
use Rattle.std.proofs.lemmas.Fmt.{decimal_by_steps}
use Rattle.std.proofs.lemmas.List.Elements.{All-head, All-tail}
use Rattle.std.proofs.lemmas.List.Sums.{split_at_first, passes_at_first}
use Rattle.gr_base.specs.Counts.{IsCount, IsGoName}
use Rattle.gr_base.specs.Names.{go_text}
use Rattle.gr_base.proofs.Digits.{cond_some}

-- a choice of `None` was made
cond_other : {A : Type 0} (b : Bool) (v : A) → cond b (Some v) None ≡ None → b ≡ false
cond_other true v h = cc
cond_other false v h = refl

pub first_at : {X : Type 0} (p : X → Bool) (xs : List X) (i : ℕ) → Some i ≡ position p xs → (position_or_len p xs ≡ i) × (i < length xs)
first_at p xs i h =
    let first : ℕ = position_or_len p xs in
    let chosen = cond_some (ltb first (length xs)) first i (sym h) in
    let within = ltb-true first (length xs) chosen.0 in
    (chosen.1, rw chosen.1 at within)

pub first_none : {X : Type 0} (p : X → Bool) (xs : List X) → None ≡ position p xs → length xs ≤ position_or_len p xs
first_none p xs h =
    let first : ℕ = position_or_len p xs in
    ltb-false first (length xs) (cond_other (ltb first (length xs)) first (sym h))

-- the mark is nowhere in the text
abbrev pub Lacks : ℕ → List ℕ → Type 0
Lacks mark [] = Unit {0}
Lacks mark (byte ∷ bytes) = ((byte == mark) ≡ false) × Lacks mark bytes

Lacks-append : (mark : ℕ) (xs ys : List ℕ) → Lacks mark xs → Lacks mark ys → Lacks mark (xs ++ ys)
Lacks-append mark [] ys none others = others
Lacks-append mark (x ∷ xs) ys none others = (none.0, Lacks-append mark xs ys none.1 others)

Lacks-decimal : (mark n : ℕ) → mark < 48 → n < 2 ^ 64 → Lacks mark (decimal n)
Lacks-decimal mark n low small =
    decimal_by_steps (λ n ds. Lacks mark ds)
    (λ n digit. (grind (arith, nat_tests), tt))
    (λ n ds high before. Lacks-append mark ds ((48 + n % 10) ∷ []) before (grind (arith, nat_tests), tt))
    n small

Lacks-dotted : (mark : ℕ) (counts : List ℕ) → mark < 48 → (46 == mark) ≡ false → IsGoName counts → Lacks mark (flat_map (λ count. codes "." ++ decimal count) counts)
Lacks-dotted mark [] low other valid = tt
Lacks-dotted mark (count ∷ counts) low other valid =
    let first = All-head IsCount count counts valid in (
      other,
      Lacks-append mark (decimal count) (flat_map (λ count. codes "." ++ decimal count) counts)
          (Lacks-decimal mark count low (lt_of_lt_of_le first.1 (lit≤ tt)))
          (Lacks-dotted mark counts low other (All-tail IsCount count counts valid)),
    )

-- a goroutine's text has no mark that is below the digits and no dot
pub Lacks-go_text : (mark : ℕ) (go : List ℕ) → mark < 48 → (46 == mark) ≡ false → IsGoName go → Lacks mark (go_text go)
Lacks-go_text mark go low other valid = (grind (arith, nat_tests), (grind (arith, nat_tests), Lacks-dotted mark go low other valid))

-- where the first part lacks the mark, it ends at the mark
first_mark : (mark : ℕ) (xs ys : List ℕ) → Lacks mark xs → position_or_len (λ b. b == mark) (xs ++ mark ∷ ys) ≡ length xs
first_mark mark [] ys none = let e : (mark == mark) ≡ true = grind (arith, nat_tests) in rw e refl
first_mark mark (x ∷ xs) ys none = let e = first_mark mark xs ys none.1 in rw none.0 (omega (arith, e))

drop_past : (xs ys : List ℕ) (x : ℕ) → drop (length xs + 1) (xs ++ x ∷ ys) ≡ ys
drop_past xs ys x = drop-append-add xs (x ∷ ys) 1

pub before_mark : (mark : ℕ) (xs ys : List ℕ) → Lacks mark xs → before_first (λ b. b == mark) (xs ++ mark ∷ ys) ≡ xs
before_mark mark xs ys none = rw (first_mark mark xs ys none) (take-append_seam xs (mark ∷ ys))

pub after_mark : (mark : ℕ) (xs ys : List ℕ) → Lacks mark xs → after_first (λ b. b == mark) (xs ++ mark ∷ ys) ≡ ys
after_mark mark xs ys none = rw (first_mark mark xs ys none) (drop_past xs ys mark)

-- where something stands after the first mark, the text is the part before, the mark, and the part after
pub parts_of : (mark : ℕ) (text : List ℕ) → (after_first (λ b. b == mark) text ≡ [] → ⊥) → text ≡ before_first (λ b. b == mark) text ++ mark ∷ after_first (λ b. b == mark) text
parts_of mark text more =
    let first : ℕ = position_or_len (λ b. b == mark) text in
    elim (cases_Bool (ltb first (length text))) [
      | inl within ↦
          let low = ltb-true first (length text) within in
          split_at_first (λ b. b == mark) text 0 low
          ∙ ap (λ b. before_first (λ b. b == mark) text ++ b ∷ after_first (λ b. b == mark) text)
          (eqb-true (get_or text first 0) mark (passes_at_first (λ b. b == mark) text 0 low))
      | inr past ↦
          let far = ltb-false first (length text) past in
          absurd (more (drop_of_length-le text (omega (arith, far))))
    ]
