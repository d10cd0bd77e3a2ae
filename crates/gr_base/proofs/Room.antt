-- The room that a text of counts takes.
use Rattle.std.proofs.Common.{◌≡◌, ◌∷◌, ◌++◌, ℕ, ◌+◌, ◌<◌, ◌≤◌, true, List, length, take, drop, get_or, Result, Ok, Err, is_err, OnErr, codes, decimal, flat_map, sym, ap, ◌∙◌, append_assoc, drop-cons, add-one, true≢false}
use Rattle.std.proofs.lemmas.List.Folds.{length-flat_map-take}

-- what is said of an error, where there is one
pub on_err : {T E P : Type 0} (r : Result T E) → is_err r ≡ true → OnErr r P → P
on_err (Ok x) failed h = absurd (true≢false (sym failed))
on_err (Err e) failed h = h

-- the counts before one, and that one, are no longer than all
pub counts_fit : (counts : List ℕ) (i : ℕ) → i < length counts → length (flat_map (λ count. codes "." ++ decimal count) (take i counts)) + length (codes "." ++ decimal (get_or counts i 0)) ≤ length (flat_map (λ count. codes "." ++ decimal count) counts)
counts_fit counts i within = length-flat_map-take (λ count. codes "." ++ decimal count) counts i 0 within

-- a count before others is written after a dot
pub counts_more : (counts : List ℕ) (i n : ℕ) (rest : List ℕ) → i < length counts → i + 1 ≡ n
    → flat_map (λ count. codes "." ++ decimal count) (drop i counts) ++ rest ≡ 46 ∷ (decimal (get_or counts i 0) ++ (flat_map (λ count. codes "." ++ decimal count) (drop n counts) ++ rest))
counts_more counts i n rest within next =
    ap (λ cs. flat_map (λ count. codes "." ++ decimal count) cs ++ rest) (drop-cons counts i 0 within)
    ∙ ap (λ k. (46 ∷ decimal (get_or counts i 0) ++ flat_map (λ count. codes "." ++ decimal count) (drop k counts)) ++ rest) (sym (add-one i) ∙ next)
    ∙ append_assoc (46 ∷ decimal (get_or counts i 0)) (flat_map (λ count. codes "." ++ decimal count) (drop n counts)) rest
