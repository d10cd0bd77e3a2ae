-- The bytes that are left.
use Rattle.std.proofs.Common.{◌≡◌, ℕ, ◌<◌, ◌+◌, List, ◌∷◌, length, drop, get_or, ap, ◌∙◌, arith, add-one}
use Rattle.std.proofs.Math.Seq.{drop-cons}
use Rattle.std.proofs.lemmas.List.{get_or-drop}

pub next_byte : (s : List ℕ) (i : ℕ) → i < length s → drop i s ≡ get_or s i 0 ∷ drop (i + 1) s
next_byte s i lt = rw (add-one, drop-cons s i 0)

pub front_byte : (s : List ℕ) (i : ℕ) → get_or (drop i s) 0 0 ≡ get_or s i 0
front_byte s i = let e : i + 0 ≡ i = omega arith in get_or-drop i s 0 0 ∙ ap (λ k. get_or s k 0) e
