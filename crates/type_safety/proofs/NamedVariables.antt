-- The variables that the names of a scope stand for.
use Rattle.std.proofs.Common.{◌≡◌, ◌⊎◌, ℕ, nat_eq, List, [], ◌∷◌, ◌++◌, map, Option, Some, None, sym, inl, inr}
use Rattle.std.proofs.lemmas.Bool.{cases_Bool}
use Rattle.std.proofs.lemmas.Option.{same_Some, none-some}
use Rattle.std.specs.Cmp.Lexicographic.{pointwise}
use Rattle.gr_causal.specs.Sequences as sequences
use Rattle.gr_causal.proofs.ListLemmas.{In-append_left, In-append_right}
use Rattle.gr_typing.specs.Scopes.{Block, Scope, In, in_block, in_blocks, first_of}
use Rattle.type_safety.proofs.Promises.{Live}

abbrev named_here : Block → List ℕ
named_here block = map (λ entry. entry.1) block

abbrev named_around : List Block → List ℕ
named_around [] = []
named_around (block ∷ blocks) = named_here block ++ named_around blocks

abbrev pub named_in : Scope → List ℕ
named_in (In here around variables) = named_here here ++ named_around around

first_cases : (a b : Option ℕ) (k : ℕ) → first_of a b ≡ Some k → (a ≡ Some k) ⊎ (b ≡ Some k)
first_cases (Some j) b k e = inl e
first_cases None b k e = inr e

is_named_here : (block : Block) (x : List ℕ) (k : ℕ) → in_block block x ≡ Some k → sequences.In k (named_here block)
is_named_here [] x k e = absurd (none-some k e)
is_named_here (entry ∷ block) x k e = elim (cases_Bool (pointwise nat_eq x entry.0)) [
  | inl t ↦ inl (sym (same_Some entry.1 k (rw t at e)))
  | inr f ↦ inr (is_named_here block x k (rw f at e))
]

is_named_around : (blocks : List Block) (x : List ℕ) (k : ℕ) → in_blocks blocks x ≡ Some k
    → sequences.In k (named_around blocks)
is_named_around [] x k e = absurd (none-some k e)
is_named_around (block ∷ blocks) x k e = elim (first_cases (in_blocks blocks x) (in_block block x) k e) [
  | inl q ↦ In-append_right k (named_here block) (named_around blocks) (is_named_around blocks x k q)
  | inr q ↦ In-append_left k (named_here block) (named_around blocks) (is_named_here block x k q)
]

-- where all of them hold values, each name stands for one that does
pub named_live : (s : Scope) → Live s (named_in s)
named_live (In here around variables) x k e = elim (first_cases (in_block here x) (in_blocks around x) k e) [
  | inl q ↦ In-append_left k (named_here here) (named_around around) (is_named_here here x k q)
  | inr q ↦ In-append_right k (named_here here) (named_around around) (is_named_around around x k q)
]
