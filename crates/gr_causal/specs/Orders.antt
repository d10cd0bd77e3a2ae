-- Orders of a log that respect dependence. This is equivalence of traces (Mazurkiewicz, "Concurrent program schemes and
-- their interpretations", 1977), where two steps are independent if they do not conflict.
use Rattle.std.specs.Prelude.{◌≡◌, Bool, true, false, List, ◌∷◌}
use Rattle.gr_causal.specs.Sequences.{Before, Rearranges}

module _ {A : Type 0} (clash : A → A → Bool) where
  -- the same steps, each once, in an order in which no two that conflict change places
  pub record IsOrder (L N : List A) : Type 0 where
    pub steps : Rearranges L N
    pub keeps : (a b : A) → Before L a b → clash a b ≡ true → Before N a b

  -- what swaps of neighbours that do not conflict lead to
  pub data Swaps : List A → List A → Type 0 where
    none : {L : List A} → Swaps L L
    here : {a b : A} {L : List A} → clash a b ≡ false → Swaps (a ∷ b ∷ L) (b ∷ a ∷ L)
    there : {a : A} {L N : List A} → Swaps L N → Swaps (a ∷ L) (a ∷ N)
    and : {L N P : List A} → Swaps L N → Swaps N P → Swaps L P
