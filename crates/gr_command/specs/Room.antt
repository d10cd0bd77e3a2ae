-- Texts that get longer at their end, as far as there is room.
use Rattle.std.specs.Prelude.{◌≡◌, ℕ, ◌+◌, ◌<◌, ◌≤◌, List, ◌++◌, length, Vec, vec_capacity, OnOk, OnErr}
use Rattle.std.specs.declared.result.Result.{Result}
use Rattle.std.proofs.Common.{Global}

-- at most something came to the end of a text
pub record Grows (old new : Vec ℕ Global) : Type 0 where
  pub more : List ℕ
  pub items : new.items ≡ old.items ++ more
  pub capacity : vec_capacity old ≤ vec_capacity new

-- there is no room for a piece behind a text
abbrev pub IsFull : Vec ℕ Global → List ℕ → Type 0
IsFull text piece = vec_capacity text < length text.items + length piece

-- a piece came to the end of a text, or there was no room for it and at most something came
pub record Puts {T E : Type 0} (result : Result T E) (old new : Vec ℕ Global) (piece : List ℕ) : Type 0 where
  pub ok : OnOk result (new.items ≡ old.items ++ piece)
  pub full : OnErr result (IsFull old piece)
  pub grows : Grows old new
