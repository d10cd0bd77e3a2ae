-- Counts, the numbers that the names of goroutines and channels are made of.
use Rattle.std.specs.Prelude.{ℕ, ◌<◌, ◌^◌, List, All}

-- a count of children or of channels: from 1 to 4,294,967,295
abbrev pub IsCount : ℕ → Type 0
IsCount n = (0 < n) × (n < 2 ^ 32)

-- the name of a goroutine: the counts of children that lead to it from the goroutine of `main`, whose name is the empty list
abbrev pub IsGoName : List ℕ → Type 0
IsGoName counts = All IsCount counts
