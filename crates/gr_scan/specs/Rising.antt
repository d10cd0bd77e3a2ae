-- The tokens of a text stand one after another.
use Rattle.std.specs.Prelude.{ℕ, ◌+◌, ◌≤◌, List, [], ◌∷◌}
use Rattle.gr_scan.specs.Tokens.{Tok, At}

-- the first token begins at this byte or behind it, and each other behind the first byte of the one before it
abbrev pub RiseFrom : ℕ → List Tok → Type 0
RiseFrom n [] = Unit {0}
RiseFrom n (At place word ∷ ts) = (n ≤ place.start) × RiseFrom (place.start + 1) ts
