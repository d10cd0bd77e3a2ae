-- The table of the functions' numbers, by their names.
use Rattle.std.specs.Prelude.{ℕ, List, [], ◌∷◌, ◌++◌, Option, Some, None, if◌then◌else◌}
use Rattle.gr_typing.specs.Names.{is_blank}
use Rattle.gr_typing.specs.Scopes.{Block, in_block}

abbrev pub if_new : Block → List ℕ → ℕ → Option ℕ → Block
if_new block x n (Some k) = block
if_new block x n None = block ++ ((x, n) ∷ [])

-- a function, if it is the first with its name; the blank identifier names none
abbrev pub with_function : Block → List ℕ → ℕ → Block
with_function block x n = if is_blank x then block else if_new block x n (in_block block x)
