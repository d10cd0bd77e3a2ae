-- The scope that the code's tables hold, and the names of functions.
use Rattle.std.specs.Prelude.{◌≡◌, ℕ, List, [], ◌∷◌, map, Vec}
use Rattle.std.proofs.Common.{Global}
use Rattle.gr_exprs.specs.declared.names.NameTable.{NameTable}
use Rattle.gr_exprs.specs.declared.scope.Scope as code_scope
use Rattle.gr_typing.specs.Scopes.{Block, Scope, In, in_block, Signature, function_in}
use Rattle.gr_program.specs.TypeViews.{declared_of}

abbrev pub entries_of : List (Vec ℕ Global × ℕ) → Block
entries_of entries = map (λ entry. (entry.0.items, entry.1)) entries

abbrev pub block_of : NameTable → Block
block_of table = entries_of table.numbers.entries

abbrev pub blocks_of : List NameTable → List Block
blocks_of [] = []
blocks_of (table ∷ tables) = block_of table ∷ blocks_of tables

abbrev pub scope_of : code_scope.Scope → Scope
scope_of s = In (block_of s.here) (blocks_of s.around.items) (declared_of s.variables.items)

-- a table says of each name which function it is
abbrev pub Finds : Block → List Signature → Type 0
Finds block fs = (x : List ℕ) → in_block block x ≡ function_in fs x
