-- Lines and columns of a text, both counted from 1; a column is a number of bytes.
use Rattle.std.specs.Prelude.{ℕ, ◌+◌, not, List, take, reverse, ◌==◌}
use Rattle.std.specs.List.{prefix_len}
use Rattle.gr_scan.specs.declared.position.Position.{Position}
use Rattle.gr_scan.specs.Scan.{newlines}

-- how many bytes stand after the last newline
abbrev pub since_newline : List ℕ → ℕ
since_newline s = prefix_len (λ b. not (b == 10)) (reverse s)

-- the position of the byte that has this many bytes before it; past the end, where the text ends
abbrev pub position_of : List ℕ → (before : ℕ) → Position
position_of text before = record { line = 1 + newlines (take before text); column = 1 + since_newline (take before text) }
