use Rattle.std.proofs.Common.{◌≡◌, length, take, vec_len, vec_capacity}
use Rattle.gr_goros.specs.Views.{lines_of}
use Rattle.gr_goros.proofs.copying.copy_lines.Given as goal

abbrev pub invariant-loop-line : goal.invariant-loop-line
invariant-loop-line l =
    (lines_of l.copies.items ≡ lines_of (take l.line-index l.lines))
    × (vec_len l.copies ≡ l.line-index)
    × (vec_capacity l.copies ≡ length l.lines)
