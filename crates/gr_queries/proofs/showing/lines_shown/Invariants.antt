use Rattle.std.proofs.Common.{◌≡◌, length, take, vec_len, vec_capacity}
use Rattle.gr_command.specs.Replies.{lines_in}
use Rattle.gr_queries.proofs.showing.lines_shown.Given as goal

abbrev pub invariant-loop-line : goal.invariant-loop-line
invariant-loop-line l =
    (lines_in l.copies.items ≡ lines_in (take l.line-index l.lines))
    × (vec_len l.copies ≡ l.line-index)
    × (vec_capacity l.copies ≡ length l.lines)
