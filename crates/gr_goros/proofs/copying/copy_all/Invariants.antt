use Rattle.std.proofs.Common.{◌≡◌, length, take, vec_len, vec_capacity}
use Rattle.gr_goros.proofs.copying.copy_all.Given as goal

abbrev pub invariant-loop-item : goal.invariant-loop-item
invariant-loop-item g l =
    (l.copies.items ≡ take l.item-index l.items)
    × (vec_len l.copies ≡ l.item-index)
    × (vec_capacity l.copies ≡ length l.items)
