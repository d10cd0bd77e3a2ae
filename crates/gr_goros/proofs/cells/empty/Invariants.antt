use Rattle.std.proofs.Common.{◌≡◌, replicate, vec_capacity, vec_len, None}
use Rattle.gr_goros.proofs.cells.empty.Given as goal

abbrev pub invariant-loop : goal.invariant-loop
invariant-loop l = (l.cells.items ≡ replicate l.counter None) × (vec_len l.cells ≡ l.counter) × (vec_capacity l.cells ≡ l.count)
