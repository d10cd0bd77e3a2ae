use Rattle.std.proofs.Common.{◌≡◌, length, map, take, vec_len, vec_capacity}
use Rattle.gr_queries.proofs.telling.steps_told.Given as goal

abbrev pub invariant-loop-record : goal.invariant-loop-record
invariant-loop-record l =
    (l.steps.items ≡ map (λ r. (r.id, r.change.kind)) (take l.record-index l.records))
    × (vec_len l.steps ≡ l.record-index)
    × (vec_capacity l.steps ≡ length l.records)
