use Rattle.std.proofs.Common.{◌≡◌, ◌+◌, ◌≤◌, [], ◌++◌, map, length, vec_capacity}
use mathlib.Core.List.{reverse}
use Rattle.rewind.specs.Beside.{numbers_of}
use Rattle.rewind.proofs.threads.start.Given as goal

abbrev pub invariant-loop-me : goal.invariant-loop-me
invariant-loop-me g l =
    (map (λ h. h.promise.number) l.threads.items ++ reverse (numbers_of l.waiting.items) ≡ reverse (numbers_of l.initial.waiting.items))
    × (length l.threads.items + length l.waiting.items ≤ vec_capacity l.threads)
    × (length l.threads.items + length l.waiting.items ≤ vec_capacity l.seats)
    × (l.seats.items ≡ [])

abbrev pub decreases-loop-me : goal.decreases-loop-me
decreases-loop-me g l = length l.waiting.items
