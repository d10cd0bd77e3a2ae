use Rattle.std.proofs.Common.{◌≡◌, ◌+◌, ◌≤◌, ◌++◌, map, length, vec_capacity}
use mathlib.Core.List.{reverse}
use Rattle.rewind.specs.Beside.{numbers_of}
use Rattle.rewind.proofs.threads.join.Given as goal

abbrev pub invariant-loop-thread : goal.invariant-loop-thread
invariant-loop-thread g l =
    (numbers_of l.seats.items ++ reverse (map (λ h. h.promise.number) l.threads.items) ≡ reverse (map (λ h. h.promise.number) l.initial.threads.items))
    × (length l.threads.items + length l.seats.items ≤ vec_capacity l.seats)

abbrev pub decreases-loop-thread : goal.decreases-loop-thread
decreases-loop-thread g l = length l.threads.items
