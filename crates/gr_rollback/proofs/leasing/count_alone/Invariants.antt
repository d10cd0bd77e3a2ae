use Rattle.std.proofs.Common.{◌≡◌, ◌+◌, ◌≤◌, drop, filter, length}
use Rattle.gr_step.specs.Leasing.{goes_alone}
use Rattle.gr_step.specs.Stores.{state_at}
use Rattle.gr_rollback.proofs.leasing.count_alone.Given as goal

-- those so far, and those to come
abbrev pub invariant-loop-place : goal.invariant-loop-place
invariant-loop-place l =
    (l.count + length (filter (goes_alone (state_at l.store)) (drop l.place l.pool.ready)) ≡ length (filter (goes_alone (state_at l.store)) l.pool.ready))
    × (l.count ≤ l.place)
