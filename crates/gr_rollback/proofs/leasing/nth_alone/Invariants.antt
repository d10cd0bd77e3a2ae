use Rattle.std.proofs.Common.{◌≡◌, drop, filter}
use Rattle.std.specs.Prelude.{slice_get}
use Rattle.gr_step.specs.Leasing.{goes_alone}
use Rattle.gr_step.specs.Stores.{state_at}
use Rattle.gr_rollback.proofs.leasing.nth_alone.Given as goal

-- the one with the number is to come
abbrev pub invariant-loop-place : goal.invariant-loop-place
invariant-loop-place l =
    slice_get (filter (goes_alone (state_at l.store)) (drop l.place l.pool.ready)) l.left ≡ slice_get (filter (goes_alone (state_at l.store)) l.pool.ready) l.number
