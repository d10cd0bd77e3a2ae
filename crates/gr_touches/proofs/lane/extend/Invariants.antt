use Rattle.std.proofs.Common.{◌≡◌, ◌≤◌, ◌+◌, ◌++◌, vec_len, vec_capacity}
use Rattle.gr_touches.specs.Touches.{stretch}
use Rattle.gr_touches.proofs.lane.extend.Given as goal

-- the touches so far, and room for the others
abbrev pub invariant-loop-i : goal.invariant-loop-i
invariant-loop-i l = record {
  so_far : l.touches.items ≡ l.initial.touches.items ++ stretch l.writes l.place l.i;
  room : vec_len l.touches + l.count ≤ vec_capacity l.touches + l.i;
}
