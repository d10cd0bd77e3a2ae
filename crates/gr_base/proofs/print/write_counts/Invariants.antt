use Rattle.std.proofs.Common.{◌≡◌, ◌++◌, ◌+◌, ◌-◌, ◌*◌, ◌≤◌, codes, decimal, length, drop, flat_map}
use Rattle.gr_base.proofs.print.write_counts.Given as goal

-- the counts that are left have room, and the others are written
abbrev pub invariant-loop-left : goal.invariant-loop-left
invariant-loop-left l = record {
  left : l.left ≤ length l.counts;
  room : l.left * 21 ≤ l.start;
  start : l.end ≤ l.start + (length l.counts - l.left) * 21;
  within : l.start ≤ l.end;
  written : drop l.start l.bytes ≡ flat_map (λ count. codes "." ++ decimal count) (drop l.left l.counts) ++ drop l.end l.fn.bytes;
}

abbrev pub decreases-loop-left : goal.decreases-loop-left
decreases-loop-left l = l.left
