use Rattle.std.proofs.Common.{◌≡◌, length, map}
use Rattle.gr_scan.specs.Marks.{mark_in}
use Rattle.gr_scan.proofs.marks.look_up.Given as goal

abbrev pub invariant-loop-table : goal.invariant-loop-table
invariant-loop-table l = mark_in (map (λ entry. (entry.0.now, entry.1)) l.table) l.spelling ≡ mark_in (map (λ entry. (entry.0.now, entry.1)) l.initial.table) l.spelling

abbrev pub decreases-loop-table : goal.decreases-loop-table
decreases-loop-table l = length l.table
