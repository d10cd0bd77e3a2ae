use Rattle.std.proofs.Common.{◌≡◌, vec_len}
use Rattle.gr_goros.specs.Undoing.{each_restored}
use Rattle.gr_goros.proofs.cells.put_each.Given as goal

abbrev pub invariant-loop-slot : goal.invariant-loop-slot
invariant-loop-slot l = each_restored l.written.items l.cells.items ≡ each_restored l.initial.written.items l.initial.cells.items

abbrev pub decreases-loop-slot : goal.decreases-loop-slot
decreases-loop-slot l = vec_len l.written
