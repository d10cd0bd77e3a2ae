use Rattle.std.proofs.Common.{◌≡◌, drop}
use Rattle.gr_depend.specs.Histories.{start_of}
use Rattle.gr_depend.proofs.log.Log.started.Given as goal

abbrev pub invariant-loop-i : goal.invariant-loop-i
invariant-loop-i l = start_of l.go (drop l.i l.self.records.items) ≡ start_of l.go l.self.records.items
