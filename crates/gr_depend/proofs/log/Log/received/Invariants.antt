use Rattle.std.proofs.Common.{◌≡◌, drop}
use Rattle.gr_depend.specs.Histories.{received}
use Rattle.gr_depend.proofs.log.Log.received.Given as goal

abbrev pub invariant-loop-i : goal.invariant-loop-i
invariant-loop-i l = received l.channel l.left (drop l.i l.self.records.items) ≡ received l.channel l.initial.left l.self.records.items
