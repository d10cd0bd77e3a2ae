use Rattle.std.proofs.Common.{◌≡◌, drop}
use Rattle.gr_depend.specs.Histories.{sent}
use Rattle.gr_depend.proofs.log.Log.sent.Given as goal

abbrev pub invariant-loop-i : goal.invariant-loop-i
invariant-loop-i l = sent l.channel l.left (drop l.i l.self.records.items) ≡ sent l.channel l.initial.left l.self.records.items
