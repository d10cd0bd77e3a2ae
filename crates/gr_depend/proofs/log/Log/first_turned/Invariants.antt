use Rattle.std.proofs.Common.{◌<◌, ◌≤◌, ℕ}
use Rattle.gr_touches.specs.Lists.{list_numbered}
use Rattle.gr_depend.specs.Turned.{TouchesTurnedFrom}
use Rattle.gr_depend.proofs.log.Log.first_turned.Given as goal

abbrev pub invariant-loop-number : goal.invariant-loop-number
invariant-loop-number l = record {
  within : l.first ≤ l.bound;
  turned : (n : ℕ) → n < l.number → TouchesTurnedFrom l.first l.to (list_numbered l.self.lanes n);
}
