use Rattle.std.proofs.Common.{◌<◌, ℕ}
use Rattle.gr_depend.specs.Turned.{AreTurned}
use Rattle.gr_depend.proofs.log.Log.turned_with.Given as goal

abbrev pub invariant-loop-earlier : goal.invariant-loop-earlier
invariant-loop-earlier l = (p : ℕ) → p < l.earlier → AreTurned l.self.records.items l.to p l.later → ⊥
