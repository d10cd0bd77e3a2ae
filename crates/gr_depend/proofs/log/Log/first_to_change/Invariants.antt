use Rattle.gr_depend.specs.Turned.{TurnedFrom}
use Rattle.gr_depend.proofs.log.Log.first_to_change.Given as goal

abbrev pub invariant-loop-place : goal.invariant-loop-place
invariant-loop-place l = TurnedFrom l.place l.self.records.items l.to
