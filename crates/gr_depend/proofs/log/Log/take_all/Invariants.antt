use Rattle.std.proofs.Common.{◌≤◌, ◌+◌, length, vec_capacity}
use Rattle.gr_depend.proofs.ArrangeLemmas.{AreTaken}
use Rattle.gr_depend.proofs.log.Log.take_all.Given as goal

abbrev pub invariant-loop-step : goal.invariant-loop-step
invariant-loop-step l = record {
  taken : AreTaken l.initial.self l.self l.steps.items;
  room : length l.self.records.items + length l.steps.items ≤ vec_capacity l.steps;
}

abbrev pub decreases-loop-step : goal.decreases-loop-step
decreases-loop-step l = length l.self.records.items
