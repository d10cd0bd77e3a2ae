use Rattle.std.proofs.Common.{◌≡◌, ◌++◌, drop}
use Rattle.gr_schedules.specs.Names.{goroutines_begun}
use Rattle.gr_explore.proofs.names.push_all_begun.Given as goal

abbrev pub invariant-loop-step : goal.invariant-loop-step
invariant-loop-step l = l.names.items ++ goroutines_begun (drop l.step-index l.log) ≡ l.fn.names.items ++ goroutines_begun l.log
