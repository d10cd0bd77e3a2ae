use Rattle.std.proofs.Common.{◌≡◌, ◌++◌, drop}
use Rattle.gr_schedules.specs.Names.{channels_made}
use Rattle.gr_explore.proofs.names.push_all_made.Given as goal

abbrev pub invariant-loop-step : goal.invariant-loop-step
invariant-loop-step l = l.names.items ++ channels_made (drop l.step-index l.log) ≡ l.fn.names.items ++ channels_made l.log
