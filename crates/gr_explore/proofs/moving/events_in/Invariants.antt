use Rattle.std.proofs.Common.{◌≡◌, ◌++◌, map, drop}
use Rattle.gr_step.specs.Records.{event_of}
use Rattle.gr_explore.proofs.moving.events_in.Given as goal

abbrev pub invariant-loop-step : goal.invariant-loop-step
invariant-loop-step l = l.events.items ++ map event_of (drop l.step-index l.log) ≡ map event_of l.log
