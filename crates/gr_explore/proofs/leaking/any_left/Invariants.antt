use Rattle.std.proofs.Common.{◌≡◌, drop}
use Rattle.std.specs.List.{list_any}
use Rattle.gr_step.specs.Stores.{state_at}
use Rattle.gr_schedules.specs.Aims.{is_left}
use Rattle.gr_schedules.specs.Names.{goroutines_begun}
use Rattle.gr_explore.proofs.leaking.any_left.Given as goal

abbrev pub invariant-loop-step : goal.invariant-loop-step
invariant-loop-step l = list_any (is_left (state_at l.store)) (goroutines_begun (drop l.step-index l.log)) ≡ list_any (is_left (state_at l.store)) (goroutines_begun l.log)
