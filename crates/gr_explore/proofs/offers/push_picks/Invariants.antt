use Rattle.std.proofs.Common.{◌≡◌, ◌++◌, drop, map}
use Rattle.gr_base.specs.declared.events.Choice.TheVariants.{Pick}
use Rattle.gr_schedules.specs.Choices.{event_by}
use Rattle.gr_explore.proofs.offers.push_picks.Given as goal

abbrev pub invariant-loop-case : goal.invariant-loop-case
invariant-loop-case l = l.events.items ++ map (λ i. event_by l.go (Pick i)) (drop l.case-index l.cases) ≡ l.fn.events.items ++ map (λ i. event_by l.go (Pick i)) l.cases
