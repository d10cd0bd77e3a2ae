use Rattle.std.proofs.Common.{◌≡◌, map, ◌++◌}
use Rattle.gr_step.specs.Back.{marked}
use Rattle.gr_rollback.proofs.asking.names_marked.Given as goal

-- the names so far, and those of the steps that are left, are the names of all
abbrev pub invariant-loop-step : goal.invariant-loop-step
invariant-loop-step l = l.ids.items ++ map (λ r. r.id) (marked l.step-iterator.b.rest.now l.step-iterator.a.rest.now) ≡ map (λ r. r.id) (marked l.marks l.steps)
