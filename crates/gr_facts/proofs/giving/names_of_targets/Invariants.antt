use Rattle.std.proofs.Common.{◌≡◌, ◌++◌, drop, map}
use Rattle.gr_program.specs.TypeViews.{declared_of}
use Rattle.gr_rules.specs.Assigned.{names_of}
use Rattle.gr_facts.proofs.giving.names_of_targets.Given as goal

abbrev pub invariant-loop-target : goal.invariant-loop-target
invariant-loop-target l =
    let ds = declared_of l.function.variables.items in
    map (λ name. name.items) l.names.items ++ names_of ds (drop l.target-index l.targets) ≡ names_of ds l.targets
