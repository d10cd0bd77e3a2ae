use Rattle.std.proofs.Common.{◌≡◌, ◌++◌, drop, map}
use Rattle.gr_program.specs.TypeViews.{declared_of}
use Rattle.gr_rules.specs.Assigned.{names_of}
use Rattle.gr_facts.proofs.giving.names_of_parameters.Given as goal

abbrev pub invariant-loop-parameter : goal.invariant-loop-parameter
invariant-loop-parameter l =
    let ds = declared_of l.function.variables.items in
    let ps = l.function.parameters.items in
    map (λ name. name.items) l.names.items ++ names_of ds (map (λ p. p.variable) (drop l.parameter-index ps)) ≡ names_of ds (map (λ p. p.variable) ps)
