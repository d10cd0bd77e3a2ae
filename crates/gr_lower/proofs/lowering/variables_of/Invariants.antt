use Rattle.std.proofs.Common.{◌≡◌, ◌++◌, drop, map}
use Rattle.gr_program.specs.Views.{parameters_of}
use Rattle.gr_rules.specs.Frames.{variable_of}
use Rattle.gr_lower.proofs.lowering.variables_of.Given as goal

abbrev pub invariant-loop-parameter : goal.invariant-loop-parameter
invariant-loop-parameter l = l.found.items ++ map variable_of (parameters_of (drop l.parameter-index l.parameters))
    ≡ map variable_of (parameters_of l.parameters)
