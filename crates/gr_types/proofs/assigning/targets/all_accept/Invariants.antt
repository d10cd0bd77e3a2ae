use Rattle.std.proofs.Common.{◌≡◌, drop}
use Rattle.gr_program.specs.TypeViews.{types_of}
use Rattle.gr_exprs.specs.Tables.{scope_of}
use Rattle.gr_types.specs.Taking.{all_accept}
use Rattle.gr_types.proofs.assigning.targets.all_accept.Given as goal

abbrev pub invariant-loop-index : goal.invariant-loop-index
invariant-loop-index l = all_accept (scope_of l.scope) (drop l.index l.targets) (types_of (drop l.index l.types)) ≡ all_accept (scope_of l.scope) l.targets (types_of l.types)
