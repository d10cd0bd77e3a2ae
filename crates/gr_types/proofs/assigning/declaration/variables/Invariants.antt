use Rattle.std.proofs.Common.{◌≡◌, ◌++◌, drop, map}
use Rattle.gr_tree.specs.Exprs.{names_of}
use Rattle.gr_exprs.specs.Tables.{scope_of}
use Rattle.gr_typing.specs.Scopes.{number_of}
use Rattle.gr_types.proofs.assigning.declaration.variables.Given as goal

abbrev pub invariant-loop-name : goal.invariant-loop-name
invariant-loop-name l = l.variables.items ++ map (number_of (scope_of l.scope)) (names_of (drop l.name-index l.names)) ≡ map (number_of (scope_of l.scope)) (names_of l.names)
