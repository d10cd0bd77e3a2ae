use Rattle.std.proofs.Common.{◌≡◌, ◌++◌, drop}
use Rattle.std.specs.Prelude.{Some}
use Rattle.gr_tree.specs.Exprs.{names_of}
use Rattle.gr_program.specs.TypeViews.{types_of}
use Rattle.gr_exprs.specs.Tables.{scope_of}
use Rattle.gr_exprs.specs.Finding.{◌>>=◌}
use Rattle.gr_types.specs.Taking.{takers}
use Rattle.gr_types.specs.TakerViews.{takers_of}
use Rattle.gr_types.proofs.assigning.definition.takers_for.Given as goal

abbrev pub invariant-loop-index : goal.invariant-loop-index
invariant-loop-index l =
    (takers (scope_of l.scope) (names_of (drop l.index l.names)) (types_of (drop l.index l.types)) >>= λ ks. Some (takers_of l.takers.items ++ ks)) ≡ takers (scope_of l.scope) (names_of l.names) (types_of l.types)
