use Rattle.std.proofs.Common.{◌≡◌, ◌++◌, drop}
use Rattle.std.specs.Prelude.{Some}
use Rattle.gr_tree.specs.Exprs.{names_of}
use Rattle.gr_exprs.specs.Tables.{scope_of}
use Rattle.gr_exprs.specs.Finding.{◌>>=◌}
use Rattle.gr_types.specs.Taking.{targets}
use Rattle.gr_types.proofs.assigning.targets.all_targets.Given as goal

abbrev pub invariant-loop-name : goal.invariant-loop-name
invariant-loop-name l =
    (targets (scope_of l.scope) (names_of (drop l.name-index l.names)) >>= λ ks. Some (l.targets.items ++ ks)) ≡ targets (scope_of l.scope) (names_of l.names)
