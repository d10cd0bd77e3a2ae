use Rattle.std.proofs.Common.{◌≡◌, drop}
use Rattle.std.specs.Prelude.{Some}
use Rattle.gr_tree.specs.Exprs.{names_of}
use Rattle.gr_exprs.specs.Tables.{scope_of}
use Rattle.gr_exprs.specs.Finding.{◌>>=◌}
use Rattle.gr_types.specs.Taking.{shares}
use Rattle.gr_exprs.specs.Checking.{meanings_of}
use Rattle.gr_types.proofs.TakerRows.{shares_before}
use Rattle.gr_types.proofs.assigning.definition.shares.Given as goal

abbrev pub invariant-loop-name : goal.invariant-loop-name
invariant-loop-name l =
    (shares (scope_of l.scope) (names_of (drop l.name-index l.names)) (meanings_of l.values.items) >>= λ rest. Some (shares_before l.takers.items l.terms.items rest)) ≡ shares (scope_of l.scope) (names_of l.names) (meanings_of l.fn.values.items)
