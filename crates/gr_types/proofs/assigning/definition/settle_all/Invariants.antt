use Rattle.std.proofs.Common.{◌≡◌, true, drop}
use Rattle.gr_tree.specs.Exprs.{names_of}
use Rattle.gr_exprs.specs.Tables.{scope_of}
use Rattle.gr_types.specs.Taking.{all_settled, may_settle_all}
use Rattle.gr_types.specs.TakerViews.{takers_of}
use Rattle.gr_types.proofs.NewNames.{placed}
use Rattle.gr_types.proofs.assigning.definition.settle_all.Given as goal

abbrev pub invariant-loop-name : goal.invariant-loop-name
invariant-loop-name l =
    let names = names_of (drop l.name-index l.names) in
    let takers = takers_of l.takers.items in
    (may_settle_all names takers (scope_of l.scope) ≡ true) × (placed l.targets.items (all_settled names takers (scope_of l.scope)) ≡ all_settled (names_of l.names) (takers_of l.fn.takers.items) (scope_of l.fn.scope))
