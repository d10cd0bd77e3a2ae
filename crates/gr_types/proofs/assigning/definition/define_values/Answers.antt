use Rattle.gr_tree.specs.Exprs.{names_of}
use Rattle.gr_exprs.specs.Tables.{scope_of}
use Rattle.gr_types.specs.TakerViews.{shares_of}
use Rattle.gr_exprs.specs.Checking.{meanings_of}
use Rattle.gr_types.proofs.Settling.{settles_values}
use Rattle.gr_types.proofs.assigning.definition.define_values.Goals as goal

pub settle_all-requires : goal.settle_all-requires
settle_all-requires c =
    settles_values (scope_of c.args.scope.now) (names_of c.args.names.now) (meanings_of c.in_ok-values.values.items) (shares_of (c.in_ok-takers.takers, c.in_ok-takers.values)) c.requires c.in_ok-takers.ensures
