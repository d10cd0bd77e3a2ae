use Rattle.gr_tree.specs.Exprs.{names_of}
use Rattle.gr_program.specs.TypeViews.{types_of}
use Rattle.gr_exprs.specs.Tables.{scope_of}
use Rattle.gr_types.specs.TakerViews.{takers_of}
use Rattle.gr_types.proofs.Settling.{settles_by}
use Rattle.gr_types.proofs.assigning.definition.define_each_target.Goals as goal

pub settle_all-requires : goal.settle_all-requires
settle_all-requires c =
    settles_by (scope_of c.args.scope.now) (names_of c.args.names.now) (types_of c.args.types.now) (takers_of c.in_ok-takers.takers.items) c.requires c.in_ok-takers.ensures
