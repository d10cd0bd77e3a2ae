use Rattle.std.proofs.Common.{sym, ◌∙◌}
use Rattle.gr_exprs.specs.Tables.{scope_of}
use Rattle.gr_types.proofs.TakerRows.{no_acceptance}
use Rattle.gr_types.proofs.assigning.targets.all_accept.Goals as goal

pub returns-in-None : goal.returns-in-None
returns-in-None c =
    sym c.loop-index.invariant ∙ no_acceptance (scope_of c.args.scope.now) c.args.targets.now c.args.types.now c.loop-index.index c.loop-index-test.true c.in-None.ensures.lookup.3
