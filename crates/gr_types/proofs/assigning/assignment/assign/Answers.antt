use Rattle.std.proofs.Common.{subst}
use Rattle.gr_tree.specs.Exprs.{names_of, trees_of}
use Rattle.gr_exprs.specs.Tables.{scope_of}
use Rattle.gr_exprs.specs.FunctionTables.{functions_of}
use Rattle.gr_program.specs.Views.{act_of}
use Rattle.gr_types.specs.TakerViews.{pair_view}
use Rattle.gr_exprs.specs.Checking.{Agrees}
use Rattle.gr_types.proofs.Taking.{assign_pair}
use Rattle.gr_types.proofs.assigning.assignment.assign.Goals as goal

pub returns-in-Some : goal.returns-in-Some
returns-in-Some c =
    let s = scope_of c.args.scope.now in
    subst (λ o. Agrees (λ a. (act_of a, s)) c.assign_received.result o) (assign_pair (functions_of c.args.functions.now) s (names_of c.args.names.now) (trees_of c.args.exprs.now) (pair_view c.in-Some.pair) c.in-Some.ensures) c.assign_received.ensures
