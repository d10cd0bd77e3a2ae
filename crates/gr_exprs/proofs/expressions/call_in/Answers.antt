use Rattle.std.proofs.Common.{subst}
use Rattle.gr_tree.specs.Exprs.{trees_of}
use Rattle.gr_exprs.specs.Tables.{scope_of}
use Rattle.gr_exprs.specs.FunctionTables.{functions_of}
use Rattle.gr_exprs.specs.Checking.{Agrees, called_of}
use Rattle.gr_exprs.proofs.Arguments.{call_named_is}
use Rattle.gr_exprs.proofs.expressions.call_in.Goals as goal

pub returns : goal.returns
returns c =
    subst (λ o. Agrees called_of c.call_named.result o) (call_named_is (functions_of c.args.functions.now) (scope_of c.args.scope.now) c.args.name.now (trees_of c.args.arguments.now)) c.call_named.ensures
