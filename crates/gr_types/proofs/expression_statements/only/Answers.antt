use Rattle.std.proofs.Common.{arith}
use Rattle.gr_exprs.specs.Tables.{scope_of}
use Rattle.gr_exprs.specs.FunctionTables.{functions_of}
use Rattle.gr_types.proofs.Running.{not_only}
use Rattle.gr_types.proofs.expression_statements.only.Goals as goal

pub returns-in-len2-up : goal.returns-in-len2-up
returns-in-len2-up c =
    not_only (functions_of c.args.functions.now) (scope_of c.args.scope.now) c.args.arguments.now (λ e. omega arith)
