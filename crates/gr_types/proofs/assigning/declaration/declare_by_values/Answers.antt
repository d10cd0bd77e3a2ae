use Rattle.gr_tree.specs.Statements.{optional}
use Rattle.gr_program.specs.TypeViews.{ty_of}
use Rattle.gr_exprs.specs.Tables.{scope_of}
use Rattle.gr_exprs.specs.FunctionTables.{functions_of}
use Rattle.gr_types.proofs.Declaring.{wrong_names}
use Rattle.gr_types.proofs.assigning.declaration.declare_by_values.Goals as goal

pub returns-then-names-exprs : goal.returns-then-names-exprs
returns-then-names-exprs c =
    wrong_names (functions_of c.args.functions.now) (scope_of c.args.scope.now) c.args.names.now (optional ty_of c.args.written.now) c.args.exprs.now c.if-names-exprs.true
