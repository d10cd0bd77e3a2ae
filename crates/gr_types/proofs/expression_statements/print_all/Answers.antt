use Rattle.std.proofs.lemmas.Result.{err_from_is_err_and}
use Rattle.gr_exprs.specs.Tables.{scope_of}
use Rattle.gr_tree.specs.Exprs.{trees_of}
use Rattle.gr_exprs.specs.FunctionTables.{functions_of}
use Rattle.gr_types.specs.FindingStatements.{printed_in}
use Rattle.gr_types.proofs.Running.{print_on, print_refused, all_printed}
use Rattle.gr_types.proofs.expression_statements.print_all.Goals as goal

pub returns-in_err-one : goal.returns-in_err-one
returns-in_err-one c =
    let fs = functions_of c.args.functions.now in
    let s = scope_of c.args.scope.now in
    let p = err_from_is_err_and c.from_residual-in_err-one.result c.from_residual-in_err-one.ensures.1 in
    rw (p.1, p.2) (print_refused fs s c.args.arguments.now c.loop-argument.argument-index c.loop-argument.printed.items (printed_in fs s (trees_of c.args.arguments.now)) c.loop-argument.invariant c.argument-item.result c.in_err-one.field-0.0 c.loop-argument-test.true c.argument-item.is c.in_err-one.ensures)

pub loop-argument-preserved : goal.loop-argument-preserved
loop-argument-preserved c =
    let fs = functions_of c.args.functions.now in
    let s = scope_of c.args.scope.now in
    print_on fs s c.args.arguments.now c.loop-argument.argument-index c.loop-argument.printed.items (printed_in fs s (trees_of c.args.arguments.now)) c.loop-argument.invariant c.argument-item.result c.in_ok-one.one c.push.new.self.items c.loop-argument-test.true c.argument-item.is c.in_ok-one.ensures c.in_ok-push.ensures.items

pub returns : goal.returns
returns c =
    let fs = functions_of c.args.functions.now in
    let s = scope_of c.args.scope.now in
    all_printed fs s c.args.arguments.now c.loop-argument.argument-index c.loop-argument.printed.items (printed_in fs s (trees_of c.args.arguments.now)) c.loop-argument.invariant c.loop-argument-test.false
