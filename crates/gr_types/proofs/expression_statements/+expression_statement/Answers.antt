use Rattle.std.proofs.Common.{sym, ap, ◌∙◌, subst}
use Rattle.gr_tree.specs.Exprs.{tree_of, trees_of}
use Rattle.gr_exprs.specs.Tables.{scope_of}
use Rattle.gr_exprs.specs.FunctionTables.{functions_of}
use Rattle.gr_program.specs.Views.{act_of}
use Rattle.gr_types.specs.FindingStatements.{run_call, runs_in}
use Rattle.gr_exprs.specs.Checking.{Agrees}
use Rattle.gr_types.proofs.Running.{runs_call}
use Rattle.gr_types.proofs.expression_statements.+expression_statement.Goals as goal

pub returns-in-Call : goal.returns-in-Call
returns-in-Call t c =
    let fs = functions_of c.args.functions.now in
    let s = scope_of c.args.scope.now in
    let e = ap (λ x. runs_in fs s (tree_of x)) c.in-Call.is ∙ runs_call fs s c.in-Call.name c.in-Call.arguments in
    let n = c.deref-in-Call-2.ensures.value ∙ ap (λ v. v.items) c.deref-in-Call.ensures in
    let f = ap (λ x. run_call fs s x (trees_of c.deref-in-Call-3.result.now)) n ∙ ap (λ l. run_call fs s c.in-Call.name.value.items (trees_of l)) c.deref-in-Call-3.ensures.value in
    subst (λ o. Agrees act_of c.run_call.result o) (f ∙ sym e) c.run_call.ensures
