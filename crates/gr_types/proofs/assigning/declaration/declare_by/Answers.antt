use Rattle.std.proofs.Common.{subst, inl, inr}
use Rattle.gr_tree.specs.Statements.{optional}
use Rattle.gr_program.specs.TypeViews.{ty_of}
use Rattle.gr_exprs.specs.Tables.{scope_of}
use Rattle.gr_exprs.specs.FunctionTables.{functions_of}
use Rattle.gr_program.specs.Views.{act_of}
use Rattle.gr_exprs.specs.Checking.{Agrees}
use Rattle.gr_types.proofs.Declaring.{by_pair, by_no_pair}
use Rattle.gr_types.proofs.assigning.declaration.declare_by.Goals as goal

pub returns-then-exprs-eq1 : goal.returns-then-exprs-eq1
returns-then-exprs-eq1 c =
    subst (λ o. Agrees (λ a. (act_of a, scope_of c.declare_by_receive.new.scope)) c.declare_by_receive.result o)
    (by_pair (functions_of c.args.functions.now) (scope_of c.args.scope.now) c.args.names.now (optional ty_of c.args.written.now) c.args.exprs.now c.index-names-0.result c.index-names-1.result c.index-exprs-0.result c.deref.result.now c.deref-then-exprs-eq1.result.now c.if-names-eq2.true c.if-exprs-eq1.true c.index-names-0.is c.index-names-1.is c.index-exprs-0.is c.deref.ensures.value c.deref-then-exprs-eq1.ensures.value)
    c.declare_by_receive.ensures

pub returns : goal.returns
returns c =
    subst (λ o. Agrees (λ a. (act_of a, scope_of c.declare_by_values.new.scope)) c.declare_by_values.result o)
    (by_no_pair (functions_of c.args.functions.now) (scope_of c.args.scope.now) c.args.names.now (optional ty_of c.args.written.now) c.args.exprs.now (λ l m. elim c.else-names-eq2.either [ inl p ↦ p.1 m | inr q ↦ q l ]))
    c.declare_by_values.ensures
