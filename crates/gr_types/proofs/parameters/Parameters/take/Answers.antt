use Rattle.std.proofs.Common.{sym, ap, ◌∙◌}
use Rattle.gr_typing.specs.Scopes.{declared}
use Rattle.gr_exprs.specs.Tables.{scope_of}
use Rattle.gr_types.proofs.ParameterScopes.{taken_is}
use Rattle.gr_types.proofs.parameters.Parameters.take.Goals as goal

pub returns : goal.returns
returns c =
    let self = c.args.self.now in
    taken_is self.types.items c.push.new.self.items self.parameters.items c.push-2.new.self.items (scope_of self.scope) (scope_of c.declare.new.self) c.args.name.now c.args.own.now c.in_ok-copy-2.field-0 c.in_ok-copy-3.field-0 c.number_of-variable.result
    (sym c.may_take.ensures ∙ c.if-not-may_take.false)
    (c.in_ok-declare.ensures ∙ ap (declared (scope_of self.scope) c.args.name.now) c.in_ok-copy.ensures)
    c.in_ok-push.ensures.items
    c.in_ok-copy-2.ensures
    c.in_ok-push-2.ensures.items
    c.number_of-variable.ensures
    c.in_ok-copy-3.ensures
