use Rattle.gr_program.specs.TypeViews.{declared_of}
use Rattle.gr_exprs.proofs.Scopes.{entered_is}
use Rattle.gr_exprs.proofs.scope.Scope.enter.Goals as goal

pub returns : goal.returns
returns c =
    entered_is c.args.self.now.around.items c.push.new.self.items c.args.self.now.here c.replace-outer.result c.new.result c.replace-outer.new.dest (declared_of c.args.self.now.variables.items) c.in_ok-push.ensures.items c.replace-outer.ensures.value c.replace-outer.ensures.after c.new.ensures
