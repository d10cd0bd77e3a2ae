use Rattle.gr_program.specs.TypeViews.{declared_of}
use Rattle.gr_exprs.proofs.Scopes.{left_is}
use Rattle.gr_exprs.proofs.scope.Scope.leave.Goals as goal

pub returns-in-Some : goal.returns-in-Some
returns-in-Some c =
    left_is c.args.self.now.around.items c.pop.new.self.items c.in-Some.outer (declared_of c.args.self.now.variables.items) c.in-Some.ensures.items
