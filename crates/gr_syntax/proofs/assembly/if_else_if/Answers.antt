use Rattle.gr_tree.specs.Statements.{statement_of}
use Rattle.gr_syntax.proofs.ClauseTurns.{if_else_if_is}
use Rattle.gr_syntax.proofs.assembly.if_else_if.Goals as goal

pub returns : goal.returns
returns c = if_else_if_is c.args.place c.args.head c.args.body (statement_of c.args.otherwise.value)
