use Rattle.gr_syntax.proofs.Rows.{else_is}
use Rattle.gr_syntax.proofs.assembly.if_else.Goals as goal

pub returns : goal.returns
returns c = else_is c.args.place c.args.head c.args.body c.args.otherwise
