use Rattle.gr_syntax.proofs.Rows.{if_is}
use Rattle.gr_syntax.proofs.assembly.if_stmt.Goals as goal

pub returns : goal.returns
returns c = if_is c.args.place c.args.head c.args.body
