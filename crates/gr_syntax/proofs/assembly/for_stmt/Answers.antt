use Rattle.gr_syntax.proofs.Rows.{for_is}
use Rattle.gr_syntax.proofs.assembly.for_stmt.Goals as goal

pub returns : goal.returns
returns c = for_is c.args.place c.args.head c.args.body
