use Rattle.gr_syntax.proofs.Rows.{block_is}
use Rattle.gr_syntax.proofs.assembly.block_stmt.Goals as goal

pub returns : goal.returns
returns c = block_is c.args.place c.args.body
