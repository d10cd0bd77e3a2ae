use Rattle.gr_program.proofs.Rows.{block_is}
use Rattle.gr_program.proofs.forms.block.Goals as goal

pub returns : goal.returns
returns c = block_is c.args.body
