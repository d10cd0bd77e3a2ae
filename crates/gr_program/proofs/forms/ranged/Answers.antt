use Rattle.gr_program.proofs.Rows.{range_is}
use Rattle.gr_program.proofs.forms.ranged.Goals as goal

pub returns : goal.returns
returns c = range_is c.args.place c.args.target c.args.channel c.args.body
