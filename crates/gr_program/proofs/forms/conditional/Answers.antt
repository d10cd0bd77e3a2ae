use Rattle.gr_program.proofs.Rows.{if_is}
use Rattle.gr_program.proofs.forms.conditional.Goals as goal

pub returns : goal.returns
returns c = if_is c.args.place c.args.init c.args.condition c.args.body c.args.otherwise
