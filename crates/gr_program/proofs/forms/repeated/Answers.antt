use Rattle.gr_program.proofs.Rows.{for_is}
use Rattle.gr_program.proofs.forms.repeated.Goals as goal

pub returns : goal.returns
returns c = for_is c.args.place c.args.init c.args.condition c.args.post c.args.body
