use Rattle.gr_program.proofs.Rows.{select_is}
use Rattle.gr_program.proofs.forms.choice.Goals as goal

pub returns : goal.returns
returns c = select_is c.args.place c.args.cases
