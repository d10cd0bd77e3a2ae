use Rattle.gr_program.proofs.Rows.{call_is}
use Rattle.gr_program.proofs.forms.call.Goals as goal

pub returns : goal.returns
returns c = call_is c.args.function c.args.arguments
