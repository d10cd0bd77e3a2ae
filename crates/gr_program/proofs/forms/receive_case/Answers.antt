use Rattle.gr_program.proofs.Rows.{receive_made}
use Rattle.gr_program.proofs.forms.receive_case.Goals as goal

pub returns : goal.returns
returns c = receive_made c.args.targets c.args.channel c.args.zero c.args.body
