use Rattle.gr_program.proofs.Rows.{send_made}
use Rattle.gr_program.proofs.forms.send_case.Goals as goal

pub returns : goal.returns
returns c = send_made c.args.channel c.args.value c.args.body
