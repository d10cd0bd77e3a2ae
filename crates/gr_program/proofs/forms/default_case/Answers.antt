use Rattle.gr_program.proofs.Rows.{default_made}
use Rattle.gr_program.proofs.forms.default_case.Goals as goal

pub returns : goal.returns
returns c = default_made c.args.body
