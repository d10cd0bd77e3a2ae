use Rattle.gr_command.proofs.Growing.{puts_nothing}
use Rattle.gr_command.proofs.parts.ClauseWritten.put_into.Goals as goal

pub returns-in-None : goal.returns-in-None
returns-in-None c = rw c.in-None.is (puts_nothing c.args.text.now)
