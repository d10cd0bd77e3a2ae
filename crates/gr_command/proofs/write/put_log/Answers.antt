use Rattle.gr_command.proofs.Growing.{puts_then, puts_within}
use Rattle.gr_command.proofs.write.put_log.Goals as goal

pub returns-in_err-put_into : goal.returns-in_err-put_into
returns-in_err-put_into c = puts_within _ c.from_residual.ensures.0 c.in_err-put_into.ensures

pub returns : goal.returns
returns c = puts_then c.in_ok-put_into.ensures c.put_three.ensures
