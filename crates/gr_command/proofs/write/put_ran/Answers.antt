use Rattle.gr_command.proofs.Growing.{puts_then, puts_within}
use Rattle.gr_command.proofs.write.put_ran.Goals as goal

pub returns-in_err-put_two : goal.returns-in_err-put_two
returns-in_err-put_two c = puts_within _ c.from_residual.ensures.0 c.in_err-put_two.ensures

pub returns : goal.returns
returns c = puts_then c.in_ok-put_two.ensures c.put_three.ensures
