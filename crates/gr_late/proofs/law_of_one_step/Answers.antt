use Rattle.gr_late.proofs.PutOffLemmas.{past_one}
use Rattle.gr_late.proofs.law_of_one_step.Goals as goal

pub returns : goal.returns
returns c o s m t w e checked = past_one o checked s m t w e
