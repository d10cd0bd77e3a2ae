use Rattle.gr_causal.specs.Machine.{machine_by}
use Rattle.gr_causal.proofs.MiddleLemmas.{each_ends}
use Rattle.gr_causal.proofs.rollback.rollback_meets_each_step.Goals as goal

pub returns : goal.returns
returns g c same look put step touches writes laws = each_ends (machine_by same look put step touches writes) laws
