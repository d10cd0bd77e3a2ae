use Rattle.gr_causal.specs.Machine.{machine_by}
use Rattle.gr_causal.proofs.RollbackLemmas.{rolled_back}
use Rattle.gr_causal.proofs.rollback.rollback_leaves_the_kept.Goals as goal

pub returns : goal.returns
returns g c same look put step touches writes laws s t log = rolled_back (machine_by same look put step touches writes) laws s log t
