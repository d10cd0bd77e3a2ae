use Rattle.gr_causal.specs.Machine.{machine_by}
use Rattle.gr_causal.proofs.SwapLemmas.{last_undone}
use Rattle.gr_causal.proofs.MiddleLemmas.{last_again}
use Rattle.gr_causal.proofs.rollback.last_step_goes_back.Goals as goal

pub returns-clause-others : goal.returns-clause-others
returns-clause-others g c same look put step touches writes laws = last_undone (machine_by same look put step touches writes) laws

pub returns-clause-again : goal.returns-clause-again
returns-clause-again g c same look put step touches writes laws = last_again (machine_by same look put step touches writes) laws
