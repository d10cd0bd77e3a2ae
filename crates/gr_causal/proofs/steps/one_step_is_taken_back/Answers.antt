use Rattle.gr_causal.specs.Machine.{machine_by}
use Rattle.gr_causal.proofs.MiddleLemmas.{put_back, left_as_is, goes_again}
use Rattle.gr_causal.proofs.steps.one_step_is_taken_back.Goals as goal

pub returns-clause-saved : goal.returns-clause-saved
returns-clause-saved g c same look put step touches writes laws = put_back (machine_by same look put step touches writes) laws

pub returns-clause-others : goal.returns-clause-others
returns-clause-others g c same look put step touches writes laws = left_as_is (machine_by same look put step touches writes) laws

pub returns-clause-again : goal.returns-clause-again
returns-clause-again g c same look put step touches writes laws = goes_again (machine_by same look put step touches writes) laws
