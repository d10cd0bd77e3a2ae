use Rattle.gr_refine.proofs.PerformingLemmas.{same_end_same_step, doing_is_a_step, proceeding_is_a_step, fault_is_a_step}
use Rattle.gr_refine.proofs.laws.law_of_performing.Goals as goal

pub returns-clause-same : goal.returns-clause-same
returns-clause-same c = same_end_same_step

pub returns-clause-doing : goal.returns-clause-doing
returns-clause-doing c = doing_is_a_step

pub returns-clause-proceeding : goal.returns-clause-proceeding
returns-clause-proceeding c = proceeding_is_a_step

pub returns-clause-fault : goal.returns-clause-fault
returns-clause-fault c = fault_is_a_step
