use Rattle.gr_refine.proofs.MachineLemmas.{performed_is_step, step_is_performed, refusal_is_leaf}
use Rattle.gr_refine.proofs.laws.law_of_machines.Goals as goal

pub returns-clause-performed : goal.returns-clause-performed
returns-clause-performed c = performed_is_step

pub returns-clause-step : goal.returns-clause-step
returns-clause-step c = step_is_performed

pub returns-clause-refusal : goal.returns-clause-refusal
returns-clause-refusal c = refusal_is_leaf
