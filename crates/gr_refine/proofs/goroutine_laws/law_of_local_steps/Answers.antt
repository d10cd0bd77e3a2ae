use Rattle.gr_refine.proofs.LocalLemmas.{local_step_is_a_step}
use Rattle.gr_refine.proofs.WithinLemmas.{local_step_is_there, local_stays_within}
use Rattle.gr_refine.proofs.goroutine_laws.law_of_local_steps.Goals as goal

pub returns-clause-step : goal.returns-clause-step
returns-clause-step c = local_step_is_a_step

pub returns-clause-is_there : goal.returns-clause-is_there
returns-clause-is_there c = local_step_is_there

pub returns-clause-within : goal.returns-clause-within
returns-clause-within c = local_stays_within
