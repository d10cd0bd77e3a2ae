use Rattle.gr_refine.proofs.StandingLemmas.{local_step_keeps_standing, arrival_keeps_standing, change_keeps_standing, gone_keeps_standing}
use Rattle.gr_refine.proofs.StandingLemmas.{waking_keeps_standing, same_goroutines_stand}
use Rattle.gr_refine.proofs.goroutine_laws.law_of_standing.Goals as goal

pub returns-clause-locally : goal.returns-clause-locally
returns-clause-locally c = local_step_keeps_standing

pub returns-clause-arriving : goal.returns-clause-arriving
returns-clause-arriving c = arrival_keeps_standing

pub returns-clause-changing : goal.returns-clause-changing
returns-clause-changing c = change_keeps_standing

pub returns-clause-gone : goal.returns-clause-gone
returns-clause-gone c = gone_keeps_standing

pub returns-clause-waking : goal.returns-clause-waking
returns-clause-waking c = waking_keeps_standing

pub returns-clause-same : goal.returns-clause-same
returns-clause-same c = same_goroutines_stand
