use Rattle.gr_refine.proofs.ArrivingLemmas.{parked_is_ruled, finished_is_ruled, faulted_is_ruled}
use Rattle.gr_refine.proofs.StartingLemmas.{retried_is_ruled, started_is_ruled}
use Rattle.gr_refine.proofs.goroutine_laws.law_of_statuses.Goals as goal

pub returns-clause-parked : goal.returns-clause-parked
returns-clause-parked c = parked_is_ruled

pub returns-clause-finished : goal.returns-clause-finished
returns-clause-finished c = finished_is_ruled

pub returns-clause-faulted : goal.returns-clause-faulted
returns-clause-faulted c = faulted_is_ruled

pub returns-clause-retried : goal.returns-clause-retried
returns-clause-retried c = retried_is_ruled

pub returns-clause-started : goal.returns-clause-started
returns-clause-started c = started_is_ruled
