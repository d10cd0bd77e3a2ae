use Rattle.gr_schedules.proofs.ScheduleLemmas.{safe_runs}
use Rattle.gr_schedules.proofs.SystemLaws.{schedule_laws}
use Rattle.gr_schedules.proofs.law_of_schedules.Goals as goal

pub returns-clause-laws : goal.returns-clause-laws
returns-clause-laws c = schedule_laws

pub returns-clause-safe : goal.returns-clause-safe
returns-clause-safe c = safe_runs
