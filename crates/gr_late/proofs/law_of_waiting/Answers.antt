use Rattle.gr_search.proofs.LateLaws.{late_laws}
use Rattle.gr_search.proofs.LateSafe.{late_safe, late_sound}
use Rattle.gr_search.proofs.LateSteps.{late_runs}
use Rattle.gr_schedules.specs.Schedules.{schedules}
use Rattle.gr_schedules.proofs.ScheduleLemmas.{safe_runs}
use Rattle.gr_schedules.proofs.SystemLaws.{schedule_laws}
use Rattle.gr_late.specs.Waiting.{is_waiting}
use Rattle.gr_late.proofs.WaitLemmas.{wait_laws}
use Rattle.gr_late.proofs.law_of_waiting.Goals as goal

pub returns-clause-waits : goal.returns-clause-waits
returns-clause-waits c = wait_laws

pub returns-clause-laws : goal.returns-clause-laws
returns-clause-laws c o checked = late_laws (schedules o) is_waiting (schedule_laws o checked) (wait_laws o checked)

pub returns-clause-runs : goal.returns-clause-runs
returns-clause-runs c o s t es h = late_runs (schedules o) is_waiting s t es h

pub returns-clause-found : goal.returns-clause-found
returns-clause-found c o = late_sound (schedules o) is_waiting

pub returns-clause-safe : goal.returns-clause-safe
returns-clause-safe c o checked puts_off safe = safe_runs o (late_safe (schedules o) is_waiting (schedule_laws o checked) (wait_laws o checked) puts_off safe)
