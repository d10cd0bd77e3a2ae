use Rattle.gr_search.specs.System.{tested}
use Rattle.gr_search.proofs.LateSteps.{late_runs}
use Rattle.gr_search.proofs.LateLaws.{late_laws}
use Rattle.gr_search.proofs.LateSafe.{late_safe, late_sound}
use Rattle.gr_search.proofs.law_of_late_waits.Goals as goal

pub returns-clause-laws : goal.returns-clause-laws
returns-clause-laws g c start next bad alone key waits laws waiting = late_laws (tested start next bad alone key) waits laws waiting

pub returns-clause-runs : goal.returns-clause-runs
returns-clause-runs g c start next bad alone key waits s t es h = late_runs (tested start next bad alone key) waits s t es h

pub returns-clause-safe : goal.returns-clause-safe
returns-clause-safe g c start next bad alone key waits laws waiting puts_off =
    let Y = tested start next bad alone key in
    (late_safe Y waits laws waiting puts_off, late_sound Y waits)
