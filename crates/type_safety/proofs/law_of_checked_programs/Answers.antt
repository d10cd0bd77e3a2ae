use Rattle.type_safety.proofs.CheckedRuns.{checked_goes, checked_sounds}
use Rattle.type_safety.proofs.law_of_checked_programs.Goals as goal

pub returns-clause-progress : goal.returns-clause-progress
returns-clause-progress c = checked_goes

pub returns-clause-sound : goal.returns-clause-sound
returns-clause-sound c = checked_sounds
