use Rattle.type_safety.proofs.CodeOfPrograms.{checked_can, checked_fits}
use Rattle.type_safety.proofs.law_of_checked_code.Goals as goal

pub returns-clause-can_lower : goal.returns-clause-can_lower
returns-clause-can_lower c = checked_can

pub returns-clause-fits : goal.returns-clause-fits
returns-clause-fits c = checked_fits
