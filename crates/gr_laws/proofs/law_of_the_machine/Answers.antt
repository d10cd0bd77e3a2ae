use Rattle.gr_laws.proofs.CellLemmas.{machine_laws}
use Rattle.gr_laws.proofs.RefusalLemmas.{refused_is_no_step}
use Rattle.gr_laws.proofs.RuleCounts.{machine_counts}
use Rattle.gr_laws.proofs.AttemptTouches.{touched_as}
use Rattle.gr_laws.proofs.law_of_the_machine.Goals as goal

pub returns-clause-laws : goal.returns-clause-laws
returns-clause-laws c = machine_laws

pub returns-clause-refusals : goal.returns-clause-refusals
returns-clause-refusals c = refused_is_no_step

pub returns-clause-counts : goal.returns-clause-counts
returns-clause-counts c = machine_counts

pub returns-clause-touches : goal.returns-clause-touches
returns-clause-touches c p s t e n = touched_as p s e t n
