use Rattle.gr_laws.proofs.BoundLemmas.{steps_within, entered_within, left_within}
use Rattle.gr_laws.proofs.law_of_counts.Goals as goal

pub returns-clause-steps : goal.returns-clause-steps
returns-clause-steps c = steps_within

pub returns-clause-entered : goal.returns-clause-entered
returns-clause-entered c = entered_within

pub returns-clause-left : goal.returns-clause-left
returns-clause-left c = left_within
