use Rattle.gr_laws.proofs.RunLemmas.{tally_of_run, names_of_run}
use Rattle.gr_laws.proofs.law_of_consoles.Goals as goal

pub returns-clause-texts : goal.returns-clause-texts
returns-clause-texts c p t log g l = (tally_of_run p t log g l).0

pub returns-clause-counts : goal.returns-clause-counts
returns-clause-counts c p t log g l = (tally_of_run p t log g l).1

pub returns-clause-names : goal.returns-clause-names
returns-clause-names c = names_of_run
