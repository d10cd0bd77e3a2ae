use Rattle.gr_record.proofs.AlikeLemmas.{same_dependents, same_others, same_causes}
use Rattle.gr_record.proofs.RollbackLemmas.{kept_pairs}
use Rattle.gr_record.proofs.laws.law_of_consequences.Goals as goal

pub returns-clause-pairs : goal.returns-clause-pairs
returns-clause-pairs c = kept_pairs

pub returns-clause-gone : goal.returns-clause-gone
returns-clause-gone c = same_dependents

pub returns-clause-others : goal.returns-clause-others
returns-clause-others c = same_others

pub returns-clause-caused : goal.returns-clause-caused
returns-clause-caused c = same_causes
