use Rattle.gr_record.proofs.RecordLemmas.{no_object_twice, conflicts_alike}
use Rattle.gr_record.proofs.laws.law_of_conflicts.Goals as goal

pub returns-clause-once : goal.returns-clause-once
returns-clause-once c p s t a k tells = no_object_twice p s a k t tells

pub returns-clause-conflicts : goal.returns-clause-conflicts
returns-clause-conflicts c = conflicts_alike
