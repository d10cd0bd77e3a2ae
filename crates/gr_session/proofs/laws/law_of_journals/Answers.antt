use Rattle.std.proofs.Common.{refl}
use Rattle.gr_session.specs.Journal.{first_world}
use Rattle.gr_session.proofs.OneMeaningJournals.{one_meaning, means_on, one_world, all_of_runs, one_receipt}
use Rattle.gr_session.proofs.laws.law_of_journals.Goals as goal

pub returns-clause-next : goal.returns-clause-next
returns-clause-next c p w u v asked memory a b = one_meaning p w u v asked memory a b

pub returns-clause-runs : goal.returns-clause-runs
returns-clause-runs c p w u asked memory a = means_on p w u asked memory a

pub returns-clause-whole : goal.returns-clause-whole
returns-clause-whole c p journal u v = one_world p (first_world p) u v journal journal refl refl

pub returns-clause-reached : goal.returns-clause-reached
returns-clause-reached c p journal u = all_of_runs p (first_world p) u journal refl

pub returns-clause-receipts : goal.returns-clause-receipts
returns-clause-receipts c p asker asked old new m n a b = one_receipt p asker asked old new m n a b
