use Rattle.gr_record.proofs.OrderLemmas.{middle_goes_back, middle_goes_back_by_records}
use Rattle.gr_record.proofs.laws.law_of_the_middle.Goals as goal

pub returns-clause-records : goal.returns-clause-records
returns-clause-records c = middle_goes_back_by_records

pub returns-clause-steps : goal.returns-clause-steps
returns-clause-steps c = middle_goes_back
