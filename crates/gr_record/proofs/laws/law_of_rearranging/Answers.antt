use Rattle.gr_record.proofs.OrderLemmas.{records_once, rearranged, rearranged_by_records}
use Rattle.gr_record.proofs.laws.law_of_rearranging.Goals as goal

pub returns-clause-once : goal.returns-clause-once
returns-clause-once c p s t records log running kept = records_once p s t records log running kept

pub returns-clause-records : goal.returns-clause-records
returns-clause-records c = rearranged_by_records

pub returns-clause-pairs : goal.returns-clause-pairs
returns-clause-pairs c = rearranged
