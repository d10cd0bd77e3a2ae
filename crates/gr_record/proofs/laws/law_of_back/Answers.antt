use Rattle.gr_record.proofs.RollbackLemmas.{each_goes_back, closed_go_back, may_stop, all_go_back}
use Rattle.gr_record.proofs.laws.law_of_back.Goals as goal

pub returns-clause-each : goal.returns-clause-each
returns-clause-each c = each_goes_back

pub returns-clause-whole : goal.returns-clause-whole
returns-clause-whole c = all_go_back

pub returns-clause-stopped : goal.returns-clause-stopped
returns-clause-stopped c = may_stop

pub returns-clause-closed : goal.returns-clause-closed
returns-clause-closed c = closed_go_back
