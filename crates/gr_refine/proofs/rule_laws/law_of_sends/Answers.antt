use Rattle.gr_refine.proofs.SendLemmas.{sending_faults, sending_hands, sending_buffers, sending_cannot, sending_meets, sending_goes_on}
use Rattle.gr_refine.proofs.rule_laws.law_of_sends.Goals as goal

pub returns-clause-faults : goal.returns-clause-faults
returns-clause-faults c = sending_faults

pub returns-clause-hands : goal.returns-clause-hands
returns-clause-hands c = sending_hands

pub returns-clause-buffers : goal.returns-clause-buffers
returns-clause-buffers c = sending_buffers

pub returns-clause-cannot : goal.returns-clause-cannot
returns-clause-cannot c = sending_cannot

pub returns-clause-meets : goal.returns-clause-meets
returns-clause-meets c = sending_meets

pub returns-clause-goes_on : goal.returns-clause-goes_on
returns-clause-goes_on c = sending_goes_on
