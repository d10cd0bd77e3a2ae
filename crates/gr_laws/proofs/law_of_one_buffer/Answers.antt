use Rattle.gr_laws.proofs.BufferConflicts.{buffer_clash, fault_clash}
use Rattle.gr_laws.proofs.law_of_one_buffer.Goals as goal

pub returns-clause-exactly : goal.returns-clause-exactly
returns-clause-exactly c p s u t v receive send = buffer_clash p s u t v receive send

pub returns-clause-faults : goal.returns-clause-faults
returns-clause-faults c p s u t v other send = fault_clash p s u t v other send
