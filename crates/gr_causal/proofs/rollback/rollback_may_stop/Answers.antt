use Rattle.gr_causal.specs.Machine.{machine_by, conflict}
use Rattle.gr_causal.proofs.PartLemmas.{last_dependents, part_goes_back}
use Rattle.gr_causal.proofs.rollback.rollback_may_stop.Goals as goal

pub returns-clause-closed : goal.returns-clause-closed
returns-clause-closed g c same look put step touches writes laws log left gone i d e = last_dependents (conflict (machine_by same look put step touches writes)) log left gone i d e

pub returns-clause-others : goal.returns-clause-others
returns-clause-others g c same look put step touches writes laws s t log left gone stay i l d e o = (part_goes_back (machine_by same look put step touches writes) laws s t log gone stay l d (last_dependents (conflict (machine_by same look put step touches writes)) log left gone i d e) o).0
