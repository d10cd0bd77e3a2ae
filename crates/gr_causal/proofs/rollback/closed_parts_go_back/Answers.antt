use Rattle.gr_causal.specs.Machine.{machine_by, conflict}
use Rattle.gr_causal.proofs.PartLemmas.{part_to_end, part_goes_back}
use Rattle.gr_causal.proofs.rollback.closed_parts_go_back.Goals as goal

pub returns-clause-order : goal.returns-clause-order
returns-clause-order g c same look put step touches writes laws = part_to_end (conflict (machine_by same look put step touches writes))

pub returns-clause-others : goal.returns-clause-others
returns-clause-others g c same look put step touches writes laws s t log gone stay l d p o = (part_goes_back (machine_by same look put step touches writes) laws s t log gone stay l d p o).0

pub returns-clause-again : goal.returns-clause-again
returns-clause-again g c same look put step touches writes laws s t log gone stay l d p o = (part_goes_back (machine_by same look put step touches writes) laws s t log gone stay l d p o).1
