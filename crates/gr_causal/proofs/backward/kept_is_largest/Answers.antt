use Rattle.gr_causal.specs.Machine.{machine_by, conflict}
use Rattle.gr_causal.proofs.BackwardLemmas.{kept_part, kept_most}
use Rattle.gr_causal.proofs.backward.kept_is_largest.Goals as goal

pub returns-clause-part : goal.returns-clause-part
returns-clause-part g c same look put step touches writes laws log i x = kept_part (conflict (machine_by same look put step touches writes)) log i x

pub returns-clause-largest : goal.returns-clause-largest
returns-clause-largest g c same look put step touches writes laws log part i x d at = kept_most (conflict (machine_by same look put step touches writes)) log i x d at part
