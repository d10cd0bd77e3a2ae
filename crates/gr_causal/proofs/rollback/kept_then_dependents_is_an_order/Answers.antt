use Rattle.gr_causal.specs.Machine.{machine_by}
use Rattle.gr_causal.specs.Machine.{conflict}
use Rattle.gr_causal.proofs.OrderLemmas.{swaps_order}
use Rattle.gr_causal.proofs.AsideLemmas.{aside}
use Rattle.gr_causal.proofs.rollback.kept_then_dependents_is_an_order.Goals as goal

pub returns : goal.returns
returns g c same look put step touches writes laws log i = swaps_order (conflict (machine_by same look put step touches writes)) log _ (aside (conflict (machine_by same look put step touches writes)) log i)
