use Rattle.gr_causal.specs.Machine.{machine_by}
use Rattle.gr_causal.proofs.SwapLemmas.{swapped_in_log}
use Rattle.gr_causal.proofs.orders.neighbours_swap.Goals as goal

pub returns : goal.returns
returns g c same look put step touches writes laws = swapped_in_log (machine_by same look put step touches writes) laws
