use Rattle.gr_causal.specs.Machine.{machine_by}
use Rattle.gr_causal.proofs.SwapLemmas.{reordered}
use Rattle.gr_causal.proofs.orders.orders_replay_alike.Goals as goal

pub returns : goal.returns
returns g c same look put step touches writes laws s t old new = reordered (machine_by same look put step touches writes) laws s old new t
