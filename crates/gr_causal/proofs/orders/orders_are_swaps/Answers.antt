use Rattle.gr_causal.proofs.OrderLemmas.{reached, swaps_order}
use Rattle.gr_causal.proofs.orders.orders_are_swaps.Goals as goal

pub returns : goal.returns
returns g c clash old new d = (reached clash old new d, λ w. swaps_order clash old new w d)
