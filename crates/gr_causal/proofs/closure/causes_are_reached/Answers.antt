use Rattle.gr_causal.proofs.ClosureLemmas.{causes_reached}
use Rattle.gr_causal.proofs.closure.causes_are_reached.Goals as goal

pub returns : goal.returns
returns g c clash back = causes_reached clash back
