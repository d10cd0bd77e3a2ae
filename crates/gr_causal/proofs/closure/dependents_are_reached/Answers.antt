use Rattle.gr_causal.proofs.ClosureLemmas.{dependents_reached}
use Rattle.gr_causal.proofs.closure.dependents_are_reached.Goals as goal

pub returns : goal.returns
returns g c clash = dependents_reached clash
