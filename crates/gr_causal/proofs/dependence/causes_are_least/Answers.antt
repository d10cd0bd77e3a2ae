use Rattle.gr_causal.proofs.DependenceLemmas.{causes_are}
use Rattle.gr_causal.proofs.dependence.causes_are_least.Goals as goal

pub returns : goal.returns
returns g c clash back = causes_are clash back
