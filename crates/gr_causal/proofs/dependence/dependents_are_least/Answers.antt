use Rattle.gr_causal.proofs.DependenceLemmas.{dependents_are, others_are}
use Rattle.gr_causal.proofs.dependence.dependents_are_least.Goals as goal

pub returns-clause-least : goal.returns-clause-least
returns-clause-least g c clash = dependents_are clash

pub returns-clause-others : goal.returns-clause-others
returns-clause-others g c clash = others_are clash
