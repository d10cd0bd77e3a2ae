use Rattle.gr_causal.specs.Machine.{machine_by}
use Rattle.gr_causal.proofs.StepLemmas.{conflict_is}
use Rattle.gr_causal.proofs.steps.conflict_is_a_common_object.Goals as goal

pub returns : goal.returns
returns g c same look put step touches writes laws a b = conflict_is (machine_by same look put step touches writes) laws a b
