use Rattle.gr_causal.specs.Machine.{machine_by}
use Rattle.gr_causal.proofs.NameLemmas.{distinct_names, rising_ordinals}
use Rattle.gr_causal.proofs.steps.names_are_distinct.Goals as goal

pub returns-clause-distinct : goal.returns-clause-distinct
returns-clause-distinct g c same look put step touches writes laws owner ordinal count counts s t log = distinct_names (machine_by same look put step touches writes) owner ordinal count counts s log t

pub returns-clause-rising : goal.returns-clause-rising
returns-clause-rising g c same look put step touches writes laws owner ordinal count counts s t log = rising_ordinals (machine_by same look put step touches writes) owner ordinal count counts s log t
