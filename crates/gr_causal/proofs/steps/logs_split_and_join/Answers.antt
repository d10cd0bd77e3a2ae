use Rattle.gr_causal.specs.Machine.{machine_by}
use Rattle.gr_causal.proofs.PathLemmas.{log_split, log_join, one_end, step_log}
use Rattle.gr_causal.proofs.steps.logs_split_and_join.Goals as goal

pub returns-clause-split : goal.returns-clause-split
returns-clause-split g c same look put step touches writes laws s t front back = log_split (machine_by same look put step touches writes) s front back t

pub returns-clause-join : goal.returns-clause-join
returns-clause-join g c same look put step touches writes laws = log_join (machine_by same look put step touches writes)

pub returns-clause-one_end : goal.returns-clause-one_end
returns-clause-one_end g c same look put step touches writes laws = one_end (machine_by same look put step touches writes)

pub returns-clause-one_step : goal.returns-clause-one_step
returns-clause-one_step g c same look put step touches writes laws = step_log (machine_by same look put step touches writes)
