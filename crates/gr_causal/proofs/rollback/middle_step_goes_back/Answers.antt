use Rattle.gr_causal.specs.Machine.{machine_by}
use Rattle.gr_causal.proofs.MiddleLemmas.{still_stands, from_middle}
use Rattle.gr_causal.proofs.rollback.middle_step_goes_back.Goals as goal

pub returns-clause-stands : goal.returns-clause-stands
returns-clause-stands g c same look put step touches writes laws = still_stands (machine_by same look put step touches writes) laws

pub returns-clause-others : goal.returns-clause-others
returns-clause-others g c same look put step touches writes laws s u front back r l f = (from_middle (machine_by same look put step touches writes) laws s u front back r l f).0

pub returns-clause-again : goal.returns-clause-again
returns-clause-again g c same look put step touches writes laws s u front back r l f = (from_middle (machine_by same look put step touches writes) laws s u front back r l f).1
