use Rattle.gr_causal.specs.Machine.{machine_by}
use Rattle.gr_causal.proofs.MiddleLemmas.{redone, moved_to_end}
use Rattle.gr_causal.proofs.rollback.redo_restores_the_state.Goals as goal

pub returns-clause-again : goal.returns-clause-again
returns-clause-again g c same look put step touches writes laws = redone (machine_by same look put step touches writes) laws

pub returns-clause-whole : goal.returns-clause-whole
returns-clause-whole g c same look put step touches writes laws = moved_to_end (machine_by same look put step touches writes) laws
