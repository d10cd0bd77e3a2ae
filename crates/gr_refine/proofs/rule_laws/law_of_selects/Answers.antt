use Rattle.gr_refine.proofs.SelectLemmas.{none_ready_is_made, some_ready_is_sound, default_is_taken, default_faults, default_is_none, default_is_late, default_has_values, parking_waits, parking_faults, parking_has_default, parking_is_late, parking_has_values}
use Rattle.gr_refine.proofs.rule_laws.law_of_selects.Goals as goal

pub returns-clause-made : goal.returns-clause-made
returns-clause-made c = none_ready_is_made

pub returns-clause-some_ready : goal.returns-clause-some_ready
returns-clause-some_ready c = some_ready_is_sound

pub returns-clause-default_taken : goal.returns-clause-default_taken
returns-clause-default_taken c = default_is_taken

pub returns-clause-default_faults : goal.returns-clause-default_faults
returns-clause-default_faults c = default_faults

pub returns-clause-default_none : goal.returns-clause-default_none
returns-clause-default_none c = default_is_none

pub returns-clause-default_late : goal.returns-clause-default_late
returns-clause-default_late c = default_is_late

pub returns-clause-default_values : goal.returns-clause-default_values
returns-clause-default_values c = default_has_values

pub returns-clause-park_waits : goal.returns-clause-park_waits
returns-clause-park_waits c = parking_waits

pub returns-clause-park_faults : goal.returns-clause-park_faults
returns-clause-park_faults c = parking_faults

pub returns-clause-park_default : goal.returns-clause-park_default
returns-clause-park_default c = parking_has_default

pub returns-clause-park_late : goal.returns-clause-park_late
returns-clause-park_late c = parking_is_late

pub returns-clause-park_values : goal.returns-clause-park_values
returns-clause-park_values c = parking_has_values
