use Rattle.gr_causal.specs.Machine.{machine_by, conflict}
use Rattle.gr_causal.specs.Trips.{IsLogFrom}
use Rattle.gr_causal.proofs.MoveLemmas.{trip_possible}
use Rattle.gr_causal.proofs.MachineTripLemmas.{logs_of, changes_are}
use Rattle.gr_causal.proofs.trips.trips_change_states.Goals as goal

pub returns-clause-log : goal.returns-clause-log
returns-clause-log g c same look put step touches writes laws s log next ms p h = trip_possible (conflict (machine_by same look put step touches writes)) (IsLogFrom (machine_by same look put step touches writes) s) (logs_of (machine_by same look put step touches writes) laws s) log ms next p h

pub returns-clause-state : goal.returns-clause-state
returns-clause-state g c same look put step touches writes laws s t u log next ms l h = changes_are (machine_by same look put step touches writes) laws s t log ms next l h u
