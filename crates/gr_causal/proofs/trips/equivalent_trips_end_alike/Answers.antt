use Rattle.gr_causal.specs.Machine.{machine_by, conflict}
use Rattle.gr_causal.specs.Trips.{IsLogFrom}
use Rattle.gr_causal.proofs.ConsistencyLemmas.{consistent}
use Rattle.gr_causal.proofs.MachineTripLemmas.{logs_of}
use Rattle.gr_causal.proofs.trips.equivalent_trips_end_alike.Goals as goal

pub returns : goal.returns
returns g c same look put step touches writes laws s log one two ms ns p h k = consistent (conflict (machine_by same look put step touches writes)) (IsLogFrom (machine_by same look put step touches writes) s) (logs_of (machine_by same look put step touches writes) laws s) log ms ns one two p h k
