use Rattle.gr_causal.specs.Machine.{machine_by, conflict}
use Rattle.gr_causal.specs.Trips.{IsLogFrom}
use Rattle.gr_causal.proofs.ParabolicLemmas.{back_first}
use Rattle.gr_causal.proofs.MachineTripLemmas.{logs_of}
use Rattle.gr_causal.proofs.trips.trips_can_go_back_first.Goals as goal

pub returns : goal.returns
returns g c same look put step touches writes laws s log next ms p h = let w = back_first (conflict (machine_by same look put step touches writes)) (IsLogFrom (machine_by same look put step touches writes) s) (logs_of (machine_by same look put step touches writes) laws s) log ms next p h in (w.gone, w.taken, w.shorter, w.alike)
