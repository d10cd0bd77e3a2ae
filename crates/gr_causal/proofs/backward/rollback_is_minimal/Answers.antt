use Rattle.gr_causal.specs.Machine.{machine_by, conflict}
use Rattle.gr_causal.specs.Trips.{IsLogFrom}
use Rattle.gr_causal.proofs.MachineTripLemmas.{logs_of}
use Rattle.gr_causal.proofs.BackwardLemmas.{rollback_trip, must_go, no_fewer}
use Rattle.gr_causal.proofs.backward.rollback_is_minimal.Goals as goal

pub returns-clause-trip : goal.returns-clause-trip
returns-clause-trip g c same look put step touches writes laws s log i p = rollback_trip (conflict (machine_by same look put step touches writes)) (IsLogFrom (machine_by same look put step touches writes) s) (logs_of (machine_by same look put step touches writes) laws s) log i p

pub returns-clause-each : goal.returns-clause-each
returns-clause-each g c same look put step touches writes laws s log gone left i x = must_go (conflict (machine_by same look put step touches writes)) (IsLogFrom (machine_by same look put step touches writes) s) (logs_of (machine_by same look put step touches writes) laws s) log i x gone left

pub returns-clause-fewest : goal.returns-clause-fewest
returns-clause-fewest g c same look put step touches writes laws s log gone left i x = no_fewer (conflict (machine_by same look put step touches writes)) (IsLogFrom (machine_by same look put step touches writes) s) (logs_of (machine_by same look put step touches writes) laws s) log i x gone left
