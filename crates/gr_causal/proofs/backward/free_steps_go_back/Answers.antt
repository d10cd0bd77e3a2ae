use Rattle.gr_causal.specs.Machine.{machine_by, conflict}
use Rattle.gr_causal.specs.Trips.{IsLogFrom}
use Rattle.gr_causal.proofs.MachineTripLemmas.{logs_of}
use Rattle.gr_causal.proofs.BackwardLemmas.{free_goes_back, free_once_gone, free_once_all_gone}
use Rattle.gr_causal.proofs.backward.free_steps_go_back.Goals as goal

pub returns-clause-free : goal.returns-clause-free
returns-clause-free g c same look put step touches writes laws s log r = free_goes_back (conflict (machine_by same look put step touches writes)) (IsLogFrom (machine_by same look put step touches writes) s) (logs_of (machine_by same look put step touches writes) laws s) log r

pub returns-clause-gone : goal.returns-clause-gone
returns-clause-gone g c same look put step touches writes laws s log gone left r = free_once_gone (conflict (machine_by same look put step touches writes)) (IsLogFrom (machine_by same look put step touches writes) s) (logs_of (machine_by same look put step touches writes) laws s) log gone left r

pub returns-clause-all_gone : goal.returns-clause-all_gone
returns-clause-all_gone g c same look put step touches writes laws s log gone left i r = free_once_all_gone (conflict (machine_by same look put step touches writes)) (IsLogFrom (machine_by same look put step touches writes) s) (logs_of (machine_by same look put step touches writes) laws s) log i r gone left
