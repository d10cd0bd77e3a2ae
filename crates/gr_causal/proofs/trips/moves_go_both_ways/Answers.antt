use Rattle.gr_causal.specs.Machine.{machine_by, conflict}
use Rattle.gr_causal.specs.Trips.{IsLogFrom}
use Rattle.gr_causal.proofs.MoveLemmas.{leads_possible, leads_back, leads_one, leads_to, leads_from, back_free}
use Rattle.gr_causal.proofs.MachineTripLemmas.{logs_of}
use Rattle.gr_causal.proofs.trips.moves_go_both_ways.Goals as goal

pub returns-clause-there : goal.returns-clause-there
returns-clause-there g c same look put step touches writes laws s log next m p h = leads_possible (conflict (machine_by same look put step touches writes)) (IsLogFrom (machine_by same look put step touches writes) s) (logs_of (machine_by same look put step touches writes) laws s) log m next p h

pub returns-clause-back : goal.returns-clause-back
returns-clause-back g c same look put step touches writes laws s log next m p h = leads_back (conflict (machine_by same look put step touches writes)) (IsLogFrom (machine_by same look put step touches writes) s) (logs_of (machine_by same look put step touches writes) laws s) log m next p h

pub returns-clause-one_end : goal.returns-clause-one_end
returns-clause-one_end g c same look put step touches writes laws s log next other m h = (λ k. leads_one (conflict (machine_by same look put step touches writes)) (IsLogFrom (machine_by same look put step touches writes) s) (logs_of (machine_by same look put step touches writes) laws s) log m next other h k, λ w. leads_to (conflict (machine_by same look put step touches writes)) (IsLogFrom (machine_by same look put step touches writes) s) (logs_of (machine_by same look put step touches writes) laws s) log m next other w h)

pub returns-clause-swapped : goal.returns-clause-swapped
returns-clause-swapped g c same look put step touches writes laws s log other next m w h = leads_from (conflict (machine_by same look put step touches writes)) (IsLogFrom (machine_by same look put step touches writes) s) (logs_of (machine_by same look put step touches writes) laws s) log other m next w h

pub returns-clause-free : goal.returns-clause-free
returns-clause-free g c same look put step touches writes laws s log next r = back_free (conflict (machine_by same look put step touches writes)) (IsLogFrom (machine_by same look put step touches writes) s) (logs_of (machine_by same look put step touches writes) laws s) log next r
