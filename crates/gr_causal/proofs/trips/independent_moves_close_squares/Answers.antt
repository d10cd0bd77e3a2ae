use Rattle.gr_causal.specs.Machine.{machine_by, conflict}
use Rattle.gr_causal.specs.Trips.{IsLogFrom}
use Rattle.gr_causal.proofs.MoveLemmas.{square, neighbours, diamond, independent_back}
use Rattle.gr_causal.proofs.MachineTripLemmas.{logs_of, apart_back}
use Rattle.gr_causal.proofs.trips.independent_moves_close_squares.Goals as goal

pub returns-clause-square : goal.returns-clause-square
returns-clause-square g c same look put step touches writes laws s log one two m n = square (conflict (machine_by same look put step touches writes)) (IsLogFrom (machine_by same look put step touches writes) s) (logs_of (machine_by same look put step touches writes) laws s) log m n one two

pub returns-clause-neighbours : goal.returns-clause-neighbours
returns-clause-neighbours g c same look put step touches writes laws s log one corner m n = neighbours (conflict (machine_by same look put step touches writes)) (IsLogFrom (machine_by same look put step touches writes) s) (logs_of (machine_by same look put step touches writes) laws s) log m n one corner

pub returns-clause-diamond : goal.returns-clause-diamond
returns-clause-diamond g c same look put step touches writes laws s log one two corner m n =
    diamond (conflict (machine_by same look put step touches writes)) (IsLogFrom (machine_by same look put step touches writes) s) (logs_of (machine_by same look put step touches writes) laws s) log m n one two corner

pub returns-clause-symmetric : goal.returns-clause-symmetric
returns-clause-symmetric g c same look put step touches writes laws m n = independent_back (conflict (machine_by same look put step touches writes)) (apart_back (machine_by same look put step touches writes)) m n
