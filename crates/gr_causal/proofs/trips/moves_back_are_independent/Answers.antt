use Rattle.gr_causal.specs.Machine.{machine_by, conflict}
use Rattle.gr_causal.specs.Trips.{IsLogFrom}
use Rattle.gr_causal.proofs.MoveLemmas.{back_apart, back_shorter}
use Rattle.gr_causal.proofs.MachineTripLemmas.{logs_of}
use Rattle.gr_causal.proofs.trips.moves_back_are_independent.Goals as goal

pub returns-clause-apart : goal.returns-clause-apart
returns-clause-apart g c same look put step touches writes laws s log one two a b = back_apart (conflict (machine_by same look put step touches writes)) (IsLogFrom (machine_by same look put step touches writes) s) (logs_of (machine_by same look put step touches writes) laws s) a b log one two

pub returns-clause-shorter : goal.returns-clause-shorter
returns-clause-shorter g c same look put step touches writes laws s log next r = back_shorter (conflict (machine_by same look put step touches writes)) (IsLogFrom (machine_by same look put step touches writes) s) (logs_of (machine_by same look put step touches writes) laws s) r log next
