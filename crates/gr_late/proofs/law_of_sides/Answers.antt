use Rattle.gr_late.proofs.SideLemmas.{one_sided}
use Rattle.gr_late.proofs.law_of_sides.Goals as goal

pub returns : goal.returns
returns c = one_sided
