use Rattle.gr_const.proofs.Division.{rounds_down}
use Rattle.gr_const.proofs.laws.law_of_shifts.Goals as goal

pub returns : goal.returns
returns c = rounds_down
