use Rattle.gr_const.proofs.Bools.{has_bits}
use Rattle.gr_const.proofs.laws.law_of_bits.Goals as goal

pub returns-clause-each : goal.returns-clause-each
returns-clause-each c = has_bits
