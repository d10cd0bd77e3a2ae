use Rattle.std.proofs.Common.{sym}
use Rattle.gr_tables.proofs.ByNumber.{found_name}
use Rattle.gr_tables.proofs.goroutines.Goroutines.look_up.Goals as goal

pub returns-in-Some-clause-named : goal.returns-in-Some-clause-named
returns-in-Some-clause-named c = found_name _ _ _ (sym c.in_ok-number.ensures.index)
