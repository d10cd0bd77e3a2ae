use Rattle.std.proofs.Common.{refl}
use Rattle.gr_tables.proofs.ByNumber.{written_unique, sets}
use Rattle.gr_tables.proofs.goroutines.Goroutines.put.Goals as goal

pub invariant_of-self : goal.invariant_of-self
invariant_of-self c = record { unique = written_unique c.args.self.now.map c.args.number _ c.args.self.now.unique }

pub returns : goal.returns
returns c = sets c.args.self.now _ c.args.number _ refl c.requires
